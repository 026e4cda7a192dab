use Rattle.std.proofs.Common.{◌∙◌, sym, ap}
use Rattle.type_table.specs.Names.{same_name}
use Rattle.read_plan.proofs.Plans.{tells_next}
use Rattle.read_plan.proofs.context.tells.Goals as goal

pub loop-field-preserved : goal.loop-field-preserved
loop-field-preserved c =
    c.loop-field.invariant ∙ tells_next c.args.table.now c.args.text.now c.args.fields.now c.loop-field.field-index _ c.loop-field-test.true (ap (same_name c.args.text.now) (sym c.name.ensures) ∙ sym c.if-is_same_name.ensures)
