use Rattle.std.proofs.Common.{rules, length, of_z, subst, sym, to_z}
use mir.Syntax.{w128}
use Rattle.type_table.specs.Table.{LabelNamesIn}
use Rattle.ctf_fields.proofs.Holding.{holding_names}
use Rattle.ctf_fields.proofs.choice.chosen.Goals as goal

pub by_labels-requires-clause-labels : goal.by_labels-requires-clause-labels
by_labels-requires-clause-labels c =
    let names : LabelNamesIn (length c.table.result.now.names) c.in-Some-Enum.labels = search rules in
    subst (LabelNamesIn (length c.table.result.now.names)) (sym c.around.ensures) (holding_names (length c.table.result.now.names) (to_z w128 (of_z w128 c.in-Some.value)) c.in-Some-Enum.labels names)
