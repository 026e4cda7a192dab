use Rattle.std.proofs.Common.{◌≡◌, sym, ap, ◌∙◌, subst, false}
use Rattle.kernel_provider.specs.Given.{Entries}
use Rattle.kernel_provider.specs.Steps.{is_held, with_value}
use Rattle.trace_types.specs.declared.value.Value.TheVariants as values
use Rattle.attribute_tree.proofs.Numbers.{no_number}
use Rattle.kernel_provider.proofs.Turns.{on_ok}
use Rattle.kernel_provider.proofs.Tables.{absent_zip, push_zip}
use Rattle.kernel_provider.proofs.table.Table.add.Goals as goal

pub add-requires : goal.add-requires
add-requires c = absent_zip c.self.inside.attributes.paths c.self.inside.values.items c.args.path.now c.self.invariant (subst (λ (e : Entries). is_held e.table c.args.path.now ≡ false) (sym c.self.view_is) c.requires.absent)

pub returns : goal.returns
returns c =
    let absent = absent_zip c.self.inside.attributes.paths c.self.inside.values.items c.args.path.now c.self.invariant (subst (λ (e : Entries). is_held e.table c.args.path.now ≡ false) (sym c.self.view_is) c.requires.absent) in
    rw (on_ok c.add.result c.unwrap.result _ c.add.ensures.paths c.unwrap.ensures, c.push_reserved.ensures.items)
    (sym (push_zip c.self.inside.attributes.paths c.self.inside.values.items c.args.path.now values.Null c.self.invariant (no_number c.self.inside.attributes.paths c.args.path.now absent)) ∙ ap (λ (e : Entries). with_value e.table c.args.path.now values.Null) c.self.view_is)
