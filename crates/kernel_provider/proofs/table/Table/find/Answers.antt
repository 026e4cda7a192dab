use Rattle.std.proofs.Common.{◌≡◌, ◌<◌, subst, true, false, length, arith, rules, Some, None, slice_get, refl}
use Rattle.std.proofs.lemmas.Option.{slice_get_read}
use Rattle.attribute_tree.specs.Numbered.{number_among}
use Rattle.attribute_tree.proofs.Numbers.{number_place}
use Rattle.kernel_provider.specs.Given.{Entries}
use Rattle.kernel_provider.specs.Steps.{is_held, number_of, value_in}
use Rattle.kernel_provider.proofs.Tables.{held_zip, new_zip, length_zip}
use Rattle.kernel_provider.proofs.table.Table.find.Goals as goal

pub returns-in_err-number-clause-none : goal.returns-in_err-number-clause-none
returns-in_err-number-clause-none c =
    let none : number_among c.self.inside.attributes.paths c.args.path.now ≡ None = search rules in
    rw c.from_residual.ensures (subst (λ (e : Entries). is_held e.table c.args.path.now ≡ false) c.self.view_is (new_zip c.self.inside.attributes.paths c.self.inside.values.items c.args.path.now c.self.invariant none))

pub returns-clause-found : goal.returns-clause-found
returns-clause-found c =
    let number : number_among c.self.inside.attributes.paths c.args.path.now ≡ Some c.in_ok-number.number = search rules in
    let value : slice_get c.self.inside.values.items c.in_ok-number.number ≡ Some c.index-value.result.now =
    slice_get_read c.self.inside.values.items (length c.self.inside.values.items) c.in_ok-number.number c.index-value.result.now refl
    (omega (arith, (number_place c.self.inside.attributes.paths c.args.path.now c.in_ok-number.number number).1, c.self.invariant)) (search rules) in
    subst (λ (e : Entries). (is_held e.table c.args.path.now ≡ true) × (c.in_ok-number.number ≡ number_of e.table c.args.path.now) × (c.index-value.result.now ≡ value_in e.table c.args.path.now)) c.self.view_is
    (held_zip c.self.inside.attributes.paths c.self.inside.values.items c.args.path.now c.self.invariant c.in_ok-number.number c.index-value.result.now number value)

pub returns-clause-within : goal.returns-clause-within
returns-clause-within c =
    let number : number_among c.self.inside.attributes.paths c.args.path.now ≡ Some c.in_ok-number.number = search rules in
    subst (λ (e : Entries). c.in_ok-number.number < length e.table) c.self.view_is
    (omega (arith, (number_place c.self.inside.attributes.paths c.args.path.now c.in_ok-number.number number).1, length_zip c.self.inside.attributes.paths c.self.inside.values.items c.self.invariant))
