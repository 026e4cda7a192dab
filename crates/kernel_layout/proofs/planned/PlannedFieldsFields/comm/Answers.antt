use Rattle.std.proofs.Common.{◌≡◌, ◌∙◌, Some, None, sym, ap, arith, rules}
use Rattle.kernel_layout.specs.Plans.{found, name_by_plan}
use Rattle.kernel_layout.proofs.PlannedNames.{found_placed, name_found}
use Rattle.kernel_layout.proofs.planned.PlannedFieldsFields.comm.Goals as goal

pub returns-in_err-field : goal.returns-in_err-field
returns-in_err-field c =
    let none : found c.args.name c.args.self.plan.now.fields ≡ None = search rules in
    c.from_residual.ensures
    ∙ ap (name_by_plan c.args.self.bits.bytes.now c.args.self.bits.end c.args.self.at) (sym none)
    ∙ sym (name_found c.args.self.table.now c.args.self.plan.now c.args.self.bits.bytes.now c.args.self.bits.end c.args.self.at c.args.name c.requires.usable)

pub overflow_add-self : goal.overflow_add-self
overflow_add-self c =
    let there : found c.args.name c.args.self.plan.now.fields ≡ Some c.in_ok-field.field.now = search rules in
    let placed = found_placed c.args.self.plan.now.bits c.args.name c.args.self.plan.now.fields c.in_ok-field.field.now c.requires.usable.fields there in
    omega (arith, placed.within, c.requires.there, c.requires.span.small)

pub name_spelt-requires-clause-readable : goal.name_spelt-requires-clause-readable
name_spelt-requires-clause-readable c =
    let there : found c.args.name c.args.self.plan.now.fields ≡ Some c.in_ok-field.field.now = search rules in
    (found_placed c.args.self.plan.now.bits c.args.name c.args.self.plan.now.fields c.in_ok-field.field.now c.requires.usable.fields there).readable

pub name_spelt-requires-clause-there : goal.name_spelt-requires-clause-there
name_spelt-requires-clause-there c =
    let there : found c.args.name c.args.self.plan.now.fields ≡ Some c.in_ok-field.field.now = search rules in
    let placed = found_placed c.args.self.plan.now.bits c.args.name c.args.self.plan.now.fields c.in_ok-field.field.now c.requires.usable.fields there in
    omega (arith, placed.within, c.requires.there)

pub returns : goal.returns
returns c =
    let there : found c.args.name c.args.self.plan.now.fields ≡ Some c.in_ok-field.field.now = search rules in
    c.name_spelt.ensures
    ∙ ap (name_by_plan c.args.self.bits.bytes.now c.args.self.bits.end c.args.self.at) (sym there)
    ∙ sym (name_found c.args.self.table.now c.args.self.plan.now c.args.self.bits.bytes.now c.args.self.bits.end c.args.self.at c.args.name c.requires.usable)
