use Rattle.std.proofs.Common.{◌≡◌, sym, ap, ◌∙◌, subst, true, arith, slice_set}
use Rattle.std.specs.List.{zip}
use Rattle.kernel_provider.specs.Given.{Entries}
use Rattle.kernel_provider.specs.Steps.{is_held, number_of, with_value}
use Rattle.kernel_provider.proofs.Tables.{place_zip, number_zip, set_zip}
use Rattle.kernel_provider.proofs.table.Table.set.Goals as goal

pub index_mut-requires : goal.index_mut-requires
index_mut-requires c =
    let ps = c.self.inside.attributes.paths in
    let vs = c.self.inside.values.items in
    let place = place_zip ps vs c.args.path.now c.self.invariant (subst (λ (e : Entries). is_held e.table c.args.path.now ≡ true) (sym c.self.view_is) c.requires.held) in
    let number = subst (λ (e : Entries). c.args.number ≡ number_of e.table c.args.path.now) (sym c.self.view_is) c.requires.number in
    omega (arith, place, number ∙ number_zip ps vs c.args.path.now c.self.invariant, c.self.invariant)

pub returns : goal.returns
returns c =
    let ps = c.self.inside.attributes.paths in
    let vs = c.self.inside.values.items in
    let place = place_zip ps vs c.args.path.now c.self.invariant (subst (λ (e : Entries). is_held e.table c.args.path.now ≡ true) (sym c.self.view_is) c.requires.held) in
    let number = subst (λ (e : Entries). c.args.number ≡ number_of e.table c.args.path.now) (sym c.self.view_is) c.requires.number in
    ap (λ n. zip ps (slice_set vs n c.args.value)) (number ∙ number_zip ps vs c.args.path.now c.self.invariant)
    ∙ (sym (set_zip ps vs c.args.path.now c.args.value c.self.invariant place) ∙ ap (λ (e : Entries). with_value e.table c.args.path.now c.args.value) c.self.view_is)
