use Rattle.std.proofs.Common.{◌≡◌, ap, ◌∙◌, subst}
use Rattle.std.specs.List.Sorted.{IsNonDecreasingBy}
use Rattle.history_tree.specs.Places.{PlaceList, start_of}
use Rattle.history_tree.proofs.Rows.{none_begun, latest_is}
use Rattle.history_tree.proofs.places.Row.latest.Goals as goal

pub returns-then-begun-eq0-clause-none : goal.returns-then-begun-eq0-clause-none
returns-then-begun-eq0-clause-none c =
    let same : c.deref.result.now ≡ c.args.self.now.places = c.deref.ensures.value ∙ ap (λ (r : PlaceList). r.places) c.self.view_is in
    none_begun c.args.self.now.places c.args.t c.count_begun-begun.result (rw same at c.count_begun-begun.ensures) c.if-begun-eq0.true

pub returns-clause-found : goal.returns-clause-found
returns-clause-found c =
    let whole = ap (λ (r : PlaceList). r.places) c.self.view_is in
    let same : c.deref.result.now ≡ c.args.self.now.places = c.deref.ensures.value ∙ whole in
    latest_is c.args.self.now.places c.args.t c.count_begun-begun.result c.index.result.now (subst (IsNonDecreasingBy start_of) whole c.self.invariant) (rw same at c.count_begun-begun.ensures) c.if-begun-eq0.false (rw whole at c.index.ensures)
