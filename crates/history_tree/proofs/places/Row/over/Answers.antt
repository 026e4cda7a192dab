use Rattle.std.proofs.Common.{◌≡◌, ◌≤◌, ap, ◌∙◌, subst, arith}
use Rattle.std.specs.List.Sorted.{IsNonDecreasingBy}
use Rattle.history_tree.specs.Places.{PlaceList, start_of}
use Rattle.history_tree.proofs.Slicing.{fewer_begun, may_meet}
use Rattle.history_tree.proofs.places.Row.over.Goals as goal

pub slice_bounds-result-count : goal.slice_bounds-result-count
slice_bounds-result-count c =
    let places = c.self.inside.places.items in
    let fewer : c.count_begun.result ≤ c.count_begun-end.result = fewer_begun places c.args.from c.args.to c.count_begun.result c.count_begun-end.result c.requires (rw c.deref.ensures.value at c.count_begun.ensures) (rw c.deref-2.ensures.value at c.count_begun-end.ensures) in
    omega (arith, c.saturating_sub-first.ensures, fewer)

pub slice_bounds-result-start : goal.slice_bounds-result-start
slice_bounds-result-start c =
    let places = c.self.inside.places.items in
    let fewer : c.count_begun.result ≤ c.count_begun-end.result = fewer_begun places c.args.from c.args.to c.count_begun.result c.count_begun-end.result c.requires (rw c.deref.ensures.value at c.count_begun.ensures) (rw c.deref-2.ensures.value at c.count_begun-end.ensures) in
    let low : c.saturating_sub-first.result ≤ c.count_begun-end.result = omega (arith, c.saturating_sub-first.ensures, fewer) in
    low

pub returns : goal.returns
returns c =
    let whole = ap (λ (r : PlaceList). r.places) c.self.view_is in
    let same : c.deref-3.result.now ≡ c.args.self.now.places = c.deref-3.ensures.value ∙ whole in
    rw same (may_meet c.args.self.now.places c.args.from c.args.to c.count_begun.result c.count_begun-end.result c.saturating_sub-first.result c.requires (subst (IsNonDecreasingBy start_of) whole c.self.invariant) (rw (c.deref.ensures.value, whole) at c.count_begun.ensures) (rw (c.deref-2.ensures.value, whole) at c.count_begun-end.ensures) c.saturating_sub-first.ensures)
