use Rattle.std.proofs.Common.{◌≡◌, map, ap, ◌∙◌}
use Rattle.std.proofs.lemmas.List.{take_all}
use Rattle.std.proofs.lemmas.List.Filters.{dedup_is}
use Rattle.std.proofs.lemmas.List.Kept.{Contains-dedup_nat, Contains-from_dedup}
use Rattle.std.proofs.lemmas.List.Sorted.{Contains-permutation, IsPermutation-sym}
use Rattle.std.proofs.lemmas.Map.Keys.{IsStrictlyIncreasing-dedup}
use Rattle.history_tree.specs.Over.{node_of}
use Rattle.history_tree.proofs.over.nodes_of.Goals as goal

pub returns-clause-rising : goal.returns-clause-rising
returns-clause-rising c = rw (dedup_is _ _ _ c.dedup.ensures.filtered) (IsStrictlyIncreasing-dedup _ c.sort_unstable.ensures.sorted)

pub returns-clause-each : goal.returns-clause-each
returns-clause-each c n =
    let is = dedup_is _ _ _ c.dedup.ensures.filtered in
    let all : c.loop-place.numbers.items ≡ map node_of c.args.places.now = c.loop-place.invariant ∙ ap (map node_of) (take_all c.loop-place.place-index c.args.places.now c.loop-place-test.false) in
    let moved = rw all at c.sort_unstable.ensures.permutation in
    (λ h. Contains-permutation _ _ n (IsPermutation-sym _ _ moved) (Contains-from_dedup _ _ n (rw is at h)), λ h. rw is (Contains-dedup_nat _ n (Contains-permutation _ _ n moved h)))
