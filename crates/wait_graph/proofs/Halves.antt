-- What a partition point tells.
use Rattle.std.proofs.Common.{◌≡◌, ℕ, ◌<◌, ◌≤◌, true, false, nat_le, nat_lt, List, length, get_or, ap, subst, arith}
use Rattle.std.specs.List.Sorted.{IsNonDecreasingBy, IsPartitionPoint}
use Rattle.std.proofs.lemmas.Option.{slice_get_within, get_or_from_slice_get, slice_get-get_or}
use Rattle.std.proofs.lemmas.Bool.{leb-true, leb-false, ltb-true, ltb-false}
use Rattle.wait_graph.specs.Cuts.{IsCutAfter, IsCutBefore, Rises}
use native.Mathlib.Decide.{ℕ_discrete}
use mathlib.Core.Logic.{dite}

module _ {X : Type 0} (key : X → ℕ) (xs : List X) where
  pub never_falls : Rises key xs → IsNonDecreasingBy key xs
  never_falls up i j d le lt = dite (ℕ_discrete i j) (λ e. let r = ap (λ n. key (get_or xs n d)) e in omega (arith, r))
      (λ ne. let less = up i j (get_or xs i d) (get_or xs j d) (omega (arith, le, ne)) (slice_get-get_or xs i d (omega (arith, le, lt))) (slice_get-get_or xs j d lt) in omega (arith, less))

  pub cut_after : (wanted count : ℕ) → count ≤ length xs → IsPartitionPoint (λ y. nat_le (key y) wanted ≡ true) (λ y. nat_le (key y) wanted ≡ false) xs count → IsCutAfter key xs wanted count
  cut_after wanted count bound point = record {
    bound = bound;
    low = λ k x lt at. subst (λ y. key y ≤ wanted) (get_or_from_slice_get xs k x x at) (leb-true _ _ (point.0 k x (omega arith) lt));
    high = λ k x le at. subst (λ y. wanted < key y) (get_or_from_slice_get xs k x x at) (leb-false _ _ (point.1 k x le (slice_get_within xs k x at)));
  }

  pub cut_before : (wanted count : ℕ) → count ≤ length xs → IsPartitionPoint (λ y. nat_lt (key y) wanted ≡ true) (λ y. nat_lt (key y) wanted ≡ false) xs count → IsCutBefore key xs wanted count
  cut_before wanted count bound point = record {
    bound = bound;
    low = λ k x lt at. subst (λ y. key y < wanted) (get_or_from_slice_get xs k x x at) (ltb-true _ _ (point.0 k x (omega arith) lt));
    high = λ k x le at. subst (λ y. wanted ≤ key y) (get_or_from_slice_get xs k x x at) (ltb-false _ _ (point.1 k x le (slice_get_within xs k x at)));
  }
