-- Of sorted places those whose intervals may meet a range.
use Rattle.std.proofs.Common.{◌≡◌, ◌⊎◌, inl, inr, ℕ, ◌+◌, ◌-◌, ◌<◌, ◌≤◌, List, length, get_or, take, drop, Contains, sym, ap, ◌∙◌, arith}
use Rattle.std.specs.List.Sorted.{IsNonDecreasingBy}
use Rattle.std.proofs.lemmas.Bool.{cases_order}
use Rattle.std.proofs.lemmas.List.{length-take, length-drop, get_or-take, get_or-drop, get_or_default}
use Rattle.history_tree.specs.declared.places.Place.{Place}
use Rattle.history_tree.specs.Places.{start_of, IsBegunCount}
use Rattle.history_tree.specs.Over.{MayMeet}

-- what stands at a place between two others stands in the slice between them
pub in_slice : {A : Type 0} (xs : List A) (a n k : ℕ) (x : A) → a ≤ k → k < a + n → k < length xs → get_or xs k x ≡ x → Contains (take n (drop a xs)) x
in_slice xs a n k x low high lt at =
    let here : a + (k - a) ≡ k = omega arith in
    (k - a, omega (arith, length-take n (drop a xs), length-drop a xs), get_or-take n (drop a xs) (k - a) x (omega arith) ∙ (get_or-drop a xs (k - a) x ∙ (ap (λ j. get_or xs j x) here ∙ at)))

-- what stands in a slice stands in the list
pub from_slice : {A : Type 0} (xs : List A) (a n : ℕ) (x : A) → Contains (take n (drop a xs)) x → Contains xs x
from_slice xs a n x (k, lt, at) =
    let short : k < n = omega (arith, lt, length-take n (drop a xs)) in
    (a + k, omega (arith, lt, length-take n (drop a xs), length-drop a xs), sym (get_or-take n (drop a xs) k x short ∙ get_or-drop a xs k x) ∙ at)

none : Place
none = record { start = 0; node = 0 }

-- no more begin by an earlier instant
pub fewer_begun : (places : List Place) (from to b c : ℕ) → from ≤ to → IsBegunCount places from b → IsBegunCount places to c → b ≤ c
fewer_begun places from to b c le h g = by (cases_order b c)
  where
    by : (b ≡ c) ⊎ ((b < c) ⊎ (c < b)) → b ≤ c
    by (inl e) = omega (arith, e)
    by (inr (inl l)) = omega (arith, l)
    by (inr (inr l)) = absurd (omega (arith, le, h.begun c none l, g.later c none (omega arith) (omega (arith, l, h.bound))))

pub may_meet : (places : List Place) (from to b c first : ℕ) → from ≤ to → IsNonDecreasingBy start_of places → IsBegunCount places from b → IsBegunCount places to c → first ≡ b - 1 → MayMeet places from to (take (c - first) (drop first places))
may_meet places from to b c first le up h g is = record {
  listed = λ p m. from_slice places first (c - first) p m;
  inside = λ p (k, lt, at) after until.
      let s = ap start_of at in
      in_slice places first (c - first) k p (omega (arith, is, past p k lt at after (cases_order k b))) (omega (arith, before p k lt at until (cases_order k c), is, more)) lt at;
  first = λ p (k, lt, at) by'.
      let s = ap start_of at in
      let l : k < b = low p k lt at by' (cases_order k b) in
      let q = get_or places (b - 1) p in
      let there : b - 1 < length places = omega (arith, l, h.bound) in
      record {
        place = q;
        listed = in_slice places first (c - first) (b - 1) q (omega (arith, is)) (omega (arith, is, l, more)) there (get_or_default places (b - 1) q p there);
        later = omega (arith, s, up k (b - 1) p (omega arith) there);
        begun = h.begun (b - 1) p (omega arith);
      };
}
  where
    more : b ≤ c
    more = fewer_begun places from to b c le h g

    past : (p : Place) (k : ℕ) → k < length places → get_or places k p ≡ p → from < p.start → (k ≡ b) ⊎ ((k < b) ⊎ (b < k)) → b ≤ k
    past p k lt at after (inl e) = omega (arith, e)
    past p k lt at after (inr (inl l)) = let s = ap start_of at in absurd (omega (arith, s, after, h.begun k p l))
    past p k lt at after (inr (inr l)) = omega (arith, l)

    before : (p : Place) (k : ℕ) → k < length places → get_or places k p ≡ p → p.start ≤ to → (k ≡ c) ⊎ ((k < c) ⊎ (c < k)) → k < c
    before p k lt at until (inl e) = let s = ap start_of at in absurd (omega (arith, s, until, g.later k p (omega (arith, e)) lt))
    before p k lt at until (inr (inl l)) = l
    before p k lt at until (inr (inr l)) = let s = ap start_of at in absurd (omega (arith, s, until, g.later k p (omega (arith, l)) lt))

    low : (p : Place) (k : ℕ) → k < length places → get_or places k p ≡ p → p.start ≤ from → (k ≡ b) ⊎ ((k < b) ⊎ (b < k)) → k < b
    low p k lt at until (inl e) = let s = ap start_of at in absurd (omega (arith, s, until, h.later k p (omega (arith, e)) lt))
    low p k lt at until (inr (inl l)) = l
    low p k lt at until (inr (inr l)) = let s = ap start_of at in absurd (omega (arith, s, until, h.later k p (omega (arith, l)) lt))
