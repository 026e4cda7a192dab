-- What searches over places tell.
use Rattle.std.proofs.Common.{◌≡◌, ◌≢◌, ◌⊎◌, inl, inr, ℕ, zero, suc, ◌-◌, ◌<◌, ◌≤◌, true, false, nat_le, nat_lt, List, [], ◌∷◌, ◌++◌, length, get_or, Contains, refl, sym, ap, ◌∙◌, subst, arith}
use Rattle.std.specs.List.Sorted.{IsNonDecreasingBy, IsPartitionPoint}
use Rattle.std.proofs.lemmas.Bool.{cases_order, ltb-true, ltb-false, leb-true, leb-false}
use Rattle.std.proofs.lemmas.List.{get_or_default, get_or_read_under}
use Rattle.history_tree.specs.declared.places.Place.{Place}
use Rattle.history_tree.specs.Places.{PlaceList, start_of, row_at, places_of, HaveSame, IsGap, IsBegunCount, IsLatest}

pub gap_found : (places : List Place) (start at : ℕ) → at ≤ length places → IsPartitionPoint (λ y. nat_lt (start_of y) start ≡ true) (λ y. nat_lt (start_of y) start ≡ false) places at → IsGap places start at
gap_found places start at bound point = record {
  bound = bound;
  before = λ k d lt. let h = ltb-true _ _ (point.0 k d (omega arith) lt) in omega (arith, h);
  after = λ k d le lt. ltb-false _ _ (point.1 k d le lt);
}

pub count_found : (places : List Place) (t count : ℕ) → count ≤ length places → IsPartitionPoint (λ y. nat_le (start_of y) t ≡ true) (λ y. nat_le (start_of y) t ≡ false) places count → IsBegunCount places t count
count_found places t count bound point = record {
  bound = bound;
  begun = λ k d lt. leb-true _ _ (point.0 k d (omega arith) lt);
  later = λ k d le lt. leb-false _ _ (point.1 k d le lt);
}

pub none_begun : (places : List Place) (t count : ℕ) → IsBegunCount places t count → count ≡ 0 → (p : Place) → Contains places p → t < p.start
none_begun places t count b z p (i, lt, at) = let h = b.later i p (omega (arith, z)) lt in let s = ap start_of at in omega (arith, h, s)

pub latest_is : (places : List Place) (t count : ℕ) (place : Place) → IsNonDecreasingBy start_of places → IsBegunCount places t count → count ≢ 0 → place ≡ get_or places (count - 1) place → IsLatest places t place
latest_is places t count place up b pos is = record {
  listed = (count - 1, omega (arith, b.bound), sym is);
  begun = let h = b.begun (count - 1) place (omega arith) in let s = ap start_of is in omega (arith, h, s);
  latest = λ other (i, lt, at) le. by other i lt at le (cases_order i count);
}
  where
    past : (other : Place) (i : ℕ) → i < length places → get_or places i other ≡ other → count ≤ i → t < other.start
    past other i lt at high = let h = b.later i other high lt in let s = ap start_of at in omega (arith, h, s)

    by : (other : Place) (i : ℕ) → i < length places → get_or places i other ≡ other → other.start ≤ t → (i ≡ count) ⊎ ((i < count) ⊎ (count < i)) → other.start ≤ place.start
    by other i lt at le (inl same) = absurd (omega (arith, le, past other i lt at (omega (arith, same))))
    by other i lt at le (inr (inl low)) =
        let h : start_of (get_or places i other) ≤ start_of (get_or places (count - 1) other) = up i (count - 1) other (omega arith) (omega (arith, b.bound)) in
        let s = ap start_of at in
        let l = ap start_of (is ∙ get_or_default places (count - 1) place other (omega (arith, b.bound))) in
        omega (arith, h, s, l)
    by other i lt at le (inr (inr high)) = absurd (omega (arith, le, past other i lt at (omega arith)))

-- a row that was read is the row of its number
pub read_row : (rows : List PlaceList) (number : ℕ) (row : PlaceList) → row ≡ get_or rows number row → number < length rows → row ≡ row_at number rows
read_row rows number row e lt = get_or_read_under rows number (length rows) row (record { places = []; spare = 0 }) e lt refl

-- a row with no places changes none
same_push : (rows : List PlaceList) (row : PlaceList) (n : ℕ) → row.places ≡ [] → places_of n (rows ++ row ∷ []) ≡ places_of n rows
same_push [] row zero e = e
same_push [] row (suc n) e = refl
same_push (r ∷ rs) row zero e = refl
same_push (r ∷ rs) row (suc n) e = same_push rs row n e

pub same_pushed : (old rows new : List PlaceList) (row : PlaceList) → HaveSame old rows → row.places ≡ [] → new ≡ rows ++ row ∷ [] → HaveSame old new
same_pushed old rows new row h e is = subst (HaveSame old) (sym is) (record { each = λ n. same_push rows row n e ∙ h.each n })
