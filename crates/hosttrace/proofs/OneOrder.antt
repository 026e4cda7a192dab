-- Items that stand in one order, and the names of a folder's files.
use Rattle.std.proofs.Common.{◌≡◌, ◌⊎◌, ◌∙◌, ◌≤◌, ◌+◌, inl, inr, ℕ, zero, suc, Bool, true, false, cond, List, [], ◌∷◌, filter, count_by, nat_eq, Ordering, Less, Equal, Greater, nat_cmp, is_lt, is_eq, Contains, AllPairs, IsPermutation, refl, sym, ap, subst, arith, ⊎_elim}
use Rattle.std.specs.Cmp.Lexicographic.{bytes_decides, nat_list_cmp_total, nat_list_eq_equiv, pointwise, slice_cmp}
use Rattle.std.specs.Ordering.{ordering_reverse}
use Rattle.std.proofs.lemmas.List.Kept.{AllPairs-filter}
use Rattle.std.proofs.lemmas.List.Sums.{sum_by-cons}
use Rattle.std.proofs.lemmas.List.Sorted.{Contains-permutation, IsPermutation-sym}
use Rattle.std.proofs.lemmas.Map.Keys.{IsDistinct-IsPermutation}
use Rattle.std.proofs.lemmas.Map.Made.{AllPairs-from_IsDistinct, IsDistinct-from_AllPairs}
use Rattle.std.proofs.lemmas.Map.Text.{is_eq-slice_cmp}
use Rattle.ht_outside.specs.Files.{Files, ListsNames}
use Rattle.hosttrace.specs.Folders.{is_shown}
use Rattle.hosttrace.specs.Streams.{AreChosen, AreStreamNames, IsNameNotAfter, is_stream_name}

-- ---- items by recursion

module _ {X : Type 0} where
  abbrev pub In : X → List X → Type 0
  In x [] = ⊥
  In x (y ∷ ys) = (y ≡ x) ⊎ In x ys

  pub in_from : (xs : List X) (x : X) → Contains xs x → In x xs
  in_from [] x (k, lt, is) = absurd (omega (arith, lt))
  in_from (y ∷ ys) x (zero, lt, is) = inl is
  in_from (y ∷ ys) x (suc k, lt, is) = inr (in_from ys x (k, omega (arith, lt), is))

  pub from_in : (xs : List X) (x : X) → In x xs → Contains xs x
  from_in [] x h = absurd h
  from_in (y ∷ ys) x (inl is) = (zero, omega arith, is)
  from_in (y ∷ ys) x (inr h) = let rest = from_in ys x h in let lt = rest.1 in (suc rest.0, omega (arith, lt), rest.2)

  -- a relation of the first item to each later one, and of the later ones
  first_pairs : (R : X → X → Type 0) (x : X) (xs : List X) → AllPairs R (x ∷ xs) → (z : X) → In z xs → R x z
  first_pairs R x xs h z is =
      let at = from_in xs z is in
      let lt = at.1 in
      subst (R x) at.2 (h zero (suc at.0) z (omega arith) (omega (arith, lt)))

  later_pairs : (R : X → X → Type 0) (x : X) (xs : List X) → AllPairs R (x ∷ xs) → AllPairs R xs
  later_pairs R x xs h = λ i j d lt within. h (suc i) (suc j) d (omega (arith, lt)) (omega (arith, within))

  without : (w : X) (ws : List X) (z : X) → In z (w ∷ ws) → ((w ≡ z) → ⊥) → In z ws
  without w ws z (inl e) apart = absurd (apart e)
  without w ws z (inr h) apart = h

  -- items in an order in which none is before and after another one, each there once and the same in both lists, stand in one order
  pub one_order : (R : X → X → Type 0) → ((x y : X) → R x y → R y x → x ≡ y) → (xs ys : List X) → AllPairs R xs → AllPairs R ys → AllPairs (λ a b. a ≡ b → ⊥) xs → AllPairs (λ a b. a ≡ b → ⊥) ys
      → ((z : X) → In z xs → In z ys) → ((z : X) → In z ys → In z xs) → xs ≡ ys
  one_order R one [] [] a b c d there back = refl
  one_order R one [] (y ∷ ys) a b c d there back = absurd (back y (inl refl))
  one_order R one (x ∷ xs) [] a b c d there back = absurd (there x (inl refl))
  one_order R one (x ∷ xs) (y ∷ ys) a b c d there back =
      let first : x ≡ y = first_of_both (there x (inl refl)) (back y (inl refl)) in
      let later : xs ≡ ys = one_order R one xs ys (later_pairs R x xs a) (later_pairs R y ys b) (later_pairs (λ a b. a ≡ b → ⊥) x xs c) (later_pairs (λ a b. a ≡ b → ⊥) y ys d)
      (λ z h. without y ys z (there z (inr h)) (λ e. first_pairs (λ a b. a ≡ b → ⊥) x xs c z h (first ∙ e)))
      (λ z h. without x xs z (back z (inr h)) (λ e. first_pairs (λ a b. a ≡ b → ⊥) y ys d z h (sym first ∙ e))) in
      ap (λ n. n ∷ xs) first ∙ ap (λ l. y ∷ l) later
    where
      first_of_both : In x (y ∷ ys) → In y (x ∷ xs) → x ≡ y
      first_of_both (inl e) h = sym e
      first_of_both (inr h) (inl e) = e
      first_of_both (inr h) (inr g) = one x y (first_pairs R x xs a y g) (first_pairs R y ys b x h)

  -- ---- how many

  count_cons : (p : X → Bool) (y : X) (ys : List X) → count_by p (y ∷ ys) ≡ cond (p y) 1 0 + count_by p ys
  count_cons p y ys = sum_by-cons (λ x. cond (p x) 1 0) y ys

  taken : (p : X → Bool) (x : X) (ys : List X) → In x ys → (rest : List X) × ((z : X) → In z ys → (x ≡ z) ⊎ In z rest) × (count_by p ys ≡ cond (p x) 1 0 + count_by p rest)
  taken p x [] h = absurd h
  taken p x (y ∷ ys) (inl e) = (ys, either, count_cons p y ys ∙ ap (λ z. cond (p z) 1 0 + count_by p ys) e)
    where
      either : (z : X) → In z (y ∷ ys) → (x ≡ z) ⊎ In z ys
      either z (inl is) = inl (sym e ∙ is)
      either z (inr g) = inr g
  taken p x (y ∷ ys) (inr h) = by (taken p x ys h)
    where
      by : ((rest : List X) × ((z : X) → In z ys → (x ≡ z) ⊎ In z rest) × (count_by p ys ≡ cond (p x) 1 0 + count_by p rest)) → (rest : List X) × ((z : X) → In z (y ∷ ys) → (x ≡ z) ⊎ In z rest) × (count_by p (y ∷ ys) ≡ cond (p x) 1 0 + count_by p rest)
      by (rest, either, count) = (y ∷ rest, behind, omega (arith, count, count_cons p y ys, count_cons p y rest))
        where
          behind : (z : X) → In z (y ∷ ys) → (x ≡ z) ⊎ In z (y ∷ rest)
          behind z (inl is) = inr (inl is)
          behind z (inr g) = ⊎_elim (λ e. inl e) (λ i. inr (inr i)) (either z g)

  -- of items that are each there once, and that another list has, no more pass a test than of that
  pub no_more : (p : X → Bool) (xs ys : List X) → AllPairs (λ a b. a ≡ b → ⊥) xs → ((z : X) → In z xs → In z ys) → count_by p xs ≤ count_by p ys
  no_more p [] ys once there = omega arith
  no_more p (x ∷ xs) ys once there =
      by (taken p x ys (there x (inl refl))) (λ rest all. no_more p xs rest (later_pairs (λ a b. a ≡ b → ⊥) x xs once) all)
    where
      by : ((rest : List X) × ((z : X) → In z ys → (x ≡ z) ⊎ In z rest) × (count_by p ys ≡ cond (p x) 1 0 + count_by p rest)) → ((rest : List X) → ((z : X) → In z xs → In z rest) → count_by p xs ≤ count_by p rest) → count_by p (x ∷ xs) ≤ count_by p ys
      by (rest, either, count) fewer =
          let few = fewer rest (λ z h. ⊎_elim (λ e. absurd (first_pairs (λ a b. a ≡ b → ⊥) x xs once z h e)) (λ i. i) (either z (there z (inr h)))) in
          omega (arith, count, few, count_cons p x xs)

-- ---- texts by their bytes

abbrev Text : Type 0
Text = List ℕ

-- two texts of which none is after the other
same_text : (x y : Text) → IsNameNotAfter x y → IsNameNotAfter y x → x ≡ y
same_text x y h g = by (slice_cmp nat_cmp x y) refl
  where
    by : (o : Ordering) → slice_cmp nat_cmp x y ≡ o → x ≡ y
    by Less e = let is = sym (ap is_lt e) ∙ g in absurd (cc)
    by Greater e = let is = sym (ap is_lt (nat_list_cmp_total.antisymm y x ∙ ap ordering_reverse e)) ∙ h in absurd (cc)
    by Equal e = (bytes_decides x y).0 (sym (is_eq-slice_cmp x y) ∙ ap is_eq e)

-- how many names of a folder are shown is told by each listing alike
pub shown_alike : (files : Files) (dir : Text) (names others : List Text) → ListsNames files dir names → ListsNames files dir others → count_by is_shown names ≤ count_by is_shown others
shown_alike files dir names others all more = no_more is_shown names others all.once (λ z h. in_from others z ((more.exact z).1 ((all.exact z).0 (from_in names z h))))

-- ---- the names of stream files

kept_in : (xs : List Text) (z : Text) → In z xs → is_stream_name z ≡ true → In z (filter is_stream_name xs)
kept_in [] z h k = absurd h
kept_in (x ∷ xs) z (inl e) k = subst (λ b. In z (cond b (x ∷ filter is_stream_name xs) (filter is_stream_name xs))) (sym (ap is_stream_name e ∙ k)) (inl e)
kept_in (x ∷ xs) z (inr h) k = either (is_stream_name x) (kept_in xs z h k)
  where
    either : (b : Bool) → In z (filter is_stream_name xs) → In z (cond b (x ∷ filter is_stream_name xs) (filter is_stream_name xs))
    either true g = inr g
    either false g = g

from_kept : (xs : List Text) (z : Text) → In z (filter is_stream_name xs) → In z xs × (is_stream_name z ≡ true)
from_kept [] z h = absurd h
from_kept (x ∷ xs) z h = by (is_stream_name x) refl h (from_kept xs z)
  where
    by : (b : Bool) → is_stream_name x ≡ b → In z (cond b (x ∷ filter is_stream_name xs) (filter is_stream_name xs)) → (In z (filter is_stream_name xs) → In z xs × (is_stream_name z ≡ true)) → In z (x ∷ xs) × (is_stream_name z ≡ true)
    by true e (inl is) rest = (inl is, ap is_stream_name (sym is) ∙ e)
    by true e (inr g) rest = let r = rest g in (inr r.0, r.1)
    by false e g rest = let r = rest g in (inr r.0, r.1)

apart : (names chosen : List Text) → AllPairs (λ a b. a ≡ b → ⊥) names → IsPermutation (filter is_stream_name names) chosen → AllPairs (λ a b. a ≡ b → ⊥) chosen
apart names chosen once moved =
    AllPairs-from_IsDistinct bytes_decides chosen
    (IsDistinct-IsPermutation (pointwise nat_eq) flips (filter is_stream_name names) chosen moved (IsDistinct-from_AllPairs bytes_decides (filter is_stream_name names) (AllPairs-filter (λ a b. a ≡ b → ⊥) is_stream_name names once)))
  where
    flips : (x y : Text) → pointwise nat_eq x y ≡ pointwise nat_eq y x
    flips x y = nat_list_eq_equiv.symm x y

-- a folder's names and those of another reading of it are the same
members : (files : Files) (dir : Text) (names others chosen again : List Text) → ListsNames files dir names → ListsNames files dir others → AreChosen names chosen → AreChosen others again → (z : Text) → In z chosen → In z again
members files dir names others chosen again all more is are z h =
    let here = from_kept names z (in_from _ z (Contains-permutation chosen (filter is_stream_name names) z (IsPermutation-sym _ _ is.permutation) (from_in chosen z h))) in
    let there = in_from others z ((more.exact z).1 ((all.exact z).0 (from_in names z here.0))) in
    in_from again z (Contains-permutation (filter is_stream_name others) again z are.permutation (from_in _ z (kept_in others z there here.1)))

-- a folder's stream files have one list of names
pub one_names : (files : Files) (dir : Text) (a b : List Text) → AreStreamNames files dir a → AreStreamNames files dir b → a ≡ b
one_names files dir a b h g =
    one_order IsNameNotAfter same_text a b h.are_chosen.order g.are_chosen.order (apart h.names a h.all.once h.are_chosen.permutation) (apart g.names b g.all.once g.are_chosen.permutation)
    (members files dir h.names g.names a b h.all g.all h.are_chosen g.are_chosen)
    (members files dir g.names h.names b a g.all h.all g.are_chosen h.are_chosen)
