-- A list in order whose items of each key stand as in another list is that one's stable sort, and std's sort gives such a list.
use Rattle.std.proofs.Common.{◌≡◌, ◌≢◌, ℕ, suc, ◌<◌, ◌≤◌, Bool, true, false, List, [], ◌∷◌, length, get_or, refl, sym, ap, ap₂, ◌∙◌, subst, arith, if◌then◌else◌, nat_lt, nat_eq, eq-eqb, ne_eqb, le_trans, le_of_lt, lt-ltb, le-ltb, not, ◌&&◌, is_lt, nat_cmp}
use Rattle.std.specs.List.{filter}
use mathlib.Core.Logic.{dite}
use native.Mathlib.Decide.{dec_lt, ℕ_discrete}
use Rattle.stable_sort.specs.Sorted.{put_in, sorted}

module _ {X : Type 0} (key : X → ℕ) where
  abbrev pub of_key : ℕ → List X → List X
  of_key n xs = filter (λ x. nat_eq (key x) n) xs

  -- no key is less than n
  abbrev pub NoneBelow : ℕ → List X → Type 0
  NoneBelow n [] = Unit {0}
  NoneBelow n (x ∷ xs) = (n ≤ key x) × NoneBelow n xs

  abbrev pub InOrder : List X → Type 0
  InOrder [] = Unit {0}
  InOrder (x ∷ xs) = NoneBelow (key x) xs × InOrder xs

  -- above a key, no item has it
  none_above : (n : ℕ) (xs : List X) → NoneBelow (suc n) xs → of_key n xs ≡ []
  none_above n [] a = refl
  none_above n (x ∷ xs) a = rw (ne_eqb (key x) n (λ e. omega (arith, a.0))) (none_above n xs a.1)

  all_lift : (m n : ℕ) (xs : List X) → m < n → NoneBelow n xs → NoneBelow (suc m) xs
  all_lift m n [] h a = tt
  all_lift m n (x ∷ xs) h a = (omega (arith, a.0), all_lift m n xs h a.1)

  of_key_same : (x : X) (xs : List X) → of_key (key x) (x ∷ xs) ≡ x ∷ of_key (key x) xs
  of_key_same x xs = rw (eq-eqb (key x) (key x) refl) refl

  of_key_other : (n : ℕ) (x : X) (xs : List X) → key x ≢ n → of_key n (x ∷ xs) ≡ of_key n xs
  of_key_other n x xs ne = rw (ne_eqb (key x) n ne) refl

  heads : (x y : X) (xs ys : List X) → x ∷ xs ≡ y ∷ ys → x ≡ y
  heads x y xs ys e = ap (λ l. get_or l 0 x) e

  tails : (x y : X) (xs ys : List X) → x ∷ xs ≡ y ∷ ys → xs ≡ ys
  tails x y xs ys e = ap (lib.ListN.drop 1) e

  nothing : (x : X) (xs : List X) → [] ≡ x ∷ xs → ⊥
  nothing x xs e = let h : 0 ≡ suc (length xs) = ap length e in omega arith

  -- the first item of the one is not below all of the other
  not_below : (y z : X) (ys zs : List X) → InOrder (z ∷ zs) → of_key (key y) (y ∷ ys) ≡ of_key (key y) (z ∷ zs) → key y < key z → ⊥
  not_below y z ys zs r e h = nothing y (of_key (key y) ys) (sym (sym (of_key_same y ys) ∙ (e ∙ none_above (key y) (z ∷ zs) (h, all_lift (key y) (key z) zs h r.0))))

  same_heads : (y z : X) (ys zs : List X) → of_key (key y) (y ∷ ys) ≡ of_key (key y) (z ∷ zs) → key y ≡ key z → y ≡ z
  same_heads y z ys zs e k = heads y z _ _ (sym (of_key_same y ys) ∙ (e ∙ subst (λ n. of_key n (z ∷ zs) ≡ z ∷ of_key n zs) (sym k) (of_key_same z zs)))

  tail_of_keys : (y : X) (ys zs : List X) → ((x : X) → of_key (key x) (y ∷ ys) ≡ of_key (key x) (y ∷ zs)) → (x : X) → of_key (key x) ys ≡ of_key (key x) zs
  tail_of_keys y ys zs e x = dite (ℕ_discrete (key y) (key x))
      (λ k. subst (λ m. of_key m ys ≡ of_key m zs) k (tails y y _ _ (sym (of_key_same y ys) ∙ (e y ∙ of_key_same y zs))))
      (λ ne. sym (of_key_other (key x) y ys ne) ∙ (e x ∙ of_key_other (key x) y zs ne))

  pub unique : (ys zs : List X) → InOrder ys → InOrder zs → ((x : X) → of_key (key x) ys ≡ of_key (key x) zs) → ys ≡ zs
  unique [] [] r s e = refl
  unique [] (z ∷ zs) r s e = absurd (nothing z (of_key (key z) zs) (e z ∙ of_key_same z zs))
  unique (y ∷ ys) [] r s e = absurd (nothing y (of_key (key y) ys) (sym (e y) ∙ of_key_same y ys))
  unique (y ∷ ys) (z ∷ zs) r s e = dite (ℕ_discrete (key y) (key z))
      (λ k. let h : y ≡ z = same_heads y z ys zs (e y) k in
      ap₂ (λ x xs. x ∷ xs) h (unique ys zs r.1 s.1 (tail_of_keys y ys zs (subst (λ x. (w : X) → of_key (key w) (y ∷ ys) ≡ of_key (key w) (x ∷ zs)) (sym h) e))))
      (λ ne. dite (dec_lt (key y) (key z)) (λ h. absurd (not_below y z ys zs s (e y) h)) (λ h. absurd (not_below z y zs ys r (sym (e z)) (omega arith))))

  -- ---- the definition is such a list
  put_in_above : (n : ℕ) (x : X) (ys : List X) → n ≤ key x → NoneBelow n ys → NoneBelow n (put_in key x ys)
  put_in_above n x [] h a = (h, tt)
  put_in_above n x (y ∷ ys) h a = by (nat_lt (key y) (key x)) (put_in_above n x ys h a.1)
    where
      by : (b : Bool) → NoneBelow n (put_in key x ys) → NoneBelow n (if b then y ∷ put_in key x ys else x ∷ y ∷ ys)
      by true rest = (a.0, rest)
      by false rest = (h, a)

  weaken : (m n : ℕ) (xs : List X) → m ≤ n → NoneBelow n xs → NoneBelow m xs
  weaken m n [] h a = tt
  weaken m n (x ∷ xs) h a = (le_trans h a.0, weaken m n xs h a.1)

  put_in_rises : (x : X) (ys : List X) → InOrder ys → InOrder (put_in key x ys)
  put_in_rises x [] r = (tt, tt)
  put_in_rises x (y ∷ ys) r = by (dec_lt (key y) (key x)) (put_in_rises x ys r.1)
    where
      by : Dec (key y < key x) → InOrder (put_in key x ys) → InOrder (if nat_lt (key y) (key x) then y ∷ put_in key x ys else x ∷ y ∷ ys)
      by (yes h) rest = rw (lt-ltb (key y) (key x) h) (put_in_above (key y) x ys (le_of_lt h) r.0, rest)
      by (no h) rest = rw (le-ltb (key y) (key x) (omega arith)) ((omega arith, weaken (key x) (key y) ys (omega arith) r.0), r)

  put_in_of_key : (n : ℕ) (x : X) (ys : List X) → of_key n (put_in key x ys) ≡ of_key n (x ∷ ys)
  put_in_of_key n x [] = refl
  put_in_of_key n x (y ∷ ys) = by (dec_lt (key y) (key x)) (put_in_of_key n x ys)
    where
      by : Dec (key y < key x) → of_key n (put_in key x ys) ≡ of_key n (x ∷ ys) → of_key n (if nat_lt (key y) (key x) then y ∷ put_in key x ys else x ∷ y ∷ ys) ≡ of_key n (x ∷ y ∷ ys)
      by (yes h) rest = rw (lt-ltb (key y) (key x) h) (dite (ℕ_discrete (key x) n)
          (λ e. let ne : key y ≢ n = λ k. omega (arith, e, k, h) in of_key_other n y (put_in key x ys) ne ∙ (rest ∙ sym (skip (x) (y) ys ne)))
          (λ ne. swap ne rest))
        where
          skip : (x y : X) (ys : List X) → key y ≢ n → of_key n (x ∷ y ∷ ys) ≡ of_key n (x ∷ ys)
          skip x y ys ne = dite (ℕ_discrete (key x) n) (λ e. rw (eq-eqb (key x) n e, ne_eqb (key y) n ne) refl) (λ nx. rw (ne_eqb (key x) n nx, ne_eqb (key y) n ne) refl)

          swap : key x ≢ n → of_key n (put_in key x ys) ≡ of_key n (x ∷ ys) → of_key n (y ∷ put_in key x ys) ≡ of_key n (x ∷ y ∷ ys)
          swap ne rest = dite (ℕ_discrete (key y) n) (λ e. rw (eq-eqb (key y) n e, ne_eqb (key x) n ne) (ap (λ l. y ∷ l) (rest ∙ of_key_other n x ys ne))) (λ ny. of_key_other n y (put_in key x ys) ny ∙ (rest ∙ (of_key_other n x ys ne ∙ (sym (of_key_other n y ys ny) ∙ sym (of_key_other n x (y ∷ ys) ne)))))
      by (no h) rest = rw (le-ltb (key y) (key x) (omega arith)) refl

  pub sorted_rises : (xs : List X) → InOrder (sorted key xs)
  sorted_rises [] = tt
  sorted_rises (x ∷ xs) = put_in_rises x (sorted key xs) (sorted_rises xs)

  pub sorted_of_key : (n : ℕ) (xs : List X) → of_key n (sorted key xs) ≡ of_key n xs
  sorted_of_key n [] = refl
  sorted_of_key n (x ∷ xs) = put_in_of_key n x (sorted key xs) ∙ step (nat_eq (key x) n) (sorted_of_key n xs)
    where
      step : (b : Bool) → of_key n (sorted key xs) ≡ of_key n xs → (if b then x ∷ of_key n (sorted key xs) else of_key n (sorted key xs)) ≡ (if b then x ∷ of_key n xs else of_key n xs)
      step true e = ap (λ l. x ∷ l) e
      step false e = e

  pub is_sorted : (xs ys : List X) → InOrder ys → ((x : X) → of_key (key x) ys ≡ of_key (key x) xs) → ys ≡ sorted key xs
  is_sorted xs ys r e = unique ys (sorted key xs) r (sorted_rises xs) (λ x. e x ∙ sym (sorted_of_key (key x) xs))

  -- ---- from the clauses of std's sort
  above_from : (n : ℕ) (xs : List X) → ((j : ℕ) (d : X) → j < length xs → n ≤ key (get_or xs j d)) → NoneBelow n xs
  above_from n [] h = tt
  above_from n (x ∷ xs) h = (h 0 x (omega arith), above_from n xs (λ j d lt. h (suc j) d (omega arith)))

  in_order_from : (xs : List X) → ((i j : ℕ) (d : X) → i ≤ j → j < length xs → key (get_or xs i d) ≤ key (get_or xs j d)) → InOrder xs
  in_order_from [] h = tt
  in_order_from (x ∷ xs) h = (above_from (key x) xs (λ j d lt. h 0 (suc j) d (omega arith) (omega arith)), in_order_from xs (λ i j d le lt. h (suc i) (suc j) d (omega arith) (omega arith)))

  filter_same : (p q : X → Bool) (xs : List X) → ((x : X) → p x ≡ q x) → filter p xs ≡ filter q xs
  filter_same p q [] h = refl
  filter_same p q (x ∷ xs) h = rw (h x) (ap (λ l. if q x then x ∷ l else l) (filter_same p q xs h))

  tie : (a b : ℕ) → (not (is_lt (nat_cmp a b)) && not (is_lt (nat_cmp b a))) ≡ nat_eq b a
  tie a b = grind arith

  pub from_std : (xs ys : List X) → ((i j : ℕ) (d : X) → i ≤ j → j < length ys → key (get_or ys i d) ≤ key (get_or ys j d))
      → ((x : X) → filter (λ y. not (is_lt (nat_cmp (key x) (key y))) && not (is_lt (nat_cmp (key y) (key x)))) ys ≡ filter (λ y. not (is_lt (nat_cmp (key x) (key y))) && not (is_lt (nat_cmp (key y) (key x)))) xs) → ys ≡ sorted key xs
  from_std xs ys r e = is_sorted xs ys (in_order_from ys r) (λ x.
      let same = λ (l : List X). filter_same (λ y. not (is_lt (nat_cmp (key x) (key y))) && not (is_lt (nat_cmp (key y) (key x)))) (λ y. nat_eq (key y) (key x)) l (λ y. tie (key x) (key y)) in
      sym (same ys) ∙ (e x ∙ same xs))
