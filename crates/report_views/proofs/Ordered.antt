-- A list in order that is a permutation of another is that one in order.
use Rattle.std.proofs.Common.{◌≡◌, ℕ, suc, ◌+◌, ◌<◌, Bool, true, false, cond, if◌then◌else◌, List, [], ◌∷◌, length, get_or, refl, sym, ap, ap₂, ◌∙◌, subst, arith}
use Rattle.std.specs.Prelude.{count_by, IsPermutation}
use Rattle.std.specs.List.{AllByRecursion, AllPairs}
use Rattle.std.specs.Ordering.{is_lt, is_eq, ordering_reverse}
use Rattle.std.specs.Cmp.{IsTotalOrder}
use Rattle.std.specs.declared.cmp.Ordering.{Ordering}
use Rattle.std.specs.declared.cmp.Ordering.TheVariants.{Less, Equal, Greater}
use Rattle.std.proofs.lemmas.List.Sorted.{sum_by-IsPermutation}
use Rattle.state_times.proofs.Counting.{count_cons}
use Rattle.report_views.specs.Ordered.{ordered, put_in}

abbrev one : Bool → ℕ
one b = if b then 1 else 0

module _ {A : Type 0} (R : A → A → Ordering) (o : IsTotalOrder R) (tie : (x y : A) → R x y ≡ Equal → x ≡ y) where
  -- no later item is less
  abbrev pub InOrder : List A → Type 0
  InOrder [] = Unit {0}
  InOrder (x ∷ xs) = AllByRecursion (λ y. is_lt (R y x) ≡ false) xs × InOrder xs

  abbrev count : A → List A → ℕ
  count z xs = count_by (λ x. is_eq (R z x)) xs

  itself : (x : A) → R x x ≡ Equal
  itself x = by (R x x) refl (o.antisymm x x)
    where
      by : (q : Ordering) → R x x ≡ q → R x x ≡ ordering_reverse (R x x) → R x x ≡ Equal
      by Equal e r = e
      by Less e r = let k : Less ≡ Greater = sym e ∙ (r ∙ ap ordering_reverse e) in absurd (cc)
      by Greater e r = let k : Greater ≡ Less = sym e ∙ (r ∙ ap ordering_reverse e) in absurd (cc)

  other : (x y : A) → is_lt (R y x) ≡ true → is_lt (R x y) ≡ false
  other x y h = by (R y x) refl h
    where
      by : (q : Ordering) → R y x ≡ q → is_lt q ≡ true → is_lt (R x y) ≡ false
      by Less e h = ap is_lt (o.antisymm x y ∙ ap ordering_reverse e)
      by Equal e h = absurd (cc)
      by Greater e h = absurd (cc)

  same : (x y : A) → is_lt (R x y) ≡ false → is_lt (R y x) ≡ false → x ≡ y
  same x y h g = by (R x y) refl h
    where
      by : (q : Ordering) → R x y ≡ q → is_lt q ≡ false → x ≡ y
      by Less e h = absurd (cc)
      by Equal e h = tie x y e
      by Greater e h = let k : is_lt (R y x) ≡ true = ap is_lt (o.antisymm y x ∙ ap ordering_reverse e) in absurd (cc)

  far : (x y z : A) → is_lt (R y x) ≡ false → is_lt (R z y) ≡ false → is_lt (R z x) ≡ false
  far x y z h g = by (R z x) (R y x) refl refl h
    where
      by : (p q : Ordering) → R z x ≡ p → R y x ≡ q → is_lt q ≡ false → is_lt (R z x) ≡ false
      by Equal q e f h = ap is_lt e
      by Greater q e f h = ap is_lt e
      by Less Less e f h = absurd (cc)
      by Less Equal e f h = let k : R z y ≡ Less = subst (λ u. R z u ≡ Less) (sym (tie y x f)) e in let l : is_lt (R z y) ≡ true = ap is_lt k in absurd (cc)
      by Less Greater e f h = let k : R z y ≡ Less = o.trans z x y e (o.antisymm x y ∙ ap ordering_reverse f) in let l : is_lt (R z y) ≡ true = ap is_lt k in absurd (cc)

  all_far : (x y : A) (ys : List A) → is_lt (R y x) ≡ false → AllByRecursion (λ z. is_lt (R z y) ≡ false) ys → AllByRecursion (λ z. is_lt (R z x) ≡ false) ys
  all_far x y [] h g = tt
  all_far x y (z ∷ zs) h g = (far x y z h g.0, all_far x y zs h g.1)

  all_put : (P : A → Type 0) (x : A) (ys : List A) → P x → AllByRecursion P ys → AllByRecursion P (put_in R x ys)
  all_put P x [] p h = (p, tt)
  all_put P x (y ∷ ys) p h = by (is_lt (R y x)) (all_put P x ys p h.1)
    where
      by : (b : Bool) → AllByRecursion P (put_in R x ys) → AllByRecursion P (if b then y ∷ put_in R x ys else x ∷ y ∷ ys)
      by true rest = (h.0, rest)
      by false rest = (p, h)

  pub all_ordered : (P : A → Type 0) (xs : List A) → AllByRecursion P xs → AllByRecursion P (ordered R xs)
  all_ordered P [] h = tt
  all_ordered P (x ∷ xs) h = all_put P x (ordered R xs) h.0 (all_ordered P xs h.1)

  put_order : (x : A) (ys : List A) → InOrder ys → InOrder (put_in R x ys)
  put_order x [] h = (tt, tt)
  put_order x (y ∷ ys) h = by (is_lt (R y x)) refl (put_order x ys h.1)
    where
      by : (b : Bool) → is_lt (R y x) ≡ b → InOrder (put_in R x ys) → InOrder (if b then y ∷ put_in R x ys else x ∷ y ∷ ys)
      by true e rest = (all_put (λ z. is_lt (R z y) ≡ false) x ys (other x y e) h.0, rest)
      by false e rest = ((e, all_far x y ys e h.0), h)

  in_order : (xs : List A) → InOrder (ordered R xs)
  in_order [] = tt
  in_order (x ∷ xs) = put_order x (ordered R xs) (in_order xs)

  -- ---- counts
  put_count : (z x : A) (ys : List A) → count z (put_in R x ys) ≡ count z (x ∷ ys)
  put_count z x [] = refl
  put_count z x (y ∷ ys) = by (is_lt (R y x)) (put_count z x ys)
    where
      by : (b : Bool) → count z (put_in R x ys) ≡ count z (x ∷ ys) → count z (if b then y ∷ put_in R x ys else x ∷ y ∷ ys) ≡ count z (x ∷ y ∷ ys)
      by false rest = refl
      by true rest =
          omega (arith, rest, count_cons (λ u. is_eq (R z u)) y (put_in R x ys), count_cons (λ u. is_eq (R z u)) x ys, count_cons (λ u. is_eq (R z u)) x (y ∷ ys), count_cons (λ u. is_eq (R z u)) y ys)

  ordered_count : (z : A) (xs : List A) → count z (ordered R xs) ≡ count z xs
  ordered_count z [] = refl
  ordered_count z (x ∷ xs) = put_count z x (ordered R xs) ∙ (count_cons (λ u. is_eq (R z u)) x (ordered R xs) ∙ (ap (λ n. (if is_eq (R z x) then 1 else 0) + n) (ordered_count z xs) ∙ sym (count_cons (λ u. is_eq (R z u)) x xs)))

  -- what holds of all holds of one that is counted
  of_counted : (P : A → Type 0) (z : A) (xs : List A) → AllByRecursion P xs → 0 < count z xs → P z
  of_counted P z [] h some = absurd (omega (arith, some))
  of_counted P z (x ∷ xs) h some = by (R z x) refl (of_counted P z xs h.1)
    where
      rest_of : is_eq (R z x) ≡ false → 0 < count z xs
      rest_of e = let c = count_cons (λ u. is_eq (R z u)) x xs in let k : one (is_eq (R z x)) ≡ one false = ap one e in omega (arith, some, c, k)

      by : (q : Ordering) → R z x ≡ q → (0 < count z xs → P z) → P z
      by Equal e rest = subst P (sym (tie z x e)) h.0
      by Less e rest = rest (rest_of (ap is_eq e))
      by Greater e rest = rest (rest_of (ap is_eq e))

  one_self : (x : A) (xs : List A) → 0 < count x (x ∷ xs)
  one_self x xs = let c = count_cons (λ u. is_eq (R x u)) x xs in let k : one (is_eq (R x x)) ≡ one true = ap (λ q. one (is_eq q)) (itself x) in omega (arith, c, k)

  unique : (xs ys : List A) → InOrder xs → InOrder ys → ((z : A) → count z xs ≡ count z ys) → xs ≡ ys
  unique [] [] h g e = refl
  unique [] (y ∷ ys) h g e = absurd (omega (arith, e y, one_self y ys))
  unique (x ∷ xs) [] h g e = absurd (omega (arith, e x, one_self x xs))
  unique (x ∷ xs) (y ∷ ys) h g e =
      let least : (u v : A) (vs : List A) → InOrder (v ∷ vs) → 0 < count u (v ∷ vs) → is_lt (R u v) ≡ false = λ u v vs k some. of_counted (λ w. is_lt (R w v) ≡ false) u (v ∷ vs) (ap is_lt (itself v), k.0) some in
      let there : is_lt (R x y) ≡ false = least x y ys g (omega (arith, e x, one_self x xs)) in
      let back : is_lt (R y x) ≡ false = least y x xs h (omega (arith, e y, one_self y ys)) in
      let head : x ≡ y = same x y there back in
      ap₂ (λ u us. u ∷ us) head (unique xs ys h.1 g.1 (λ z.
      let a = count_cons (λ u. is_eq (R z u)) x xs in
      let b = count_cons (λ u. is_eq (R z u)) y ys in
      let k : one (is_eq (R z x)) ≡ one (is_eq (R z y)) = ap (λ u. one (is_eq (R z u))) head in
      omega (arith, e z, a, b, k)))

  -- ---- a sort
  all_after : (x : A) (ys : List A) → ((j : ℕ) → j < length ys → is_lt (R (get_or ys j x) x) ≡ false) → AllByRecursion (λ y. is_lt (R y x) ≡ false) ys
  all_after x [] h = tt
  all_after x (y ∷ ys) h = (h 0 (omega arith), all_after x ys (λ j k. h (suc j) (omega (arith, k))))

  of_pairs : (ys : List A) → AllPairs (λ a b. is_lt (R b a) ≡ false) ys → InOrder ys
  of_pairs [] h = tt
  of_pairs (y ∷ ys) h = (all_after y ys (λ j k. h 0 (suc j) y (omega arith) (omega (arith, k))), of_pairs ys (λ i j d low high. h (suc i) (suc j) d (omega (arith, low)) (omega (arith, high))))

  pub is_ordered : (xs ys : List A) → IsPermutation xs ys → AllPairs (λ a b. is_lt (R b a) ≡ false) ys → ys ≡ ordered R xs
  is_ordered xs ys perm up = unique ys (ordered R xs) (of_pairs ys up) (in_order xs) (λ z. sum_by-IsPermutation (λ x. cond (is_eq (R z x)) 1 0) xs ys perm ∙ sym (ordered_count z xs))
