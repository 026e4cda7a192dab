-- Sorts, filters and lists that are joined, in any order.
use Rattle.std.proofs.Common.{◌≡◌, ◌≢◌, ◌<◌, ◌≤◌, ◌+◌, ◌⊎◌, inl, inr, ℕ, zero, suc, Bool, true, false, cond, if◌then◌else◌, List, [], ◌∷◌, ◌++◌, filter, nat_eq, nat_lt, refl, sym, ap, ap₂, ◌∙◌, arith, add-one, le_trans, lt-ltb, le-ltb}
use Rattle.std.specs.List.{flat_map, range_with_len}
use Rattle.std.proofs.lemmas.Bool.{cases_lt, cases_eq}
use Rattle.std.proofs.lemmas.List.{append-nil}
use Rattle.std.proofs.lemmas.List.Elements.{filter-append}
use Rattle.stable_sort.specs.Sorted.{put_in, sorted}
use Rattle.stable_sort.proofs.Unique.{InOrder, NoneBelow, is_sorted, of_key, sorted_of_key, sorted_rises}
use Rattle.host_merge.proofs.Ranges.{below_no, below_yes, flat_push}

module _ {X : Type 0} (key : X → ℕ) where
  none_below_filter : (p : X → Bool) (n : ℕ) (xs : List X) → NoneBelow key n xs → NoneBelow key n (filter p xs)
  none_below_filter p n [] a = tt
  none_below_filter p n (x ∷ xs) a = by (p x) (none_below_filter p n xs a.1)
    where
      by : (b : Bool) → NoneBelow key n (filter p xs) → NoneBelow key n (cond b (x ∷ filter p xs) (filter p xs))
      by true rest = (a.0, rest)
      by false rest = rest

  pub filter_order : (p : X → Bool) (xs : List X) → InOrder key xs → InOrder key (filter p xs)
  filter_order p [] a = tt
  filter_order p (x ∷ xs) a = by (p x) (filter_order p xs a.1)
    where
      by : (b : Bool) → InOrder key (filter p xs) → InOrder key (cond b (x ∷ filter p xs) (filter p xs))
      by true rest = (none_below_filter p (key x) xs a.0, rest)
      by false rest = rest

  pub weaker : (m n : ℕ) (xs : List X) → m ≤ n → NoneBelow key n xs → NoneBelow key m xs
  weaker m n [] h a = tt
  weaker m n (x ∷ xs) h a = (le_trans h a.0, weaker m n xs h a.1)

  pub put_first : (x : X) (xs : List X) → NoneBelow key (key x) xs → put_in key x xs ≡ x ∷ xs
  put_first x [] a = refl
  put_first x (y ∷ ys) a = ap (λ b. if b then y ∷ put_in key x ys else x ∷ y ∷ ys) (le-ltb (key y) (key x) a.0)

  -- what is put in and passes the test is put in among those that pass
  put_passing : (p : X → Bool) (x : X) (ys : List X) → p x ≡ true → InOrder key ys → filter p (put_in key x ys) ≡ put_in key x (filter p ys)
  put_passing p x [] e a = ap (λ b. cond b (x ∷ []) []) e
  put_passing p x (y ∷ ys) e a = by (cases_lt (key y) (key x)) (put_passing p x ys e a.1)
    where
      later : key y < key x → (b : Bool) → filter p (put_in key x ys) ≡ put_in key x (filter p ys) → cond b (y ∷ filter p (put_in key x ys)) (filter p (put_in key x ys)) ≡ put_in key x (cond b (y ∷ filter p ys) (filter p ys))
      later less true rest = ap (λ l. y ∷ l) rest ∙ ap (λ b. if b then y ∷ put_in key x (filter p ys) else x ∷ y ∷ filter p ys) (sym (lt-ltb (key y) (key x) less))
      later less false rest = rest

      by : (key y < key x) ⊎ (key x ≤ key y) → filter p (put_in key x ys) ≡ put_in key x (filter p ys) → filter p (if nat_lt (key y) (key x) then y ∷ put_in key x ys else x ∷ y ∷ ys) ≡ put_in key x (filter p (y ∷ ys))
      by (inl less) rest = ap (λ b. filter p (if b then y ∷ put_in key x ys else x ∷ y ∷ ys)) (lt-ltb (key y) (key x) less) ∙ later less (p y) rest
      by (inr more) rest =
          ap (λ b. filter p (if b then y ∷ put_in key x ys else x ∷ y ∷ ys)) (le-ltb (key y) (key x) more)
          ∙ (ap (λ b. cond b (x ∷ filter p (y ∷ ys)) (filter p (y ∷ ys))) e
          ∙ sym (put_first x (filter p (y ∷ ys)) (none_below_filter p (key x) (y ∷ ys) (more, weaker (key x) (key y) ys more a.0))))

  put_failing : (p : X → Bool) (x : X) (ys : List X) → p x ≡ false → filter p (put_in key x ys) ≡ filter p ys
  put_failing p x [] e = ap (λ b. cond b (x ∷ []) []) e
  put_failing p x (y ∷ ys) e = by (nat_lt (key y) (key x)) (put_failing p x ys e)
    where
      by : (b : Bool) → filter p (put_in key x ys) ≡ filter p ys → filter p (if b then y ∷ put_in key x ys else x ∷ y ∷ ys) ≡ filter p (y ∷ ys)
      by true rest = ap (λ l. cond (p y) (y ∷ l) l) rest
      by false rest = ap (λ b. cond b (x ∷ filter p (y ∷ ys)) (filter p (y ∷ ys))) e

  -- what passes a test of what is sorted is what passes it, sorted
  pub filter_sorted : (p : X → Bool) (xs : List X) → filter p (sorted key xs) ≡ sorted key (filter p xs)
  filter_sorted p [] = refl
  filter_sorted p (x ∷ xs) = by (p x) refl (filter_sorted p xs)
    where
      by : (b : Bool) → p x ≡ b → filter p (sorted key xs) ≡ sorted key (filter p xs) → filter p (put_in key x (sorted key xs)) ≡ sorted key (cond b (x ∷ filter p xs) (filter p xs))
      by true e rest = put_passing p x (sorted key xs) e (sorted_rises key xs) ∙ ap (put_in key x) rest
      by false e rest = put_failing p x (sorted key xs) e ∙ rest

  pub sorted_same : (xs : List X) → InOrder key xs → sorted key xs ≡ xs
  sorted_same xs a = sym (is_sorted key xs xs a (λ x. refl))

  pub sorted_again : (xs : List X) → sorted key (sorted key xs) ≡ sorted key xs
  sorted_again xs = sorted_same (sorted key xs) (sorted_rises key xs)

  -- what is sorted may be sorted before something is put at its end
  pub sorted_joined : (xs ys more : List X) → sorted key xs ≡ sorted key ys → sorted key (xs ++ more) ≡ sorted key (ys ++ more)
  sorted_joined xs ys more e = is_sorted key (ys ++ more) (sorted key (xs ++ more)) (sorted_rises key (xs ++ more)) (λ x.
      let same : of_key key (key x) xs ≡ of_key key (key x) ys = sym (sorted_of_key key (key x) xs) ∙ (ap (of_key key (key x)) e ∙ sorted_of_key key (key x) ys) in
      sorted_of_key key (key x) (xs ++ more) ∙ (filter-append (λ y. nat_eq (key y) (key x)) xs more ∙ (ap (λ l. l ++ of_key key (key x) more) same ∙ sym (filter-append (λ y. nat_eq (key y) (key x)) ys more))))

module _ {X : Type 0} where
  pub filter_flat : (p : X → Bool) (f : ℕ → List X) (ns : List ℕ) → filter p (flat_map f ns) ≡ flat_map (λ n. filter p (f n)) ns
  filter_flat p f [] = refl
  filter_flat p f (n ∷ ns) = filter-append p (f n) (flat_map f ns) ∙ ap (λ l. filter p (f n) ++ l) (filter_flat p f ns)

  pub flat_none : (f : ℕ → List X) (test : ℕ → Bool) (ns : List ℕ) → ((n : ℕ) → test n ≡ true → f n ≡ []) → flat_map f (filter test ns) ≡ []
  flat_none f test [] none = refl
  flat_none f test (n ∷ ns) none = by (test n) (none n) (flat_none f test ns none)
    where
      by : (b : Bool) → (b ≡ true → f n ≡ []) → flat_map f (filter test ns) ≡ [] → flat_map f (cond b (n ∷ filter test ns) (filter test ns)) ≡ []
      by true here rest = ap₂ (λ a b. a ++ b) (here refl) rest
      by false here rest = rest

  flat_below : (f : ℕ → List X) (test : ℕ → Bool) (bound : ℕ) → ((n : ℕ) → test n ≡ true → n < bound → f n ≡ []) → flat_map f (filter test (range_with_len 0 bound)) ≡ []
  flat_below f test zero none = refl
  flat_below f test (suc bound) none = ap (λ n. flat_map f (filter test (range_with_len 0 n))) (sym (add-one bound)) ∙ by (test bound) refl (flat_below f test bound (λ n t h. none n t (omega arith)))
    where
      by : (b : Bool) → test bound ≡ b → flat_map f (filter test (range_with_len 0 bound)) ≡ [] → flat_map f (filter test (range_with_len 0 (bound + 1))) ≡ []
      by true e rest = ap (flat_map f) (below_yes test bound e) ∙ (flat_push f (filter test (range_with_len 0 bound)) bound ∙ ap₂ (λ a b. a ++ b) rest (none bound e (omega arith)))
      by false e rest = ap (flat_map f) (below_no test bound e) ∙ rest

  -- of the numbers below a bound, one alone gives something
  pub flat_one : (f : ℕ → List X) (test : ℕ → Bool) (c bound : ℕ) → c < bound → test c ≡ true → ((n : ℕ) → test n ≡ true → n ≢ c → f n ≡ []) → flat_map f (filter test (range_with_len 0 bound)) ≡ f c
  flat_one f test c zero h passes others = absurd (omega arith)
  flat_one f test c (suc bound) h passes others = ap (λ n. flat_map f (filter test (range_with_len 0 n))) (sym (add-one bound)) ∙ by (test bound) refl (cases_eq c bound) (λ less. flat_one f test c bound less passes others)
    where
      by : (b : Bool) → test bound ≡ b → (c ≡ bound) ⊎ (c ≡ bound → ⊥) → (c < bound → flat_map f (filter test (range_with_len 0 bound)) ≡ f c) → flat_map f (filter test (range_with_len 0 (bound + 1))) ≡ f c
      by true e (inl same) rest =
          ap (flat_map f) (below_yes test bound e) ∙ (flat_push f (filter test (range_with_len 0 bound)) bound
          ∙ (ap (λ l. l ++ f bound) (flat_below f test bound (λ n t lt. others n t (λ s. omega (arith, s, same, lt)))) ∙ ap f (sym same)))
      by true e (inr ne) rest =
          ap (flat_map f) (below_yes test bound e) ∙ (flat_push f (filter test (range_with_len 0 bound)) bound
          ∙ (ap (λ l. flat_map f (filter test (range_with_len 0 bound)) ++ l) (others bound e (λ s. ne (sym s))) ∙ (append-nil _ ∙ rest (omega arith))))
      by false e (inl same) rest = absurd (grind (arith, passes, e, same))
      by false e (inr ne) rest = ap (flat_map f) (below_no test bound e) ∙ rest (omega arith)
