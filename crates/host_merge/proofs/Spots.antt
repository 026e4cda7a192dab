-- Where events stand in a list, among those that pass a test, and in lists with the same events.
use Rattle.std.proofs.Common.{◌≡◌, ◌≢◌, ◌<◌, ◌≤◌, ◌+◌, ◌==◌, ◌⊎◌, inl, inr, ℕ, zero, suc, Bool, true, false, cond, Some, List, [], ◌∷◌, ◌++◌, length, map, filter, take, slice_get, count_by, nat_eq, refl, sym, ap, ◌∙◌, subst, arith}
use Rattle.std.specs.List.{AllByRecursion}
use Rattle.std.proofs.lemmas.Bool.{cases_lt, cases_eq, eq-eqb}
use Rattle.std.proofs.lemmas.List.Elements.{filter-append}
use Rattle.std.proofs.lemmas.List.Sums.{sum_by-cons}
use Rattle.stable_sort.proofs.Unique.{InOrder, NoneBelow, sorted_of_key}
use Rattle.trace_types.specs.declared.event.Event.{Event}
use Rattle.trace_types.specs.declared.event.Merged.{Merged}
use Rattle.host_merge.specs.Merge.{by_key}
use Rattle.host_merge.specs.Placed.{IsAt, is_of}
use Rattle.host_merge.proofs.Brought.{event_of, key_of}

pub count_cons : {X : Type 0} (p : X → Bool) (x : X) (xs : List X) → count_by p (x ∷ xs) ≡ cond (p x) 1 0 + count_by p xs
count_cons p x xs = sum_by-cons (λ y. cond (p y) 1 0) x xs

count_yes : {X : Type 0} (p : X → Bool) (x : X) (xs : List X) → p x ≡ true → count_by p (x ∷ xs) ≡ suc (count_by p xs)
count_yes p x xs e = let c = count_cons p x xs in let z : ◌≡◌ {A = ℕ} (cond (p x) 1 0) 1 = ap (λ b. cond b 1 0) e in omega (arith, c, z)

count_no : {X : Type 0} (p : X → Bool) (x : X) (xs : List X) → p x ≡ false → count_by p (x ∷ xs) ≡ count_by p xs
count_no p x xs e = let c = count_cons p x xs in let z : ◌≡◌ {A = ℕ} (cond (p x) 1 0) 0 = ap (λ b. cond b 1 0) e in omega (arith, c, z)

module _ {X : Type 0} (p : X → Bool) where
  pub at_filter : (xs : List X) (k i : ℕ) (e : X) → slice_get xs k ≡ Some e → p e ≡ true → count_by p (take k xs) ≡ i → slice_get (filter p xs) i ≡ Some e
  at_filter [] k i e at passes count = absurd (cc)
  at_filter (x ∷ xs) zero i e at passes count =
      let same : x ≡ e = cc in
      let yes_x : p x ≡ true = ap p same ∙ passes in
      ap (λ n. slice_get (filter p (x ∷ xs)) n) (sym count) ∙ (ap (λ b. slice_get (cond b (x ∷ filter p xs) (filter p xs)) 0) yes_x ∙ ap Some same)
  at_filter (x ∷ xs) (suc k) i e at passes count = by (p x) refl i count (λ j c. at_filter xs k j e at passes c)
    where
      by : (b : Bool) → p x ≡ b → (i : ℕ) → count_by p (x ∷ take k xs) ≡ i → ((j : ℕ) → count_by p (take k xs) ≡ j → slice_get (filter p xs) j ≡ Some e) → slice_get (cond b (x ∷ filter p xs) (filter p xs)) i ≡ Some e
      by true t i c rest = let n : i ≡ suc (count_by p (take k xs)) = sym c ∙ count_yes p x (take k xs) t in ap (slice_get (x ∷ filter p xs)) n ∙ rest (count_by p (take k xs)) refl
      by false t i c rest = rest i (sym (count_no p x (take k xs) t) ∙ c)

  pub take_filter : (xs : List X) (k : ℕ) → take (count_by p (take k xs)) (filter p xs) ≡ filter p (take k xs)
  take_filter [] zero = refl
  take_filter [] (suc k) = refl
  take_filter (x ∷ xs) zero = refl
  take_filter (x ∷ xs) (suc k) = by (p x) refl (take_filter xs k)
    where
      by : (b : Bool) → p x ≡ b → take (count_by p (take k xs)) (filter p xs) ≡ filter p (take k xs) → take (count_by p (x ∷ take k xs)) (cond b (x ∷ filter p xs) (filter p xs)) ≡ cond b (x ∷ filter p (take k xs)) (filter p (take k xs))
      by true t rest = ap (λ n. take n (x ∷ filter p xs)) (count_yes p x (take k xs) t) ∙ ap (λ l. x ∷ l) rest
      by false t rest = ap (λ n. take n (filter p xs)) (count_no p x (take k xs) t) ∙ rest

  pub count_filter : (f : X → Bool) → ((x : X) → f x ≡ true → p x ≡ true) → (xs : List X) → count_by f (filter p xs) ≡ count_by f xs
  count_filter f covers [] = refl
  count_filter f covers (x ∷ xs) = by (p x) refl (f x) refl (count_filter f covers xs)
    where
      by : (b : Bool) → p x ≡ b → (c : Bool) → f x ≡ c → count_by f (filter p xs) ≡ count_by f xs → count_by f (cond b (x ∷ filter p xs) (filter p xs)) ≡ count_by f (x ∷ xs)
      by true t true g rest = count_yes f x (filter p xs) g ∙ (ap suc rest ∙ sym (count_yes f x xs g))
      by true t false g rest = count_no f x (filter p xs) g ∙ (rest ∙ sym (count_no f x xs g))
      by false t true g rest = let e = covers x g in absurd (cc)
      by false t false g rest = rest ∙ sym (count_no f x xs g)

  pub count_rises : (xs : List X) (j k : ℕ) → j ≤ k → count_by p (take j xs) ≤ count_by p (take k xs)
  count_rises [] j k h = by j k
    where
      none : (n : ℕ) → ◌≡◌ {A = List X} (take n []) []
      none zero = refl
      none (suc n) = refl

      by : (j k : ℕ) → count_by p (take j []) ≤ count_by p (take k [])
      by j k = omega (arith, ap (count_by p) (none j), ap (count_by p) (none k))
  count_rises (x ∷ xs) zero k h = omega arith
  count_rises (x ∷ xs) (suc j) zero h = omega arith
  count_rises (x ∷ xs) (suc j) (suc k) h = omega (arith, count_cons p x (take j xs), count_cons p x (take k xs), count_rises xs j k (omega arith))

  -- one that passes counts from its place on
  pub count_more : (xs : List X) (j k : ℕ) (e : X) → slice_get xs j ≡ Some e → p e ≡ true → j < k → count_by p (take j xs) < count_by p (take k xs)
  count_more [] j k e at passes h = absurd (cc)
  count_more (x ∷ xs) zero zero e at passes h = omega arith
  count_more (x ∷ xs) zero (suc k) e at passes h = let same : x ≡ e = cc in omega (arith, count_yes p x (take k xs) (ap p same ∙ passes))
  count_more (x ∷ xs) (suc j) zero e at passes h = omega arith
  count_more (x ∷ xs) (suc j) (suc k) e at passes h = omega (arith, count_cons p x (take j xs), count_cons p x (take k xs), count_more xs j k e at passes (omega arith))

-- ---- places of hosts' events

of_same_host : (h : ℕ) (m : Merged) → m.event.host ≡ h → is_of h m ≡ true
of_same_host h m e = eq-eqb m.event.host h e

pub at_filtered : (p : Merged → Bool) (xs : List Merged) (h i k : ℕ) → ((m : Merged) → is_of h m ≡ true → p m ≡ true) → IsAt xs h i k → IsAt (filter p xs) h i (count_by p (take k xs))
at_filtered p xs h i k covers a = record {
  event = a.event;
  there = at_filter p xs k (count_by p (take k xs)) a.event a.there (covers a.event (of_same_host h a.event a.of_host)) refl;
  of_host = a.of_host;
  before = ap (count_by (is_of h)) (take_filter p xs k) ∙ (count_filter p (is_of h) covers (take k xs) ∙ a.before);
}

heads_same : (x y : Merged) (xs ys : List Merged) → map event_of (x ∷ xs) ≡ map event_of (y ∷ ys) → (x.event ≡ y.event) × (map event_of xs ≡ map event_of ys)
heads_same x y xs ys e = (cc, cc)

same_get : (xs ys : List Merged) (k : ℕ) (x : Merged) → map event_of xs ≡ map event_of ys → slice_get xs k ≡ Some x → (y : Merged) × (slice_get ys k ≡ Some y) × (y.event ≡ x.event)
same_get [] ys k x e at = absurd (cc)
same_get (z ∷ xs) [] k x e at = absurd (cc)
same_get (z ∷ xs) (y ∷ ys) zero x e at = let h = heads_same z y xs ys e in let same : z ≡ x = cc in (y, refl, sym h.0 ∙ ap event_of same)
same_get (z ∷ xs) (y ∷ ys) (suc k) x e at = same_get xs ys k x (heads_same z y xs ys e).1 at

same_count : (h : ℕ) (xs ys : List Merged) (k : ℕ) → map event_of xs ≡ map event_of ys → count_by (is_of h) (take k ys) ≡ count_by (is_of h) (take k xs)
same_count h [] [] k e = refl
same_count h [] (y ∷ ys) k e = absurd (cc)
same_count h (x ∷ xs) [] k e = absurd (cc)
same_count h (x ∷ xs) (y ∷ ys) zero e = refl
same_count h (x ∷ xs) (y ∷ ys) (suc k) e =
    let s = heads_same x y xs ys e in
    let z : ◌≡◌ {A = ℕ} (cond (is_of h y) 1 0) (cond (is_of h x) 1 0) = ap (λ (v : Event). cond (v.host == h) 1 0) (sym s.0) in
    omega (arith, count_cons (is_of h) x (take k xs), count_cons (is_of h) y (take k ys), same_count h xs ys k s.1, z)

pub same_spot : (xs ys : List Merged) (h i k : ℕ) → map event_of xs ≡ map event_of ys → IsAt xs h i k → IsAt ys h i k
same_spot xs ys h i k e a =
    let y = same_get xs ys k a.event e a.there in
    record { event = y.0; there = y.1; of_host = ap (λ (v : Event). v.host) y.2 ∙ a.of_host; before = same_count h xs ys k e ∙ a.before }

-- ---- order by keys

above_at : (n : ℕ) (xs : List Merged) (k : ℕ) (y : Merged) → NoneBelow key_of n xs → slice_get xs k ≡ Some y → n ≤ y.key
above_at n [] k y a at = absurd (cc)
above_at n (x ∷ xs) zero y a at = let same : x ≡ y = cc in subst (λ (z : Merged). n ≤ z.key) same a.0
above_at n (x ∷ xs) (suc k) y a at = above_at n xs k y a.1 at

pub keys_rise : (xs : List Merged) (j k : ℕ) (x y : Merged) → InOrder key_of xs → slice_get xs j ≡ Some x → slice_get xs k ≡ Some y → j ≤ k → x.key ≤ y.key
keys_rise [] j k x y a e f h = absurd (cc)
keys_rise (z ∷ xs) zero zero x y a e f h = let same : x ≡ y = cc in subst (λ (v : Merged). x.key ≤ v.key) same (omega arith)
keys_rise (z ∷ xs) zero (suc k) x y a e f h = let same : z ≡ x = cc in subst (λ (v : Merged). v.key ≤ y.key) same (above_at z.key xs k y a.0 f)
keys_rise (z ∷ xs) (suc j) zero x y a e f h = absurd (omega arith)
keys_rise (z ∷ xs) (suc j) (suc k) x y a e f h = keys_rise xs j k x y a.1 e f (omega arith)

-- ---- ties

abbrev pub AreOf : ℕ → List Merged → Type 0
AreOf h xs = AllByRecursion (λ m. m.event.host ≡ h) xs

of_filter : (h : ℕ) (p : Merged → Bool) (xs : List Merged) → AreOf h xs → AreOf h (filter p xs)
of_filter h p [] a = tt
of_filter h p (x ∷ xs) a = by (p x) (of_filter h p xs a.1)
  where
    by : (b : Bool) → AreOf h (filter p xs) → AreOf h (cond b (x ∷ filter p xs) (filter p xs))
    by true rest = (a.0, rest)
    by false rest = rest

pub of_at : (h : ℕ) (xs : List Merged) (k : ℕ) (y : Merged) → AreOf h xs → slice_get xs k ≡ Some y → y.event.host ≡ h
of_at h [] k y a at = absurd (cc)
of_at h (x ∷ xs) zero y a at = let same : x ≡ y = cc in subst (λ (z : Merged). z.event.host ≡ h) same a.0
of_at h (x ∷ xs) (suc k) y a at = of_at h xs k y a.1 at

-- in two lists of two hosts, one after the other
first_part : (u v : ℕ) (xs ys : List Merged) (k : ℕ) (y : Merged) → u ≢ v → AreOf v ys → y.event.host ≡ u → slice_get (xs ++ ys) k ≡ Some y → k < length xs
first_part u v [] ys k y apart b h at = absurd (apart (sym h ∙ of_at v ys k y b at))
first_part u v (x ∷ xs) ys zero y apart b h at = omega arith
first_part u v (x ∷ xs) ys (suc k) y apart b h at = let r = first_part u v xs ys k y apart b h at in omega (arith, r)

last_part : (u v : ℕ) (xs ys : List Merged) (k : ℕ) (y : Merged) → u ≢ v → AreOf u xs → y.event.host ≡ v → slice_get (xs ++ ys) k ≡ Some y → length xs ≤ k
last_part u v [] ys k y apart a h at = omega arith
last_part u v (x ∷ xs) ys zero y apart a h at = let same : x ≡ y = cc in absurd (apart (sym a.0 ∙ (ap (λ (z : Merged). z.event.host) same ∙ h)))
last_part u v (x ∷ xs) ys (suc k) y apart a h at = let r = last_part u v xs ys k y apart a.1 h at in omega (arith, r)

-- of two events of one key, the one that was listed first stands first
pub tie_first : (u v : ℕ) (xs ys : List Merged) (s r : ℕ) (x y : Merged) → u ≢ v → AreOf u xs → AreOf v ys → slice_get (by_key (xs ++ ys)) s ≡ Some x → slice_get (by_key (xs ++ ys)) r ≡ Some y
    → x.event.host ≡ u → y.event.host ≡ v → x.key ≡ y.key → s < r
tie_first u v xs ys s r x y apart a b at_s at_r hx hy keys = by (cases_lt s r)
  where
    l : List Merged
    l = by_key (xs ++ ys)

    p : Merged → Bool
    p m = nat_eq m.key x.key

    parts : filter p (by_key (xs ++ ys)) ≡ filter p xs ++ filter p ys
    parts = sorted_of_key key_of x.key (xs ++ ys) ∙ filter-append p xs ys

    by : (s < r) ⊎ (r ≤ s) → s < r
    by (inl less) = less
    by (inr more) = absurd (clash (cases_eq r s))
      where
        clash : (r ≡ s) ⊎ (r ≡ s → ⊥) → ⊥
        clash (inl same) = let e : slice_get (by_key (xs ++ ys)) s ≡ Some y = ap (slice_get (by_key (xs ++ ys))) (sym same) ∙ at_r in let one : x ≡ y = cc in apart (sym hx ∙ (ap (λ (z : Merged). z.event.host) one ∙ hy))
        clash (inr ne) =
            let px : p x ≡ true = eq-eqb x.key x.key refl in
            let py : p y ≡ true = eq-eqb y.key x.key (sym keys) in
            let fx : slice_get (filter p xs ++ filter p ys) (count_by p (take s (by_key (xs ++ ys)))) ≡ Some x = ap (λ z. slice_get z (count_by p (take s (by_key (xs ++ ys))))) (sym parts) ∙ at_filter p (by_key (xs ++ ys)) s (count_by p (take s (by_key (xs ++ ys)))) x at_s px refl in
            let fy : slice_get (filter p xs ++ filter p ys) (count_by p (take r (by_key (xs ++ ys)))) ≡ Some y = ap (λ z. slice_get z (count_by p (take r (by_key (xs ++ ys))))) (sym parts) ∙ at_filter p (by_key (xs ++ ys)) r (count_by p (take r (by_key (xs ++ ys)))) y at_r py refl in
            let i = first_part u v (filter p xs) (filter p ys) (count_by p (take s (by_key (xs ++ ys)))) x apart (of_filter v p ys b) hx fx in
            let j = last_part u v (filter p xs) (filter p ys) (count_by p (take r (by_key (xs ++ ys)))) y apart (of_filter u p xs a) hy fy in
            omega (arith, i, j, count_more p (by_key (xs ++ ys)) r s y at_r py (omega arith))
