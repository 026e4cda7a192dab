-- Intervals as a map.
use Rattle.std.proofs.Common.{◌≡◌, ◌≢◌, ◌⊎◌, inl, inr, ℕ, zero, suc, Bool, true, false, cond, List, [], ◌∷◌, ◌++◌, Contains, map, get_or, Some, refl, sym, ap, ◌∙◌, subst, arith}
use Rattle.std.specs.List.{AllByRecursion}
use Rattle.std.specs.Prelude.{unwrap_or}
use Rattle.std.specs.declared.cmp.Ordering.{Ordering}
use Rattle.std.specs.declared.cmp.Ordering.TheVariants.{Less, Equal, Greater}
use Rattle.std.specs.Ordering.{nat_cmp, is_eq, eq_by_cmp}
use Rattle.std.specs.Cmp.Lexicographic.{slice_cmp, nat_list_cmp_total}
use Rattle.std.specs.FinMap.{get, find, get-from_entries, get-insert, same_map, slice_cmp-IsAntisymmetric, nat_cmp-IsAntisymmetric}
use Rattle.std.proofs.lemmas.Cmp.{tied_itself}
use Rattle.trace_types.specs.declared.value.Value.{Value}
use Rattle.history_nodes.specs.declared.interval.Interval.{Interval}
use Rattle.history_tree.specs.Records.{IsAt, key_of, entry_of, map_of, with_interval, IsApart, AreApart, IsFree}
use Rattle.history_tree.proofs.Stored.{IsBetween}

-- the interval is one of these
abbrev pub IsMember : Interval → List Interval → Type 0
IsMember i [] = ⊥
IsMember i (j ∷ js) = (j ≡ i) ⊎ IsMember i js

pub contains_behind : {A : Type 0} (xs : List A) (x y : A) → Contains xs y → Contains (x ∷ xs) y
contains_behind xs x y (k, lt, at) = (suc k, omega arith, at)

pub contained : (i : Interval) (xs : List Interval) → IsMember i xs → Contains xs i
contained i [] m = absurd m
contained i (x ∷ xs) (inl e) = (0, omega arith, e)
contained i (x ∷ xs) (inr m) = contains_behind xs x i (contained i xs m)

pub member_in : (i : Interval) (xs : List Interval) → Contains xs i → IsMember i xs
member_in i [] (k, lt, at) = absurd (omega (arith, lt))
member_in i (x ∷ xs) (zero, lt, at) = inl at
member_in i (x ∷ xs) (suc k, lt, at) = inr (member_in i xs (k, omega (arith, lt), at))

pub member_has : (P : Interval → Type 0) (xs : List Interval) (i : Interval) → AllByRecursion P xs → IsMember i xs → P i
member_has P [] i h m = absurd m
member_has P (j ∷ js) i h (inl e) = subst P e h.0
member_has P (j ∷ js) i h (inr m) = member_has P js i h.1 m

pub all_members : (P : Interval → Type 0) (xs : List Interval) → ((i : Interval) → IsMember i xs → P i) → AllByRecursion P xs
all_members P [] h = tt
all_members P (j ∷ js) h = (h j (inl refl), all_members P js (λ i m. h i (inr m)))

pub member_left : (i : Interval) (xs ys : List Interval) → IsMember i xs → IsMember i (xs ++ ys)
member_left i [] ys m = absurd m
member_left i (x ∷ xs) ys (inl e) = inl e
member_left i (x ∷ xs) ys (inr m) = inr (member_left i xs ys m)

pub member_right : (i : Interval) (xs ys : List Interval) → IsMember i ys → IsMember i (xs ++ ys)
member_right i [] ys m = m
member_right i (x ∷ xs) ys m = inr (member_right i xs ys m)

pub member_split : (i : Interval) (xs ys : List Interval) → IsMember i (xs ++ ys) → IsMember i xs ⊎ IsMember i ys
member_split i [] ys m = inr m
member_split i (x ∷ xs) ys (inl e) = inl (inl e)
member_split i (x ∷ xs) ys (inr m) = by (member_split i xs ys m)
  where
    by : IsMember i xs ⊎ IsMember i ys → IsMember i (x ∷ xs) ⊎ IsMember i ys
    by (inl g) = inl (inr g)
    by (inr g) = inr g

-- of intervals that are apart no two of one number hold an instant
pub apart_same : (xs : List Interval) (i j : Interval) (t : ℕ) → AreApart xs → IsMember i xs → IsMember j xs → i.number ≡ j.number → IsAt t i → IsAt t j → i ≡ j
apart_same [] i j t h a b e p q = absurd a
apart_same (x ∷ xs) i j t h (inl a) (inl b) e p q = sym a ∙ b
apart_same (x ∷ xs) i j t h (inl a) (inr b) e p q = absurd (subst (λ (k : Interval). IsApart k j) a (member_has (IsApart x) xs j h.0 b) e t p q)
apart_same (x ∷ xs) i j t h (inr a) (inl b) e p q = absurd (subst (λ (k : Interval). IsApart k i) b (member_has (IsApart x) xs i h.0 a) (sym e) t q p)
apart_same (x ∷ xs) i j t h (inr a) (inr b) e p q = apart_same xs i j t h.1 a b e p q

-- ---- keys
abbrev pub alike : List ℕ → List ℕ → Bool
alike = eq_by_cmp (slice_cmp nat_cmp)

pub same_key : (a b : List ℕ) → alike a b ≡ true → a ≡ b
same_key a b h = slice_cmp-IsAntisymmetric nat_cmp-IsAntisymmetric a b (equal (slice_cmp nat_cmp a b) h)
  where
    equal : (o : Ordering) → is_eq o ≡ true → o ≡ Equal
    equal Less h = absurd (cc)
    equal Equal h = refl
    equal Greater h = absurd (cc)

pub own_key : (a : List ℕ) → alike a a ≡ true
own_key a = ap is_eq (tied_itself nat_list_cmp_total a)

pub other_key : (a b : List ℕ) → a ≢ b → alike a b ≡ false
other_key a b h = by (alike a b) refl
  where
    by : (k : Bool) → alike a b ≡ k → k ≡ false
    by true e = absurd (h (same_key a b e))
    by false e = refl

pub key_number : (m s n t : ℕ) → m ∷ s ∷ [] ≡ n ∷ t ∷ [] → m ≡ n
key_number m s n t e = ap (λ l. get_or l 0 0) e

pub key_start : (m s n t : ℕ) → m ∷ s ∷ [] ≡ n ∷ t ∷ [] → s ≡ t
key_start m s n t e = ap (λ l. get_or l 1 0) e

-- intervals that are apart have different keys
pub apart_keys : (i j : Interval) → IsApart i j → key_of i ≢ key_of j
apart_keys i j h e =
    let s : i.start ≡ j.start = key_start i.number i.start j.number j.start e in
    h (key_number i.number i.start j.number j.start e) i.start (record { begun = omega arith; lasts = i.ordered }) (record { begun = omega (arith, s); lasts = omega (arith, s, j.ordered) })

-- ---- look-ups
find_member : (is : List Interval) (i : Interval) → AreApart is → IsMember i is → find (slice_cmp nat_cmp) (key_of i) (map entry_of is) ≡ Some (i.end, i.value)
find_member [] i a m = absurd m
find_member (j ∷ js) i a (inl e) = subst (λ (k : Interval). find (slice_cmp nat_cmp) (key_of k) (map entry_of (j ∷ js)) ≡ Some (k.end, k.value)) e (rw (own_key (key_of j)) refl)
find_member (j ∷ js) i a (inr m) = rw (other_key (key_of i) (key_of j) (λ e. apart_keys j i (member_has (IsApart j) js i a.0 m) (sym e))) (find_member js i a.1 m)

-- a record is in the map
pub get_member : (is : List Interval) (i : Interval) → AreApart is → IsMember i is → get (map_of is) (key_of i) ≡ Some (i.end, i.value)
get_member is i a m = get-from_entries nat_list_cmp_total (map entry_of is) (key_of i) ∙ find_member is i a m

-- one of these intervals has this key, end and value
pub record IsOf (is : List Interval) (q : List ℕ) (x : ℕ × Value) : Type 0 where
  pub interval : Interval
  pub member : IsMember interval is
  pub key : q ≡ key_of interval
  pub entry : (interval.end, interval.value) ≡ x

find_found : (is : List Interval) (q : List ℕ) (x : ℕ × Value) → find (slice_cmp nat_cmp) q (map entry_of is) ≡ Some x → IsOf is q x
find_found [] q x h = absurd (cc)
find_found (j ∷ js) q x h = by (alike q (key_of j)) refl h (find_found js q x)
  where
    by : (k : Bool) → alike q (key_of j) ≡ k → cond k (Some (j.end, j.value)) (find (slice_cmp nat_cmp) q (map entry_of js)) ≡ Some x
        → (find (slice_cmp nat_cmp) q (map entry_of js) ≡ Some x → IsOf js q x)
        → IsOf (j ∷ js) q x
    by true e h rest = record { interval = j; member = inl refl; key = same_key q (key_of j) e; entry = ap (λ o. unwrap_or o x) h }
    by false e h rest = let r = rest h in record { interval = r.interval; member = inr r.member; key = r.key; entry = r.entry }

-- what is in the map is a record
pub get_found : (is : List Interval) (q : List ℕ) (x : ℕ × Value) → get (map_of is) q ≡ Some x → IsOf is q x
get_found is q x h = find_found is q x (sym (get-from_entries nat_list_cmp_total (map entry_of is) q) ∙ h)

-- ---- one more interval
find_between : (front back : List Interval) (i : Interval) (q : List ℕ) → AllByRecursion (λ f. key_of f ≢ key_of i) front
    → find (slice_cmp nat_cmp) q (map entry_of (front ++ (i ∷ back))) ≡ cond (alike q (key_of i)) (Some (i.end, i.value)) (find (slice_cmp nat_cmp) q (map entry_of (front ++ back)))
find_between [] back i q h = refl
find_between (f ∷ front) back i q h = by (alike q (key_of f)) refl (find_between front back i q h.1)
  where
    by : (k : Bool) → alike q (key_of f) ≡ k
        → find (slice_cmp nat_cmp) q (map entry_of (front ++ (i ∷ back))) ≡ cond (alike q (key_of i)) (Some (i.end, i.value)) (find (slice_cmp nat_cmp) q (map entry_of (front ++ back)))
        → cond k (Some (f.end, f.value)) (find (slice_cmp nat_cmp) q (map entry_of (front ++ (i ∷ back)))) ≡ cond (alike q (key_of i)) (Some (i.end, i.value)) (cond k (Some (f.end, f.value)) (find (slice_cmp nat_cmp) q (map entry_of (front ++ back))))
    by true e rest = rw (other_key q (key_of i) (λ x. h.0 (sym (same_key q (key_of f) e) ∙ x))) refl
    by false e rest = rest

pub map_between : (old new : List Interval) (i : Interval) → IsBetween old new i → AllByRecursion (λ f. key_of f ≢ key_of i) old → map_of new ≡ with_interval i (map_of old)
map_between old new i b h =
    same_map nat_list_cmp_total (slice_cmp-IsAntisymmetric nat_cmp-IsAntisymmetric) (map_of new) (with_interval i (map_of old))
    (λ q. get-from_entries nat_list_cmp_total (map entry_of new) q
    ∙ (ap (λ is. find (slice_cmp nat_cmp) q (map entry_of is)) b.after
    ∙ (find_between b.front b.back i q (front_keys b.front b.back (subst (λ is. AllByRecursion (λ f. key_of f ≢ key_of i) is) b.before h))
    ∙ (ap (λ is. cond (alike q (key_of i)) (Some (i.end, i.value)) (find (slice_cmp nat_cmp) q (map entry_of is))) (sym b.before)
    ∙ (ap (λ o. cond (alike q (key_of i)) (Some (i.end, i.value)) o) (sym (get-from_entries nat_list_cmp_total (map entry_of old) q))
    ∙ sym (get-insert nat_list_cmp_total (map_of old) (key_of i) (i.end, i.value) q))))))
  where
    front_keys : (xs ys : List Interval) → AllByRecursion (λ f. key_of f ≢ key_of i) (xs ++ ys) → AllByRecursion (λ f. key_of f ≢ key_of i) xs
    front_keys [] ys g = tt
    front_keys (x ∷ xs) ys g = (g.0, front_keys xs ys g.1)

-- an interval that meets none of the content is apart from each record
pub free_apart : (is : List Interval) (i : Interval) → AreApart is → IsFree (map_of is) i → AllByRecursion (IsApart i) is
free_apart is i a free = all_members (IsApart i) is (λ j m e t at_i at_j. free j.start j.end t j.value (ap (λ n. get (map_of is) (n ∷ j.start ∷ [])) e ∙ get_member is j a m) at_j.begun at_j.lasts at_i)
