-- The ways up from hosts to roots: each has one length, which is less than the number of hosts.
use Rattle.std.proofs.Common.{◌≡◌, ◌<◌, ◌≤◌, ◌+◌, ◌⊎◌, inl, inr, ℕ, zero, suc, Bool, true, false, if◌then◌else◌, Some, List, length, nat_lt, slice_get, refl, sym, ap, subst, arith, lt-ltb, le-ltb}
use Rattle.std.proofs.lemmas.Bool.{cases_lt}
use Rattle.std.proofs.lemmas.Option.{slice_get_within}
use native.Mathlib.Decide.{dec_lt}
use Rattle.clock_fraction.specs.declared.pair_map.PairMap.{PairMap}
use Rattle.host_tree.specs.declared.parent.Parent.{Parent}
use Rattle.host_tree.specs.declared.parent.Parent.TheVariants.{Root, Child}
use Rattle.host_tree.specs.Rooted.{IsAtDepth, LeadToRoots}

module _ (parents : List Parent) where
  pub one_depth : (n m host : ℕ) → IsAtDepth parents n host → IsAtDepth parents m host → n ≡ m
  one_depth zero zero host a b = refl
  one_depth zero (suc m) host a b = let e = b.2 in absurd (cc)
  one_depth (suc n) zero host a b = let e = a.2 in absurd (cc)
  one_depth (suc n) (suc m) host a b =
      let e = a.2 in
      let f = b.2 in
      let same : b.0 ≡ a.0 = cc in
      ap suc (one_depth n m a.0 a.3 (subst (IsAtDepth parents m) same b.3))

  pub depth_within : (n host : ℕ) → IsAtDepth parents n host → host < length parents
  depth_within zero host a = slice_get_within parents host Root a
  depth_within (suc n) host a = slice_get_within parents host (Child a.0 a.1) a.2

  -- a host's parent stands one level above it
  pub above : (n host parent : ℕ) (map : PairMap) → slice_get parents host ≡ Some (Child parent map) → IsAtDepth parents n host → (m : ℕ) × (n ≡ suc m) × IsAtDepth parents m parent
  above zero host parent map e a = absurd (cc)
  above (suc n) host parent map e a = let f = a.2 in let same : a.0 ≡ parent = cc in (n, refl, subst (IsAtDepth parents n) same a.3)

  pub root_depth : (n host : ℕ) → slice_get parents host ≡ Some Root → IsAtDepth parents n host → n ≡ 0
  root_depth zero host e a = refl
  root_depth (suc n) host e a = let f = a.2 in absurd (cc)

  -- at each level down to the host's there is a host
  at_level : (n host k : ℕ) → IsAtDepth parents n host → k ≤ n → (h : ℕ) × IsAtDepth parents k h
  at_level zero host k a le = let same : k ≡ 0 = omega arith in (host, subst (λ x. IsAtDepth parents x host) (sym same) a)
  at_level (suc n) host k a le = by (cases_lt n k) (λ more. at_level n a.0 k a.3 more)
    where
      by : (n < k) ⊎ (k ≤ n) → (k ≤ n → (h : ℕ) × IsAtDepth parents k h) → (h : ℕ) × IsAtDepth parents k h
      by (inl less) next = let same : k ≡ suc n = omega arith in (host, subst (λ x. IsAtDepth parents x host) (sym same) a)
      by (inr more) next = next more

  module _ (rooted : LeadToRoots parents) where
    abbrev depth_at : (host : ℕ) → Dec (host < length parents) → ℕ
    depth_at host (yes h) = (rooted host h).0
    depth_at host (no h) = 0

    abbrev depth : ℕ → ℕ
    depth host = depth_at host (dec_lt host (length parents))

    depth_is : (n host : ℕ) → IsAtDepth parents n host → depth host ≡ n
    depth_is n host a = by (dec_lt host (length parents))
      where
        by : (d : Dec (host < length parents)) → depth_at host d ≡ n
        by (yes h) = one_depth (rooted host h).0 n host (rooted host h).1 a
        by (no h) = absurd (h (depth_within n host a))

    -- how many of the hosts below m stand above level k
    abbrev count_above : ℕ → ℕ → ℕ
    count_above k zero = 0
    count_above k (suc m) = (if nat_lt (depth m) k then 1 else 0) + count_above k m

    one_at_most : (b : Bool) → (if b then 1 else 0) ≤ 1
    one_at_most true = omega arith
    one_at_most false = omega arith

    few : (k m : ℕ) → count_above k m ≤ m
    few k zero = omega arith
    few k (suc m) = omega (arith, few k m, one_at_most (nat_lt (depth m) k))

    step : (k m : ℕ) → (if nat_lt (depth m) k then 1 else 0) ≤ (if nat_lt (depth m) (suc k) then 1 else 0)
    step k m = by (cases_lt (depth m) k)
      where
        by : (depth m < k) ⊎ (k ≤ depth m) → (if nat_lt (depth m) k then 1 else 0) ≤ (if nat_lt (depth m) (suc k) then 1 else 0)
        by (inl less) = rw (lt-ltb (depth m) k less, lt-ltb (depth m) (suc k) (omega arith)) (omega arith)
        by (inr more) = rw (le-ltb (depth m) k more) (omega arith)

    no_fewer : (k m : ℕ) → count_above k m ≤ count_above (suc k) m
    no_fewer k zero = omega arith
    no_fewer k (suc m) = omega (arith, no_fewer k m, step k m)

    more : (k m h : ℕ) → h < m → depth h ≡ k → count_above k m < count_above (suc k) m
    more k zero h lt e = omega arith
    more k (suc m) h lt e = by (cases_lt h m) (λ less. more k m h less e)
      where
        by : (h < m) ⊎ (m ≤ h) → (h < m → count_above k m < count_above (suc k) m) → (if nat_lt (depth m) k then 1 else 0) + count_above k m < (if nat_lt (depth m) (suc k) then 1 else 0) + count_above (suc k) m
        by (inl less) next = omega (arith, next less, step k m)
        by (inr last) next =
            let same : h ≡ m = omega arith in
            let at : depth m ≡ k = subst (λ x. depth x ≡ k) same e in
            rw (le-ltb (depth m) k (omega arith), lt-ltb (depth m) (suc k) (omega arith)) (omega (arith, no_fewer k m))

    many : (n host k : ℕ) → IsAtDepth parents n host → k ≤ suc n → k ≤ count_above k (length parents)
    many n host zero a le = omega arith
    many n host (suc k) a le =
        let h = at_level n host k a (omega arith) in
        omega (arith, many n host k a (omega arith), more k (length parents) h.0 (depth_within k h.0 h.1) (depth_is k h.0 h.1))

    -- there are more hosts than levels above one of them
    pub depth_below : (n host : ℕ) → IsAtDepth parents n host → n < length parents
    depth_below n host a = omega (arith, many n host (suc n) a (omega arith), few (suc n) (length parents))
