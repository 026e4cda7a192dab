-- Elements and pairs of a list by recursion, and as std says them.
use Rattle.std.proofs.Common.{◌≡◌, ◌≢◌, ◌<◌, inl, inr, ℕ, zero, suc, List, [], ◌∷◌, length, get_or, sym, arith, Contains}
use Rattle.std.specs.List.{AllPairs, AllByRecursion}
use Rattle.message_match.specs.Standings.{IsAmong, AreApart}
use Rattle.trace_types.specs.declared.segment.SegKey.{SegKey}

module _ {X : Type 0} where
  among_at : (xs : List X) (k : ℕ) (x : X) → k < length xs → get_or xs k x ≡ x → IsAmong xs x
  among_at [] k x h e = omega arith
  among_at (y ∷ ys) zero x h e = inl e
  among_at (y ∷ ys) (suc k) x h e = inr (among_at ys k x (omega arith) e)

  pub among : (xs : List X) (x : X) → Contains xs x → IsAmong xs x
  among xs x c = among_at xs c.0 x c.1 c.2

  pub contained : (xs : List X) (x : X) → IsAmong xs x → Contains xs x
  contained [] x h = absurd h
  contained (y ∷ ys) x (inl e) = (0, omega arith, e)
  contained (y ∷ ys) x (inr h) = let c = contained ys x h in (suc c.0, omega (arith, c.1), c.2)

  -- R holds of each element and each later one
  abbrev pub Pairs : (X → X → Type 0) → List X → Type 0
  Pairs R [] = Unit {0}
  Pairs R (x ∷ xs) = AllByRecursion (R x) xs × Pairs R xs

  each_at : (P : X → Type 0) (xs : List X) (j : ℕ) (d : X) → AllByRecursion P xs → j < length xs → P (get_or xs j d)
  each_at P [] j d a h = absurd (omega arith)
  each_at P (x ∷ xs) zero d a h = a.0
  each_at P (x ∷ xs) (suc j) d a h = each_at P xs j d a.1 (omega arith)

  pub all_pairs : (R : X → X → Type 0) (xs : List X) → Pairs R xs → AllPairs R xs
  all_pairs R [] p i j d lt h = absurd (omega arith)
  all_pairs R (x ∷ xs) p i zero d lt h = absurd (omega arith)
  all_pairs R (x ∷ xs) p zero (suc j) d lt h = each_at (R x) xs j d p.0 (omega arith)
  all_pairs R (x ∷ xs) p (suc i) (suc j) d lt h = all_pairs R xs p.1 i j d (omega arith) (omega arith)

  each_from : (P : X → Type 0) (xs : List X) → ((j : ℕ) (d : X) → j < length xs → P (get_or xs j d)) → AllByRecursion P xs
  each_from P [] f = tt
  each_from P (x ∷ xs) f = (f 0 x (omega arith), each_from P xs (λ j d h. f (suc j) d (omega arith)))

  pub pairs : (R : X → X → Type 0) (xs : List X) → AllPairs R xs → Pairs R xs
  pairs R [] f = tt
  pairs R (x ∷ xs) f = (each_from (R x) xs (λ j d h. f 0 (suc j) d (omega arith) (omega arith)), pairs R xs (λ i j d lt h. f (suc i) (suc j) d (omega arith) (omega arith)))

  -- what holds of all holds of one of them
  pub each : (P : X → Type 0) (xs : List X) (x : X) → AllByRecursion P xs → IsAmong xs x → (y : X) × (y ≡ x) × P y
  each P [] x a h = absurd h
  each P (y ∷ ys) x a (inl e) = (y, e, a.0)
  each P (y ∷ ys) x a (inr h) = each P ys x a.1 h

pub pairs_apart : (ks : List SegKey) → AreApart ks → Pairs ◌≢◌ ks
pairs_apart [] a = tt
pairs_apart (k ∷ ks) a = (others k ks a.0, pairs_apart ks a.1)
  where
    others : (k : SegKey) (ks : List SegKey) → (¬ IsAmong ks k) → AllByRecursion (λ l. k ≢ l) ks
    others k [] n = tt
    others k (l ∷ ls) n = (λ e. n (inl (sym e)), others k ls (λ h. n (inr h)))
