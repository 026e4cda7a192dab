-- One more stretch at the end of others.
use Rattle.std.proofs.Common.{◌≡◌, ◌≢◌, ◌⊎◌, inl, inr, ℕ, ◌+◌, ◌<◌, ◌≤◌, Bool, true, false, cond, List, [], ◌∷◌, ◌++◌, length, get_or, set, refl, sym, ap, ◌∙◌, subst, arith}
use Rattle.std.specs.List.{AllByRecursion}
use Rattle.std.proofs.lemmas.Bool.{cases_order}
use Rattle.trace_types.specs.declared.value.Value.{Value}
use Rattle.trace_types.specs.Same.{same_value}
use Rattle.trace_types.proofs.Same.{value_is, value_itself}
use Rattle.range_query.specs.declared.stretch.Stretch.{Stretch}
use Rattle.range_query.specs.Stretches.{Tile, DifferFrom, NeighboursDiffer}
use Rattle.range_query.specs.Cover.{put_after, put_on}

-- ---- what the code does
-- a stretch that goes on to another instant
abbrev pub going_on : Stretch → Stretch → Stretch
going_on s r = record r { to = s.to }

after_same : (s r d : Stretch) (ss : List Stretch) → same_value (get_or (r ∷ ss) (length ss) d).value s.value ≡ true → set (r ∷ ss) (length ss) (going_on s (get_or (r ∷ ss) (length ss) d)) ≡ put_after s r ss
after_same s r d [] e = rw e refl
after_same s r d (q ∷ ss) e = ap (λ l. r ∷ l) (after_same s q d ss e)

after_other : (s r d : Stretch) (ss : List Stretch) → same_value (get_or (r ∷ ss) (length ss) d).value s.value ≡ false → (r ∷ ss) ++ s ∷ [] ≡ put_after s r ss
after_other s r d [] e = rw e refl
after_other s r d (q ∷ ss) e = ap (λ l. r ∷ l) (after_other s q d ss e)

pub put_same : (s d : Stretch) (ss : List Stretch) (last : ℕ) → length ss ≡ last + 1 → same_value (get_or ss last d).value s.value ≡ true → set ss last (going_on s (get_or ss last d)) ≡ put_on s ss
put_same s d [] last n e = absurd (omega (arith, n))
put_same s d (r ∷ ss) last n e =
    let at : length ss ≡ last = omega (arith, n) in
    subst (λ k. set (r ∷ ss) k (going_on s (get_or (r ∷ ss) k d)) ≡ put_after s r ss) at (after_same s r d ss (subst (λ k. same_value (get_or (r ∷ ss) k d).value s.value ≡ true) (sym at) e))

pub put_other : (s d : Stretch) (ss : List Stretch) (last : ℕ) → length ss ≡ last + 1 → same_value (get_or ss last d).value s.value ≡ false → ss ++ s ∷ [] ≡ put_on s ss
put_other s d [] last n e = refl
put_other s d (r ∷ ss) last n e =
    let at : length ss ≡ last = omega (arith, n) in
    after_other s r d ss (subst (λ k. same_value (get_or (r ∷ ss) k d).value s.value ≡ false) (sym at) e)

pub put_first : (s : Stretch) (ss : List Stretch) → length ss ≡ 0 → ss ++ s ∷ [] ≡ put_on s ss
put_first s [] n = refl
put_first s (r ∷ ss) n = absurd (omega (arith, n))

-- ---- what is kept
tile_after : (s r : Stretch) (ss : List Stretch) (from : ℕ) → s.from < s.to → Tile from (r ∷ ss) s.from → Tile from (put_after s r ss) s.to
tile_after s r [] from lt h = by (same_value r.value s.value)
  where
    by : (b : Bool) → Tile from (cond b (going_on s r ∷ []) (r ∷ s ∷ [])) s.to
    by true = (h.0, omega (arith, h.1, h.2, lt), refl)
    by false = (h.0, h.1, (sym h.2, lt, refl))
tile_after s r (q ∷ ss) from lt h = (h.0, h.1, tile_after s q ss r.to lt h.2)

pub tile_put : (s : Stretch) (ss : List Stretch) (from : ℕ) → s.from < s.to → Tile from ss s.from → Tile from (put_on s ss) s.to
tile_put s [] from lt h = (sym h, lt, refl)
tile_put s (r ∷ ss) from lt h = tile_after s r ss from lt h

unlike : (v w : Value) → same_value v w ≡ false → v ≢ w
unlike v w e k = let yes' : same_value v w ≡ true = subst (λ x. same_value v x ≡ true) k (value_itself v) in absurd (cc)

differ_from : (s r : Stretch) (ss : List Stretch) (v : Value) → v ≢ r.value → DifferFrom r.value ss → DifferFrom v (put_after s r ss)
differ_from s r [] v ne h = by (same_value r.value s.value) refl
  where
    by : (b : Bool) → same_value r.value s.value ≡ b → DifferFrom v (cond b (going_on s r ∷ []) (r ∷ s ∷ []))
    by true e = (ne, tt)
    by false e = (ne, (unlike r.value s.value e, tt))
differ_from s r (q ∷ ss) v ne h = (ne, differ_from s q ss r.value h.0 h.1)

pub differ_put : (s : Stretch) (ss : List Stretch) → NeighboursDiffer ss → NeighboursDiffer (put_on s ss)
differ_put s [] h = tt
differ_put s (r ∷ []) h = by (same_value r.value s.value) refl
  where
    by : (b : Bool) → same_value r.value s.value ≡ b → NeighboursDiffer (cond b (going_on s r ∷ []) (r ∷ s ∷ []))
    by true e = tt
    by false e = (unlike r.value s.value e, tt)
differ_put s (r ∷ (q ∷ ss)) h = differ_from s q ss r.value h.0 h.1

-- ---- values
-- at each instant of the stretch this is the value
pub record HasValue (f : ℕ → Value) (s : Stretch) : Type 0 where
  pub each : (t : ℕ) → s.from ≤ t → t < s.to → f t ≡ s.value

values_after : (f : ℕ → Value) (s r : Stretch) (ss : List Stretch) (from : ℕ) → Tile from (r ∷ ss) s.from → HasValue f s → AllByRecursion (HasValue f) (r ∷ ss) → AllByRecursion (HasValue f) (put_after s r ss)
values_after f s r [] from tile h g = by (same_value r.value s.value) refl
  where
    at : same_value r.value s.value ≡ true → (t : ℕ) → r.from ≤ t → t < s.to → (t ≡ r.to) ⊎ ((t < r.to) ⊎ (r.to < t)) → f t ≡ r.value
    at e t low high (inl k) = h.each t (omega (arith, k, tile.2)) high ∙ sym (value_is r.value s.value e)
    at e t low high (inr (inl k)) = g.0.each t low k
    at e t low high (inr (inr k)) = h.each t (omega (arith, k, tile.2)) high ∙ sym (value_is r.value s.value e)

    by : (b : Bool) → same_value r.value s.value ≡ b → AllByRecursion (HasValue f) (cond b (going_on s r ∷ []) (r ∷ s ∷ []))
    by true e = (record { each = λ t low high. at e t low high (cases_order t r.to) }, tt)
    by false e = (g.0, (h, tt))
values_after f s r (q ∷ ss) from tile h g = (g.0, values_after f s q ss r.to tile.2 h g.1)

pub values_put : (f : ℕ → Value) (s : Stretch) (ss : List Stretch) (from : ℕ) → Tile from ss s.from → HasValue f s → AllByRecursion (HasValue f) ss → AllByRecursion (HasValue f) (put_on s ss)
values_put f s [] from tile h g = (h, tt)
values_put f s (r ∷ ss) from tile h g = values_after f s r ss from tile h g
