-- What holds of all views after one changed or one came, and how many views have the turn.
use Rattle.std.proofs.Common.{◌≡◌, ◌≢◌, ℕ, zero, suc, ◌+◌, ◌≤◌, true, List, [], ◌∷◌, ◌++◌, set, ⊎_elim, sym, refl, ap, ◌∙◌, subst, arith}
use mathlib.Core.Option.{some, some-injective}
use lib.ListN.{get_elem?}
use Rattle.atomic_table.proofs.Lists.{at_set, at_snoc}
use Rattle.history_lock.specs.declared.view.View.{View}
use Rattle.history_lock.specs.Turn.{Views, one_if, holders}

module _ {A : Type 0} where
  pub after_set : (P Q : ℕ → A → Type 0) (l : List A) (k : ℕ) (w : A) → ((j : ℕ) (u : A) → get_elem? l j ≡ some u → P j u) → Q k w → ((j : ℕ) (u : A) → j ≢ k → P j u → Q j u)
      → (j : ℕ) (u : A) → get_elem? (set l k w) j ≡ some u → Q j u
  after_set P Q l k w all here there j u at =
      ⊎_elim (λ (t : (j ≡ k) × (w ≡ u)). subst (Q j) t.1 (subst (λ i. Q i w) (sym t.0) here)) (λ (t : (j ≢ k) × (get_elem? l j ≡ some u)). there j u t.0 (all j u t.1)) (at_set l k j w u at)

  pub after_snoc : (P : ℕ → A → Type 0) (l : List A) (w : A) → ((j : ℕ) (u : A) → get_elem? l j ≡ some u → P j u) → ((j : ℕ) → P j w) → (j : ℕ) (u : A) → get_elem? (l ++ w ∷ []) j ≡ some u → P j u
  after_snoc P l w all here j u e = ⊎_elim (λ was. all j u was) (λ (same : w ≡ u). subst (P j) same (here j)) (at_snoc l w u j e)

-- one view changed
pub holders_set : (vs : Views) (id : ℕ) (v w : View) → get_elem? vs id ≡ some v → holders (set vs id w) + one_if v.turn ≡ holders vs + one_if w.turn
holders_set [] id v w at = absurd (mathlib.Core.Option.some-ne-none v (sym at))
holders_set (x ∷ xs) zero v w at = let same : x ≡ v = some-injective x v at in let turn : one_if x.turn ≡ one_if v.turn = ap (λ (u : View). one_if u.turn) same in omega arith
holders_set (x ∷ xs) (suc id) v w at = let rest = holders_set xs id v w at in omega arith

-- the change left the turn where it was
pub holders_same : (vs : Views) (id : ℕ) (v w : View) → get_elem? vs id ≡ some v → w.turn ≡ v.turn → holders (set vs id w) ≡ holders vs
holders_same vs id v w at same = let all = holders_set vs id v w at in let turn : one_if w.turn ≡ one_if v.turn = ap one_if same in omega arith

-- a view came
pub holders_snoc : (vs : Views) (w : View) → holders (vs ++ w ∷ []) ≡ holders vs + one_if w.turn
holders_snoc [] w = omega arith
holders_snoc (x ∷ xs) w = let rest = holders_snoc xs w in omega arith

-- a view that has the turn is counted
pub holders_some : (vs : Views) (id : ℕ) (v : View) → get_elem? vs id ≡ some v → v.turn ≡ true → 1 ≤ holders vs
holders_some [] id v at on = absurd (mathlib.Core.Option.some-ne-none v (sym at))
holders_some (x ∷ xs) zero v at on = let same : x ≡ v = some-injective x v at in let turn : one_if x.turn ≡ 1 = ap (λ (u : View). one_if u.turn) same ∙ ap one_if on in omega arith
holders_some (x ∷ xs) (suc id) v at on = let rest = holders_some xs id v at on in omega arith

-- where one view has the turn, two that have it are one
pub holders_one : (vs : Views) (id j : ℕ) (v u : View) → holders vs ≤ 1 → get_elem? vs id ≡ some v → v.turn ≡ true → get_elem? vs j ≡ some u → u.turn ≡ true → j ≡ id
holders_one [] id j v u one at on at' on' = absurd (mathlib.Core.Option.some-ne-none v (sym at))
holders_one (x ∷ xs) zero zero v u one at on at' on' = refl
holders_one (x ∷ xs) zero (suc j) v u one at on at' on' =
    let same : x ≡ v = some-injective x v at in let turn : one_if x.turn ≡ 1 = ap (λ (u : View). one_if u.turn) same ∙ ap one_if on in let more = holders_some xs j u at' on' in absurd (omega arith)
holders_one (x ∷ xs) (suc id) zero v u one at on at' on' =
    let same : x ≡ u = some-injective x u at' in let turn : one_if x.turn ≡ 1 = ap (λ (u : View). one_if u.turn) same ∙ ap one_if on' in let more = holders_some xs id v at on in absurd (omega arith)
holders_one (x ∷ xs) (suc id) (suc j) v u one at on at' on' = let few : holders xs ≤ 1 = omega arith in ap suc (holders_one xs id j v u few at on at' on')
