-- A turn of an assignment that waits.
use Rattle.std.proofs.Common.{◌≡◌, ℕ, zero, suc, ◌+◌, Bool, true, false, not, cond, if◌then◌else◌, List, [], ◌∷◌, drop, Option, Some, None, is_some, refl, sym, ap, ◌∙◌, subst, arith, slice_get, Result, Ok, Err, IfOk, OnOk}
use Rattle.std.specs.Prelude.{unwrap_or}
use Rattle.std.specs.Map.{lookup}
use Rattle.trace_types.specs.declared.path.Path.{Path as AttributePath}
use Rattle.trace_types.specs.declared.value.Value.{Value}
use Rattle.trace_types.specs.declared.value.Value.TheVariants.{Null}
use Rattle.trace_types.specs.Same.{same_path, same_value}
use Rattle.trace_types.proofs.Same.{path_itself, value_is, value_itself}
use Rattle.kernel_provider.specs.declared.rules.Assignment.{Assignment}
use Rattle.kernel_provider.specs.declared.step.Step.TheVariants.{Add, Change}
use Rattle.kernel_provider.specs.Steps.{Table, with_value, value_in, is_held, number_of, is_idle, all_assigned, all_assignment_steps}

pub head : {X : Type 0} (xs : List X) (i : ℕ) (x : X) → slice_get xs i ≡ Some x → drop i xs ≡ x ∷ drop (i + 1) xs
head {X} xs i x e = by xs i e ∙ ap (λ n. x ∷ drop n xs) next
  where
    next : suc i ≡ i + 1
    next = omega arith

    by : (xs : List X) (i : ℕ) → slice_get xs i ≡ Some x → drop i xs ≡ x ∷ drop (suc i) xs
    by [] i e = absurd (cc)
    by (y ∷ ys) zero e = ap (λ z. z ∷ ys) (cc)
    by (y ∷ ys) (suc i) e = by ys i e

-- what stands at a path that was written
pub lookup-with_value : (table : Table) (p : AttributePath) (v : Value) → lookup (same_path p) (with_value table p v) ≡ Some v
lookup-with_value [] p v = rw (path_itself p) refl
lookup-with_value (e ∷ es) p v = by (same_path p e.0) refl (lookup-with_value es p v)
  where
    by : (b : Bool) → same_path p e.0 ≡ b → lookup (same_path p) (with_value es p v) ≡ Some v → lookup (same_path p) (if b then (e.0, v) ∷ es else e ∷ with_value es p v) ≡ Some v
    by true is rest = rw is refl
    by false is rest = rw is rest

-- the later of two writes stands
pub with_value-with_value : (table : Table) (p : AttributePath) (v w : Value) → with_value (with_value table p v) p w ≡ with_value table p w
with_value-with_value [] p v w = rw (path_itself p) refl
with_value-with_value (e ∷ es) p v w = by (same_path p e.0) refl (with_value-with_value es p v w)
  where
    by : (b : Bool) → same_path p e.0 ≡ b → with_value (with_value es p v) p w ≡ with_value es p w
        → with_value (if b then (e.0, v) ∷ es else e ∷ with_value es p v) p w ≡ (if b then (e.0, w) ∷ es else e ∷ with_value es p w)
    by true is rest = rw is refl
    by false is rest = rw is (ap (λ l. e ∷ l) rest)

-- a path has its number from before it is added
pub number_of-with_value : (table : Table) (p : AttributePath) (v : Value) → number_of (with_value table p v) p ≡ number_of table p
number_of-with_value [] p v = rw (path_itself p) refl
number_of-with_value (e ∷ es) p v = by (same_path p e.0) refl (number_of-with_value es p v)
  where
    by : (b : Bool) → same_path p e.0 ≡ b → number_of (with_value es p v) p ≡ number_of es p
        → number_of (if b then (e.0, v) ∷ es else e ∷ with_value es p v) p ≡ cond (not b) (1 + number_of es p) 0
    by true is rest = rw is refl
    by false is rest = rw is (ap (λ n. 1 + n) rest)

module _ (t : ℕ) (table : Table) (a : Assignment) (more : List Assignment) where
  -- an assignment of the current value
  pub idle_steps : is_idle table a ≡ true → all_assignment_steps t table (a ∷ more) ≡ all_assignment_steps t table more
  idle_steps e = rw e refl

  pub idle_table : is_idle table a ≡ true → all_assigned table (a ∷ more) ≡ all_assigned table more
  idle_table e = rw e refl

  -- an assignment to a path that was added
  pub change_steps : is_idle table a ≡ false → is_held table a.path ≡ true → all_assignment_steps t table (a ∷ more) ≡ Change t (number_of table a.path) a.value ∷ all_assignment_steps t (with_value table a.path a.value) more
  change_steps e h = rw (e, h) refl

  pub change_table : is_idle table a ≡ false → all_assigned table (a ∷ more) ≡ all_assigned (with_value table a.path a.value) more
  change_table e = rw e refl

  new_value : is_held table a.path ≡ false → value_in table a.path ≡ Null
  new_value h = by (lookup (same_path a.path) table) h
    where
      by : (o : Option Value) → is_some o ≡ false → unwrap_or o Null ≡ Null
      by None h = refl
      by (Some v) h = absurd (cc)

  same_idle : is_held table a.path ≡ false → is_idle (with_value table a.path Null) a ≡ is_idle table a
  same_idle h = ap (λ v. same_value v a.value) (ap (λ o. unwrap_or o Null) (lookup-with_value table a.path Null) ∙ sym (new_value h))

  held_now : is_held (with_value table a.path Null) a.path ≡ true
  held_now = ap is_some (lookup-with_value table a.path Null)

  -- a value is assigned to a new path
  pub new_busy : is_held table a.path ≡ false → same_value a.value Null ≡ false → is_idle table a ≡ false
  new_busy h g = by (same_value Null a.value) refl
    where
      by : (b : Bool) → same_value Null a.value ≡ b → is_idle table a ≡ false
      by true e = let yes : same_value a.value Null ≡ true = subst (λ v. same_value a.value v ≡ true) (sym (value_is Null a.value e)) (value_itself a.value) in absurd (cc)
      by false e = rw (new_value h) e

  -- an assignment to a new path
  pub add_steps : is_idle table a ≡ false → is_held table a.path ≡ false → all_assignment_steps t table (a ∷ more) ≡ Add a.path ∷ all_assignment_steps t (with_value table a.path Null) (a ∷ more)
  add_steps e h = rw (same_idle h ∙ e, held_now, e, h, number_of-with_value table a.path Null, with_value-with_value table a.path Null a.value) refl

  pub add_table : is_idle table a ≡ false → is_held table a.path ≡ false → all_assigned table (a ∷ more) ≡ all_assigned (with_value table a.path Null) (a ∷ more)
  add_table e h = rw (same_idle h ∙ e, e, with_value-with_value table a.path Null a.value) refl

-- the clauses of a call that succeeded
pub at_ok : {A E : Type 0} (r : Result A E) (x : A) (Q : A → Type 0) → IfOk r Q → r ≡ Ok x → Q x
at_ok (Ok y) x Q h e = let same : y ≡ x = cc in subst Q same h
at_ok (Err y) x Q h e = absurd (cc)

pub on_ok : {A E : Type 0} (r : Result A E) (x : A) (P : Type 0) → OnOk r P → r ≡ Ok x → P
on_ok (Ok y) x P h e = h
on_ok (Err y) x P h e = absurd (cc)
