-- What one more step, or one more change, adds.
use Rattle.std.proofs.Common.{◌≡◌, ◌⊎◌, inl, inr, ℕ, ◌==◌, Bool, true, false, if◌then◌else◌, nat_le, List, [], ◌∷◌, ◌++◌, Option, Some, refl, sym, ap, ◌∙◌, subst, append_assoc, append-nil}
use Rattle.trace_types.specs.declared.path.Path.{Path as AttributePath}
use Rattle.trace_types.specs.declared.value.Value.{Value}
use Rattle.kernel_provider.specs.declared.step.Step.{Step}
use Rattle.kernel_provider.specs.declared.step.Step.TheVariants.{Advance, Add, Change, Finish}
use Rattle.history_core.specs.declared.closed.Since.{Since}
use Rattle.history_core.specs.Changes.{END, paths_of, built_from, changes_of, last_value, last_from, IsTime}
use Rattle.history_core.specs.Stands.{CanFollow, AreSteps}

pub paths_both : (s u : List Step) → paths_of (s ++ u) ≡ paths_of s ++ paths_of u
paths_both [] u = refl
paths_both (Advance t ∷ s) u = paths_both s u
paths_both (Add p ∷ s) u = ap (λ l. p ∷ l) (paths_both s u)
paths_both (Change t n v ∷ s) u = paths_both s u
paths_both (Finish ∷ s) u = paths_both s u

pub built_both : (built : ℕ) (s u : List Step) → built_from built (s ++ u) ≡ built_from (built_from built s) u
built_both built [] u = refl
built_both built (Advance t ∷ s) u = built_both t s u
built_both built (Add p ∷ s) u = built_both built s u
built_both built (Change t n v ∷ s) u = built_both built s u
built_both built (Finish ∷ s) u = built_both END s u

pub changes_both : (n : ℕ) (s u : List Step) → changes_of n (s ++ u) ≡ changes_of n s ++ changes_of n u
changes_both n [] u = refl
changes_both n (Advance t ∷ s) u = changes_both n s u
changes_both n (Add p ∷ s) u = changes_both n s u
changes_both n (Change t m v ∷ s) u = by (m == n) (changes_both n s u)
  where
    by : (b : Bool) → changes_of n (s ++ u) ≡ changes_of n s ++ changes_of n u
        → (if b then record { start = t; value = v } ∷ changes_of n (s ++ u) else changes_of n (s ++ u)) ≡ (if b then record { start = t; value = v } ∷ changes_of n s else changes_of n s) ++ changes_of n u
    by true h = ap (λ l. record { start = t; value = v } ∷ l) h
    by false h = h
changes_both n (Finish ∷ s) u = changes_both n s u

-- paths, and the built end, one step after the other
pub paths_first : (x : Step) (s : List Step) → paths_of (x ∷ s) ≡ paths_of (x ∷ []) ++ paths_of s
paths_first x s = paths_both (x ∷ []) s

pub steps_both : (paths : List AttributePath) (built : ℕ) (s u : List Step) → AreSteps paths built s → AreSteps (paths ++ paths_of s) (built_from built s) u → AreSteps paths built (s ++ u)
steps_both paths built [] u h g = subst (λ ps. AreSteps ps built u) (append-nil paths) g
steps_both paths built (x ∷ s) u h g = (
  h.0,
  steps_both (paths ++ paths_of (x ∷ [])) (built_from built (x ∷ [])) s u h.1
      (subst (λ ps. AreSteps ps (built_from (built_from built (x ∷ [])) s) u) (ap (λ l. paths ++ l) (paths_first x s) ∙ sym (append_assoc paths (paths_of (x ∷ [])) (paths_of s)))
      (subst (λ b. AreSteps (paths ++ paths_of (x ∷ s)) b u) (built_both built (x ∷ []) s) g)),
)

-- the steps after others
pub steps_rest : (paths : List AttributePath) (built : ℕ) (s u : List Step) → AreSteps paths built (s ++ u) → AreSteps (paths ++ paths_of s) (built_from built s) u
steps_rest paths built [] u h = subst (λ ps. AreSteps ps built u) (sym (append-nil paths)) h
steps_rest paths built (x ∷ s) u h =
    subst (λ b. AreSteps (paths ++ paths_of (x ∷ s)) b u) (sym (built_both built (x ∷ []) s))
    (subst (λ ps. AreSteps ps (built_from (built_from built (x ∷ [])) s) u) (append_assoc paths (paths_of (x ∷ [])) (paths_of s) ∙ ap (λ l. paths ++ l) (sym (paths_first x s)))
    (steps_rest (paths ++ paths_of (x ∷ [])) (built_from built (x ∷ [])) s u h.1))

-- the steps before others
pub steps_front : (paths : List AttributePath) (built : ℕ) (s u : List Step) → AreSteps paths built (s ++ u) → AreSteps paths built s
steps_front paths built [] u h = tt
steps_front paths built (x ∷ s) u h = (h.0, steps_front (paths ++ paths_of (x ∷ [])) (built_from built (x ∷ [])) s u h.1)

pub steps_push : (s : List Step) (x : Step) → AreSteps [] 0 s → CanFollow (paths_of s) (built_from 0 s) x → AreSteps [] 0 (s ++ x ∷ [])
steps_push s x h g = steps_both [] 0 s (x ∷ []) h (g, tt)

pub last_value_push : (v : Value) (t : ℕ) (cs : List Since) (c : Since) → last_value v t (cs ++ c ∷ []) ≡ (if nat_le c.start t then c.value else last_value v t cs)
last_value_push v t [] c = refl
last_value_push v t (d ∷ cs) c = last_value_push (if nat_le d.start t then d.value else v) t cs c

pub last_push : (o : Option Since) (cs : List Since) (c : Since) → last_from o (cs ++ c ∷ []) ≡ Some c
last_push o [] c = refl
last_push o (d ∷ cs) c = last_push (Some d) cs c

pub time_old : (cs ds : List Since) (t : ℕ) → IsTime cs t → IsTime (cs ++ ds) t
time_old [] ds t h = absurd h
time_old (c ∷ cs) ds t (inl e) = inl e
time_old (c ∷ cs) ds t (inr h) = inr (time_old cs ds t h)

pub time_new : (cs : List Since) (c : Since) → IsTime (cs ++ c ∷ []) c.start
time_new [] c = inl refl
time_new (d ∷ cs) c = inr (time_new cs c)

pub time_split : (cs : List Since) (c : Since) (t : ℕ) → IsTime (cs ++ c ∷ []) t → IsTime cs t ⊎ (c.start ≡ t)
time_split [] c t (inl e) = inr e
time_split [] c t (inr h) = absurd h
time_split (d ∷ cs) c t (inl e) = inl (inl e)
time_split (d ∷ cs) c t (inr h) = by (time_split cs c t h)
  where
    by : IsTime cs t ⊎ (c.start ≡ t) → IsTime (d ∷ cs) t ⊎ (c.start ≡ t)
    by (inl g) = inl (inr g)
    by (inr e) = inr e
