-- The next step of a plan can follow where a history stands for those before it.
use Rattle.std.proofs.Common.{◌≡◌, ℕ, ◌+◌, ◌-◌, ◌*◌, ◌<◌, ◌^◌, List, [], ◌∷◌, ◌++◌, length, take, sym, ap, ◌∙◌, subst, arith, length-append, append_assoc}
use Rattle.std.proofs.Math.Seq.{take-append_seam}
use Rattle.trace_types.specs.declared.event.Merged.{Merged}
use Rattle.kernel_provider.specs.declared.step.Step.{Step}
use Rattle.kernel_provider.specs.Steps.{steps_of}
use Rattle.kernel_provider.proofs.Counts.{few_steps}
use Rattle.history_core.specs.Agreement.{IsMerge}
use Rattle.history_core.specs.Changes.{built_from}
use Rattle.history_core.specs.Stands.{HistoryModel, CanFollow, AreSteps, Stands}
use Rattle.history_core.proofs.Lawful.{steps_lawful}
use Rattle.history_core.proofs.Pushed.{steps_rest}
use Rattle.history_lock.specs.Turn.{IsPlan, IsNext}

-- the steps before the next one, and with it
pub front_is : (plan : List Step) (number : ℕ) (step : Step) (next : IsNext plan number step) → take number plan ≡ next.0
front_is plan number step next = subst (λ n. take n plan ≡ next.0) next.3 (subst (λ l. take (length next.0) l ≡ next.0) (sym next.2) (take-append_seam next.0 (step ∷ next.1)))

pub front_grows : (plan : List Step) (number : ℕ) (step : Step) (next : IsNext plan number step) → take (number + 1) plan ≡ next.0 ++ step ∷ []
front_grows plan number step next =
    let all : plan ≡ (next.0 ++ step ∷ []) ++ next.1 = next.2 ∙ sym (append_assoc next.0 (step ∷ []) next.1) in
    let long : length (next.0 ++ step ∷ []) ≡ number + 1 = omega (arith, length-append next.0 (step ∷ []), next.3) in
    subst (λ n. take n plan ≡ next.0 ++ step ∷ []) long (subst (λ l. take (length (next.0 ++ step ∷ [])) l ≡ next.0 ++ step ∷ []) (sym all) (take-append_seam (next.0 ++ step ∷ []) next.1))

pub next_within : (plan : List Step) (number : ℕ) (step : Step) → IsNext plan number step → number < length plan
next_within plan number step next = omega (arith, ap length next.2, length-append next.0 (step ∷ next.1), next.3)

pub next_follows : (plan : List Step) (number : ℕ) (step : Step) (h : HistoryModel) → IsPlan plan → IsNext plan number step → Stands (take number plan) h → CanFollow h.paths h.built step
next_follows plan number step h is next stands =
    let s : Stands next.0 h = subst (λ l. Stands l h) (front_is plan number step next) stands in
    let follows = (steps_rest [] 0 next.0 (step ∷ next.1) (subst (AreSteps [] 0) next.2 is.lawful)).0 in
    subst (λ b. CanFollow h.paths b step) (sym s.built) (subst (λ l. CanFollow l (built_from 0 next.0) step) (sym s.paths) follows)

pub next_few : (plan : List Step) (number : ℕ) (step : Step) (h : HistoryModel) → IsPlan plan → IsNext plan number step → Stands (take number plan) h → h.count < 2 ^ 64 - 1
next_few plan number step h is next stands =
    let count : h.count ≡ number = stands.count ∙ (ap length (front_is plan number step next) ∙ next.3) in let within = next_within plan number step next in let short = is.short in omega arith

-- a history that took it stands for it too
pub next_stands : (plan : List Step) (number : ℕ) (step : Step) (h h' : HistoryModel) → IsNext plan number step → Stands (take number plan) h → ((steps : List Step) → Stands steps h → Stands (steps ++ step ∷ []) h') → Stands (take (number + 1) plan) h'
next_stands plan number step h h' next stands more =
    subst (λ l. Stands l h') (sym (front_grows plan number step next)) (more next.0 (subst (λ l. Stands l h) (front_is plan number step next) stands))

-- the steps of a merge are a plan
pub merge_plan : (merge : List Merged) → IsMerge merge → length merge * 17 + 1 < 2 ^ 64 → IsPlan (steps_of merge)
merge_plan merge is small = record { lawful = steps_lawful merge is; short = omega (arith, small, few_steps merge) }
