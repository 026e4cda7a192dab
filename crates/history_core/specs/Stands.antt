-- A history stands for the steps that it took.
use Rattle.std.specs.Prelude.{◌≡◌, ◌↔◌, ℕ, ◌<◌, List, [], ◌∷◌, ◌++◌, length, Option, Some}
use Rattle.std.specs.FinMap.{get}
use Rattle.trace_types.specs.declared.path.Path.{Path as AttributePath}
use Rattle.trace_types.specs.declared.value.Value.{Value}
use Rattle.attribute_tree.specs.Numbered.{IsNew}
use Rattle.kernel_provider.specs.declared.step.Step.{Step}
use Rattle.kernel_provider.specs.declared.step.Step.TheVariants.{Advance, Add, Change, Finish}
use Rattle.history_tree.specs.Records.{Content, content_of}
use Rattle.history_tree.specs.Tree.{NodeTree}
use Rattle.history_core.specs.declared.closed.Since.{Since}
use Rattle.history_core.specs.Changes.{END, paths_of, built_from, built_of, changes_of, last_of}
use Rattle.history_core.specs.Closed.{IsClosed}
use Rattle.history_core.specs.Intervals.{open_at}

-- what contracts see of a history; its closed intervals are those of its tree
pub record HistoryModel : Type 0 where
  pub paths : List AttributePath
  pub closed : Content
  pub opened : List (Option Since)
  pub count : ℕ
  pub built : ℕ
  pub tree : NodeTree

-- a history of these parts
abbrev pub kept_of : List AttributePath → NodeTree → List (Option Since) → ℕ → ℕ → HistoryModel
kept_of paths tree opened count built = record { paths = paths; closed = content_of tree.nodes; opened = opened; count = count; built = built; tree = tree }

-- a step that can come where these paths were added and the history is built to this end
abbrev pub CanCome : List AttributePath → ℕ → Step → Type 0
CanCome paths built (Advance t) = (built < t) × (t < END)
CanCome paths built (Add p) = IsNew paths p
CanCome paths built (Change t number value) = (t ≡ built) × (number < length paths)
CanCome paths built Finish = Unit {0}

-- nothing follows the last step
abbrev pub CanFollow : List AttributePath → ℕ → Step → Type 0
CanFollow paths built step = (built < END) × CanCome paths built step

-- each step can follow those before it
abbrev pub AreSteps : List AttributePath → ℕ → List Step → Type 0
AreSteps paths built [] = Unit {0}
AreSteps paths built (step ∷ steps) = CanFollow paths built step × AreSteps (paths ++ paths_of (step ∷ [])) (built_from built (step ∷ [])) steps

-- the history is what these steps make: their paths, closed intervals, last changes, number and built end
pub record Stands (steps : List Step) (h : HistoryModel) : Type 0 where
  pub lawful : AreSteps [] 0 steps
  pub paths : h.paths ≡ paths_of steps
  pub closed : (n s e : ℕ) (v : Value) → (get h.closed (n ∷ s ∷ []) ≡ Some (e, v)) ↔ IsClosed (changes_of n steps) s e v
  pub opened : (n : ℕ) → open_at h.opened n ≡ last_of (changes_of n steps)
  pub count : h.count ≡ length steps
  pub built : h.built ≡ built_of steps
