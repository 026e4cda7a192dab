-- How the built end grows with the steps of a merge (this project's own).
use Rattle.std.specs.Prelude.{◌≡◌, ◌⊎◌, ℕ, ◌≤◌, List, [], ◌∷◌, ◌++◌}
use Rattle.trace_types.specs.declared.event.Merged.{Merged}
use Rattle.kernel_provider.specs.declared.step.Step.{Step}
use Rattle.kernel_provider.specs.Steps.{steps_of}
use Rattle.history_core.specs.Changes.{END, built_of}

-- an event of the merge has this key
abbrev pub IsKey : List Merged → ℕ → Type 0
IsKey [] t = ⊥
IsKey (m ∷ ms) t = (m.key ≡ t) ⊎ IsKey ms t

-- nothing is built, or up to a key of the merge, or to the end of all times
abbrev pub IsBuiltEnd : List Merged → ℕ → Type 0
IsBuiltEnd merge built = (built ≡ 0) ⊎ (IsKey merge built ⊎ (built ≡ END))

-- after any first steps of a merge, the built end is one of these
abbrev pub EndsAtKeys : List Merged → Type 0
EndsAtKeys merge = (front back : List Step) → steps_of merge ≡ front ++ back → IsBuiltEnd merge (built_of front)

-- more steps of a merge leave the built end where it is, or move it on
abbrev pub EndsRise : List Merged → Type 0
EndsRise merge = (front more back : List Step) → steps_of merge ≡ front ++ (more ++ back) → built_of front ≤ built_of (front ++ more)
