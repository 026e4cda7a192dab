-- The order of merged events.
use Rattle.std.specs.Prelude.{ℕ, ◌≤◌, List, [], ◌∷◌}
use Rattle.trace_types.specs.declared.event.Merged.{Merged}

-- the keys begin at `least` or later, and never fall
abbrev pub RiseFrom : ℕ → List Merged → Type 0
RiseFrom least [] = Unit {0}
RiseFrom least (m ∷ ms) = (least ≤ m.key) × RiseFrom m.key ms
