-- The state at an instant: all events up to it, applied one after the other (after Trace Compass's state system).
use Rattle.std.specs.Prelude.{ℕ, nat_le, if◌then◌else◌, List, [], ◌∷◌, filter}
use Rattle.trace_types.specs.declared.value.Value.TheVariants.{Null}
use Rattle.trace_types.specs.declared.event.Merged.{Merged}
use Rattle.trace_types.specs.Same.{same_path}
use Rattle.kernel_provider.specs.declared.rules.Assignment.{Assignment}
use Rattle.kernel_provider.specs.Rules.{Values, assignments}

-- no attribute has a value
abbrev pub nothing : Values
nothing p = Null

-- one attribute has another value
abbrev pub put : Values → Assignment → Values
put values a p = if same_path a.path p then a.value else values p

abbrev pub put_all : Values → List Assignment → Values
put_all values [] = values
put_all values (a ∷ more) = put_all (put values a) more

-- each event assigns by the values before it
abbrev pub replay : Values → List Merged → Values
replay values [] = values
replay values (m ∷ ms) = replay (put_all values (assignments values m.event)) ms

-- the values at instant t: those after all events with keys at or before it
abbrev pub state_at : List Merged → ℕ → Values
state_at merge t = replay nothing (filter (λ m. nat_le m.key t) merge)
