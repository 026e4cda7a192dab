-- What lists of merged events keep.
pub use Rattle.trace_types.specs.Order.{RiseFrom}
use Rattle.std.specs.Prelude.{ℕ, ◌+◌, max, List, [], ◌∷◌}
use Rattle.trace_types.specs.declared.event.Merged.{Merged}

-- hosts are numbered from 0 up to the greatest that an event names
abbrev pub host_count : List Merged → ℕ
host_count [] = 0
host_count (m ∷ ms) = max (m.event.host + 1) (host_count ms)
