-- Intervals of a number's values.
use Rattle.std.specs.Prelude.{ℕ, ◌==◌, ◌&&◌, nat_le, Bool}
use Rattle.history_nodes.specs.declared.interval.Interval.{Interval}

-- the interval is of this number and holds the instant
abbrev pub is_of : ℕ → ℕ → Interval → Bool
is_of number t i = (i.number == number) && (nat_le i.start t && nat_le t i.end)
