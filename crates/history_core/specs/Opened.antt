-- The open intervals of all numbers, kept with no tag beside them (this project's own).
use Rattle.std.specs.Prelude.{ℕ, ◌-◌, ◌^◌, ◌==◌, Bool, if◌then◌else◌, List, map, Option, None, Some, refl}
use Rattle.std.specs.Coded.{Coded, code_by, coded×, coded_ℕ, coded_bool, coded_list, coded_option}
use Rattle.trace_types.specs.declared.value.Value.{Value}
use Rattle.trace_types.specs.contracts.value.Value as value
use Rattle.history_core.specs.declared.closed.Since.{Since}

-- the open interval of each number, and whether one more number can be added without memory
pub record Opened : Type 0 where
  pub intervals : List (Option Since)
  pub has_room : Bool

-- what is kept of a number is its open interval, but for a start that no interval has
abbrev pub interval_of : Since → Option Since
interval_of since = if since.start == 2 ^ 64 - 1 then None else Some since

-- the open intervals of all numbers, of what is kept
abbrev pub intervals_of : List Since → List (Option Since)
intervals_of kept = map interval_of kept

-- ---- how they are stored
-- a value since a time, as a pair
abbrev pub since_code : Coded Since
since_code = code_by (ℕ × Value) (coded× coded_ℕ value.the_row.coded) (λ s. (s.start, s.value)) (λ p. record { start = p.0; value = p.1 }) (λ _. refl)

-- open intervals and their room, as a pair
abbrev pub opened_code : Coded Opened
opened_code = code_by (List (Option Since) × Bool) (coded× (coded_list (coded_option since_code)) coded_bool) (λ o. (o.intervals, o.has_room)) (λ p. record { intervals = p.0; has_room = p.1 }) (λ _. refl)
