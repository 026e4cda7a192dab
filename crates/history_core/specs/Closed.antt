-- The closed intervals of a number's changes (after Trace Compass's state intervals).
use Rattle.std.specs.Prelude.{◌≡◌, ◌≢◌, ℕ, ◌+◌, ◌≤◌, List}
use Rattle.trace_types.specs.declared.value.Value.{Value}
use Rattle.trace_types.specs.declared.value.Value.TheVariants.{Null}
use Rattle.history_core.specs.declared.closed.Since.{Since}
use Rattle.history_core.specs.Changes.{IsTime, last_value}

-- there is a change right after the end, the start is the greatest time of a change before it, and the value is that of the last change at the start
pub record IsClosed (changes : List Since) (start end : ℕ) (value : Value) : Type 0 where
  pub begins : IsTime changes start
  pub ends : IsTime changes (end + 1)
  pub order : start ≤ end
  pub greatest : (t : ℕ) → IsTime changes t → t ≤ end → t ≤ start
  pub value_is : last_value Null start changes ≡ value
  pub not_null : value ≢ Null
