-- Stretches that are made one after the other, from intervals (this project's own).
use Rattle.std.specs.Prelude.{◌≡◌, ℕ, ◌+◌, ◌-◌, min, nat_lt, if◌then◌else◌, List, [], ◌∷◌, Option, None, Some}
use Rattle.trace_types.specs.declared.value.Value.{Value}
use Rattle.trace_types.specs.declared.value.Value.TheVariants.{Null}
use Rattle.trace_types.specs.Same.{same_value}
use Rattle.history_nodes.specs.declared.interval.Interval.{Interval}
use Rattle.history_tree.specs.Over.{AreOver}
use Rattle.history_core.specs.declared.closed.Since.{Since}
use Rattle.history_core.specs.Intervals.{open_at, EndBefore}
use Rattle.history_core.specs.Stands.{HistoryModel}
use Rattle.range_query.specs.declared.stretch.Stretch.{Stretch}

-- stretches, and the instant that they reach
pub record Covered : Type 0 where
  pub stretches : List Stretch
  pub reached : ℕ

-- none yet
abbrev pub begun : ℕ → Covered
begun from = record { stretches = []; reached = from }

-- stretches after a first one, and one more where they end: the last of them goes on, if it has the same value
abbrev pub put_after : Stretch → Stretch → List Stretch → List Stretch
put_after s r [] = if same_value r.value s.value then record r { to = s.to } ∷ [] else (r ∷ s ∷ [])
put_after s r (q ∷ ss) = r ∷ put_after s q ss

-- the same, of any stretches
abbrev pub put_on : Stretch → List Stretch → List Stretch
put_on s [] = s ∷ []
put_on s (r ∷ ss) = put_after s r ss

-- on to an instant with a value, unless it was reached already
abbrev pub extended : ℕ → Value → Covered → Covered
extended to value c = if nat_lt c.reached to then record { stretches = put_on (record { from = c.reached; to = to; value = value }) c.stretches; reached = to } else c

-- on over intervals, up to an end, with no value between them
abbrev pub filled : ℕ → List Interval → Covered → Covered
filled end [] c = c
filled end (i ∷ is) c = filled end is (extended (min end (i.end + 1)) i.value (extended i.start Null c))

-- on to an end, with no value, or from an instant on with one
abbrev pub ended : ℕ → Option Since → Covered → Covered
ended end None c = extended end Null c
ended end (Some since) c = extended end since.value (extended (min end since.start) Null c)

-- the stretches of a number's closed intervals over a range, and of its open one
pub record AreOf (h : HistoryModel) (number from end : ℕ) (ss : List Stretch) : Type 0 where
  pub intervals : List Interval
  pub over : AreOver h.closed number from (end - 1) intervals
  pub older : EndBefore h.closed number (open_at h.opened number)
  pub are : ss ≡ (ended end (open_at h.opened number) (filled end intervals (begun from))).stretches
