-- Closed and open intervals, and what steps change of them.
use Rattle.std.specs.Prelude.{◌≡◌, ◌⊎◌, ℕ, ◌+◌, ◌&&◌, ◌-◌, ◌<◌, ◌≤◌, nat_le, nat_lt, not, Bool, MatchBool, if◌then◌else◌, List, [], ◌∷◌, ◌++◌, slice_set, length, Option, None, Some, slice_get}
use Rattle.std.specs.FinMap.{get, insert}
use Rattle.trace_types.specs.declared.path.Path.{Path as AttributePath}
use Rattle.trace_types.specs.declared.value.Value.{Value}
use Rattle.trace_types.specs.declared.value.Value.TheVariants.{Null}
use Rattle.trace_types.specs.Same.{same_value}
use Rattle.kernel_provider.specs.declared.step.Step.{Step}
use Rattle.kernel_provider.specs.declared.step.Step.TheVariants.{Advance, Add, Change, Finish}
use Rattle.history_nodes.specs.declared.interval.Interval.{Interval}
use Rattle.history_tree.specs.Records.{Content}
use Rattle.history_tree.specs.Tree.{NodeTree}
use Rattle.history_tree.specs.Placement.{IsPlaced}
use Rattle.history_core.specs.Changes.{END}
use Rattle.history_core.specs.declared.closed.Since.{Since}

-- the open interval of a number, if it has one
abbrev pub flat : Option (Option Since) → Option Since
flat None = None
flat (Some o) = o

-- that of a number in the list of all
abbrev pub open_at : List (Option Since) → ℕ → Option Since
open_at opened n = flat (slice_get opened n)

-- whether a change at t closes the interval of the value before: unless it is empty or has no value
abbrev pub closes : ℕ → Since → Bool
closes t since = nat_lt since.start t && not (same_value since.value Null)

-- the closed intervals after a change at t: with that of the value before, up to the instant before t, where it is closed
abbrev pub closing : Content → ℕ → ℕ → Option Since → Content
closing content number t None = content
closing content number t (Some since) = if closes t since then insert content (number ∷ since.start ∷ []) (t - 1, since.value) else content

-- the interval is the one that a change of this number at t closes
pub record IsClosing (number t : ℕ) (since : Since) (i : Interval) : Type 0 where
  pub number_is : i.number ≡ number
  pub start_is : i.start ≡ since.start
  pub end_is : i.end + 1 ≡ t
  pub value_is : i.value ≡ since.value

-- the tree after a change at t: the interval that it closes is placed, or the tree stays
abbrev pub IsTreeAfter : NodeTree → ℕ → ℕ → Option Since → NodeTree → Type 0
IsTreeAfter old number t None new = new ≡ old
IsTreeAfter old number t (Some since) new = MatchBool (closes t since) ((i : Interval) × IsClosing number t since i × IsPlaced old i new) (new ≡ old)

-- the tree after a step, of which only a change touches it
abbrev pub IsTreeAfterStep : NodeTree → List (Option Since) → Step → NodeTree → Type 0
IsTreeAfterStep old opened (Advance t) new = new ≡ old
IsTreeAfterStep old opened (Add path) new = new ≡ old
IsTreeAfterStep old opened (Change t number value) new = IsTreeAfter old number t (open_at opened number) new
IsTreeAfterStep old opened Finish new = new ≡ old

-- ---- values
-- the value of the closed interval of a number that holds an instant; none where there is no such interval
abbrev pub IsHeldValue : Content → ℕ → ℕ → Value → Type 0
IsHeldValue content number t value =
    ((s e : ℕ) × (get content (number ∷ s ∷ []) ≡ Some (e, value)) × (s ≤ t) × (t ≤ e)) ⊎ ((value ≡ Null) × ((s e : ℕ) (v : Value) → get content (number ∷ s ∷ []) ≡ Some (e, v) → s ≤ t → t ≤ e → ⊥))

-- the value at an instant: of the open interval from its start on, and before of a closed one
abbrev pub IsValueSince : Option Since → Content → ℕ → ℕ → Value → Type 0
IsValueSince None content number t value = IsHeldValue content number t value
IsValueSince (Some since) content number t value = MatchBool (nat_le since.start t) (value ≡ since.value) (IsHeldValue content number t value)

-- the same, with the open intervals of all numbers
abbrev pub IsValueIn : Content → List (Option Since) → ℕ → ℕ → Value → Type 0
IsValueIn content opened number t value = IsValueSince (open_at opened number) content number t value

-- ---- what holds of every history
-- the closed intervals of a number end before its open one begins
abbrev pub EndBefore : Content → ℕ → Option Since → Type 0
EndBefore content number o = (s e : ℕ) (v : Value) → get content (number ∷ s ∷ []) ≡ Some (e, v) → (since : Since) × (o ≡ Some since) × (e < since.start)

-- a place for an open interval a path, closed intervals before the open ones, and all of them before the built end
pub record AreKept (paths : List AttributePath) (closed : Content) (opened : List (Option Since)) (built : ℕ) : Type 0 where
  pub places : length opened ≡ length paths
  pub older : (n : ℕ) → EndBefore closed n (open_at opened n)
  pub begun : (n : ℕ) (since : Since) → open_at opened n ≡ Some since → since.start ≤ built
  pub within : built ≤ END

-- what steps change
pub record Parts : Type 0 where
  pub paths : List AttributePath
  pub closed : Content
  pub opened : List (Option Since)
  pub built : ℕ

-- these parts together
abbrev pub parts_of : List AttributePath → Content → List (Option Since) → ℕ → Parts
parts_of paths closed opened built = record { paths = paths; closed = closed; opened = opened; built = built }

-- a step moves the built end, numbers a path, or closes the open interval of a number and opens another
abbrev pub taken : Parts → Step → Parts
taken p (Advance t) = record p { built = t }
taken p (Add path) = record p { paths = p.paths ++ path ∷ []; opened = p.opened ++ None ∷ [] }
taken p (Change t number value) = record p { closed = closing p.closed number t (open_at p.opened number); opened = slice_set p.opened number (Some (record { start = t; value = value })) }
taken p Finish = record p { built = END }
