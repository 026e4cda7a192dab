-- What is stored over a range of instants (after the two-dimensional queries of Trace Compass's state system).
use Rattle.std.specs.Prelude.{◌≡◌, ℕ, ◌+◌, ◌<◌, ◌≤◌, ◌==◌, ◌&&◌, nat_le, Bool, if◌then◌else◌, List, [], ◌∷◌, length, filter, Contains, Some}
use Rattle.std.specs.FinMap.{get}
use Rattle.trace_types.specs.declared.value.Value.{Value}
use Rattle.history_nodes.specs.declared.interval.Interval.{Interval}
use Rattle.history_nodes.specs.declared.node.Node.{Node}
use Rattle.history_nodes.specs.Nodes.{node_at, end_of}
use Rattle.history_tree.specs.declared.over.Sought.{Sought}
use Rattle.history_tree.specs.declared.places.Place.{Place}
use Rattle.history_tree.specs.Records.{Content, IsHeld}

-- the interval has an instant in common with a range, whose ends both belong to it
pub record IsMet (from to : ℕ) (i : Interval) : Type 0 where
  pub begins : i.start ≤ to
  pub lasts : from ≤ i.end

-- none begins before this instant, and each begins after the end of the one before it
abbrev pub FollowFrom : ℕ → List Interval → Type 0
FollowFrom t [] = Unit {0}
FollowFrom t (i ∷ is) = (t ≤ i.start) × FollowFrom (i.end + 1) is

-- among these intervals is one that begins at this instant
pub record HasStart (is : List Interval) (start : ℕ) : Type 0 where
  pub interval : Interval
  pub listed : Contains is interval
  pub begins : interval.start ≡ start

-- the intervals of a number in a content that meet a range: each once, in order, and no others
pub record AreOver (content : Content) (number from to : ℕ) (is : List Interval) : Type 0 where
  pub held : (i : Interval) → Contains is i → IsHeld content i
  pub of : (i : Interval) → Contains is i → i.number ≡ number
  pub met : (i : Interval) → Contains is i → IsMet from to i
  pub whole : (s e : ℕ) (v : Value) → get content (number ∷ s ∷ []) ≡ Some (e, v) → s ≤ to → from ≤ e → HasStart is s
  pub order : FollowFrom 0 is

-- ---- nodes
-- the node's range has an instant in common with a range
abbrev pub meets : ℕ → ℕ → Node → Bool
meets from to node = nat_le node.start to && nat_le from (end_of node)

-- how many of these nodes have such a range
abbrev pub count_met : ℕ → ℕ → List Node → ℕ
count_met from to nodes = length (filter (meets from to) nodes)

-- ---- what is looked for
-- the interval is of the number and meets the range
abbrev pub is_sought : Sought → Interval → Bool
is_sought sought i = (i.number == sought.number) && (nat_le i.start sought.to && nat_le sought.from i.end)

-- the node's range meets the range
abbrev pub may_hold : Sought → List Node → ℕ → Bool
may_hold sought nodes n = meets sought.from sought.to (node_at nodes n)

-- what is looked for in a node: nothing where its range doesn't meet the range
abbrev pub sought_in : Sought → List Node → ℕ → List Interval
sought_in sought nodes n = if may_hold sought nodes n then filter (is_sought sought) (node_at nodes n).intervals else []

-- ---- places
-- the number of a place's node
abbrev pub node_of : Place → ℕ
node_of place = place.node

-- a place of these begins by an instant, and no earlier than this start
pub record HasLater (places : List Place) (start from : ℕ) : Type 0 where
  pub place : Place
  pub listed : Contains places place
  pub later : start ≤ place.start
  pub begun : place.start ≤ from

-- of a number's places those whose intervals may meet a range: that which is the last to begin by the range's first instant, and all that begin in the range after it
pub record MayMeet (places : List Place) (from to : ℕ) (over : List Place) : Type 0 where
  pub listed : (p : Place) → Contains over p → Contains places p
  pub inside : (p : Place) → Contains places p → from < p.start → p.start ≤ to → Contains over p
  pub first : (p : Place) → Contains places p → p.start ≤ from → HasLater over p.start from

-- ---- order
-- where an interval begins
abbrev pub start_in : Interval → ℕ
start_in i = i.start
