-- The records of all nodes, and the map that they are.
use Rattle.std.specs.Prelude.{◌≡◌, ℕ, ◌≤◌, List, [], ◌∷◌, ◌++◌, map, Some}
use Rattle.std.specs.List.{AllByRecursion}
use Rattle.std.specs.Ordering.{nat_cmp}
use Rattle.std.specs.Cmp.Lexicographic.{slice_cmp}
use Rattle.std.specs.FinMap.{FinMap, from_entries, get, insert}
use Rattle.trace_types.specs.declared.value.Value.{Value}
use Rattle.history_nodes.specs.declared.interval.Interval.{Interval}
use Rattle.history_nodes.specs.declared.node.Node.{Node}

-- the records of nodes, one node after the other
abbrev pub records_of : List Node → List Interval
records_of [] = []
records_of (node ∷ nodes) = node.intervals ++ records_of nodes

-- the interval holds the instant
pub record IsAt (t : ℕ) (i : Interval) : Type 0 where
  pub begun : i.start ≤ t
  pub lasts : t ≤ i.end

-- where two intervals are of one number, they have no instant in common
abbrev pub IsApart : Interval → Interval → Type 0
IsApart i j = i.number ≡ j.number → (t : ℕ) → IsAt t i → IsAt t j → ⊥

-- no two of these intervals have a number and an instant in common
abbrev pub AreApart : List Interval → Type 0
AreApart [] = Unit {0}
AreApart (i ∷ is) = AllByRecursion (IsApart i) is × AreApart is

-- an interval's number and start
abbrev pub key_of : Interval → List ℕ
key_of i = i.number ∷ i.start ∷ []

-- an interval as an entry of a map: its key, and its end and value
abbrev pub entry_of : Interval → List ℕ × (ℕ × Value)
entry_of i = (key_of i, (i.end, i.value))

-- intervals as a map from number and start to end and value
abbrev pub Content : Type 0
Content = FinMap (slice_cmp nat_cmp) (ℕ × Value)

-- the map of these intervals
abbrev pub map_of : List Interval → Content
map_of is = from_entries (map entry_of is)

-- the content of nodes: the map of their records
abbrev pub content_of : List Node → Content
content_of nodes = map_of (records_of nodes)

-- a content with one more interval
abbrev pub with_interval : Interval → Content → Content
with_interval i content = insert content (key_of i) (i.end, i.value)

-- no interval of the content has the number and an instant in common with this one
abbrev pub IsFree : Content → Interval → Type 0
IsFree content i = (s e t : ℕ) (v : Value) → get content (i.number ∷ s ∷ []) ≡ Some (e, v) → s ≤ t → t ≤ e → IsAt t i → ⊥

-- the content has this interval
abbrev pub IsHeld : Content → Interval → Type 0
IsHeld content i = get content (key_of i) ≡ Some (i.end, i.value)
