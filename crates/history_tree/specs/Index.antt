-- The index of a tree: where each of its intervals is (this project's own).
use Rattle.std.specs.Prelude.{◌≡◌, ℕ, List, Contains}
use Rattle.history_nodes.specs.declared.interval.Interval.{Interval}
use Rattle.history_nodes.specs.declared.node.Node.{Node}
use Rattle.history_nodes.specs.Nodes.{node_at}
use Rattle.history_tree.specs.declared.places.Place.{Place}
use Rattle.history_tree.specs.Places.{PlaceList, places_of, place_of}
use Rattle.history_tree.specs.Tree.{NodeTree, IsTree}
use Rattle.history_tree.specs.Shortcuts.{AreShortcuts}
use Rattle.history_tree.specs.Earlier.{AreEarlier}

-- the node of this place holds an interval of this number that begins there
pub record IsHeldAt (nodes : List Node) (number : ℕ) (place : Place) : Type 0 where
  pub interval : Interval
  pub member : Contains (node_at nodes place.node).intervals interval
  pub of : interval.number ≡ number
  pub start : interval.start ≡ place.start

-- the places of each number are those of the intervals that nodes hold
pub record AreIndexed (nodes : List Node) (rows : List PlaceList) : Type 0 where
  pub held : (number : ℕ) (place : Place) → Contains (places_of number rows) place → IsHeldAt nodes number place
  pub listed : (n : ℕ) (i : Interval) → Contains (node_at nodes n).intervals i → Contains (places_of i.number rows) (place_of i n)

-- a tree with the index of its intervals, with shortcuts past its full nodes, and with ways to earlier nodes
pub record IsEquipped (t : NodeTree) (rows : List PlaceList) (shortcuts numbers : List ℕ) : Type 0 where
  pub tree : IsTree t
  pub indexed : AreIndexed t.nodes rows
  pub shortened : AreShortcuts t.nodes shortcuts
  pub earlier : AreEarlier t.nodes numbers
