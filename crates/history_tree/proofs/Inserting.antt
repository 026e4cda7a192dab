-- The states that an insertion goes through.
use Rattle.std.proofs.Common.{◌≡◌, ℕ, ◌<◌, max, List, ◌∷◌, length, Option, Some, refl, sym, ap, ◌∙◌, subst, set}
use Rattle.std.specs.List.Sorted.{IsPermutation}
use Rattle.history_nodes.specs.declared.interval.Interval.{Interval}
use Rattle.history_nodes.specs.declared.node.Node.{Node}
use Rattle.history_nodes.specs.Nodes.{node_at, with_record}
use Rattle.history_tree.specs.declared.places.Place.{Place}
use Rattle.history_tree.specs.Places.{PlaceList, places_of, place_of, HaveSame, OthersHaveSame}
use Rattle.history_tree.specs.Index.{AreIndexed, IsEquipped}
use Rattle.history_tree.specs.Records.{content_of, IsFree}
use Rattle.history_tree.specs.Tree.{NodeTree, IsTree, tree_of}
use Rattle.history_tree.specs.Placement.{IsFirst, takes, tree_with, number_in, IsReady, with_put, IsPlaced}
use Rattle.history_tree.proofs.Trees.{IsGrown, grown_tree, tree_grown}
use Rattle.history_tree.proofs.Keeping.{Keeps, keeps_both, keeps_with, keeps_ready}
use Rattle.history_tree.specs.Shortcuts.{AreShortcuts, HaveSameShortcuts}
use Rattle.history_tree.specs.Earlier.{AreEarlier}
use Rattle.history_tree.proofs.Shortening.{shortcuts_same}
use Rattle.history_tree.proofs.Indexing.{index_kept, index_put}
use Rattle.history_tree.proofs.Climbing.{room_there, shortcuts_kept, shortcuts_put, earlier_kept, earlier_put}
use Rattle.history_tree.proofs.Placing.{readied, CanTake, found_takes, placed_stored, tree_climbed, with_grown}

pub grown_ready : (old ready : NodeTree) → IsTree old → IsReady old ready → IsGrown ready
grown_ready old ready h is = (readied old ready (grown_tree old h) is).grown

-- the node that takes the interval
pub taken_by : (t t1 : NodeTree) (i : Interval) (found : Option ℕ) (n : ℕ) → IsGrown t → IsFirst (takes i.start) t.nodes (Some t.leaf) found → t1 ≡ tree_with found t → n ≡ number_in found t.nodes → CanTake t1 i n
taken_by t t1 i found n g first is_t is_n = subst (λ (k : NodeTree). CanTake k i n) (sym is_t) (subst (λ k. CanTake (tree_with found t) i k) (sym is_n) (found_takes t i found g first))

-- the whole placement
pub is_placed : (old t t1 : NodeTree) (i : Interval) (found : Option ℕ) (n greatest : ℕ) (new : List Node) → IsReady old t → IsFirst (takes i.start) t.nodes (Some t.leaf) found → t1 ≡ tree_with found t → n ≡ number_in found t.nodes
    → new ≡ set t1.nodes n (with_record i (node_at t1.nodes n)) → greatest ≡ max t1.greatest i.end → IsPlaced old i (tree_of new t1.root t1.leaf greatest)
is_placed old t t1 i found n greatest new ready first is_t is_n is_new is_greatest = record {
  ready = t;
  readied = ready;
  found = found;
  first = first;
  is = ap (λ g. tree_of new t1.root t1.leaf g) is_greatest ∙ (ap (λ (ns : List Node). tree_of ns t1.root t1.leaf (max t1.greatest i.end)) is_new ∙ (ap (λ k. with_put i k t1) is_n ∙ ap (with_put i (number_in found t.nodes)) is_t));
}

pub tree_placed : (old new : NodeTree) (i : Interval) → IsTree old → IsFree (content_of old.nodes) i → IsPlaced old i new → IsTree new
tree_placed old new i h free p = tree_grown new (placed_stored old new i (grown_tree old h) free p).grown

-- where memory was taken and nothing else happened
pub equipped_reserved : (t : NodeTree) (nodes : List Node) (rows reserved : List PlaceList) (shortcuts reached numbers known : List ℕ) → nodes ≡ t.nodes → HaveSame rows reserved → HaveSameShortcuts shortcuts reached → AreEarlier t.nodes known → IsEquipped t rows shortcuts numbers → IsEquipped (tree_of nodes t.root t.leaf t.greatest) reserved reached known
equipped_reserved t nodes rows reserved shortcuts reached numbers known is same same' more h =
    subst (λ (ns : List Node). IsEquipped (tree_of ns t.root t.leaf t.greatest) reserved reached known) (sym is) (record { tree = h.tree; indexed = index_kept t.nodes t.nodes rows reserved (λ n. refl) same h.indexed; shortened = shortcuts_same t.nodes shortcuts reached same' h.shortened; earlier = more })

-- what stays on the way to the node that takes the interval
pub kept_until : (old t t1 : NodeTree) (found : Option ℕ) → IsTree old → IsReady old t → t1 ≡ tree_with found t → Keeps old.nodes t1.nodes
kept_until old t t1 found h ready is_t = subst (λ (k : NodeTree). Keeps old.nodes k.nodes) (sym is_t) (keeps_both old.nodes t.nodes (tree_with found t).nodes (keeps_ready old t (grown_tree old h) ready) (keeps_with t found (grown_ready old t h ready)))

-- the index after the whole placement
pub indexed_placed : (old t t1 : NodeTree) (i : Interval) (found : Option ℕ) (n : ℕ) (new : List Node) (place : Place) (rows reserved next : List PlaceList) → IsTree old → IsReady old t → t1 ≡ tree_with found t → n < length t1.nodes → new ≡ set t1.nodes n (with_record i (node_at t1.nodes n))
    → place ≡ place_of i n → HaveSame rows reserved → IsPermutation (place ∷ places_of i.number reserved) (places_of i.number next) → OthersHaveSame i.number reserved next → AreIndexed old.nodes rows → AreIndexed new next
indexed_placed old t t1 i found n new place rows reserved next h ready is_t there is_new is_place same added others x =
    let kept = kept_until old t t1 found h ready is_t in
    subst (λ (ns : List Node). AreIndexed ns next) (sym is_new) (index_put t1.nodes n i reserved next there (subst (λ p. IsPermutation (p ∷ places_of i.number reserved) (places_of i.number next)) is_place added) others (index_kept old.nodes t1.nodes rows reserved kept.records same x))

-- the shortcuts, once the leaf has room
pub shortcuts_ready : (old t : NodeTree) (shortcuts : List ℕ) → IsTree old → IsReady old t → AreShortcuts old.nodes shortcuts → AreShortcuts t.nodes shortcuts
shortcuts_ready old t shortcuts h ready s = let g = grown_tree old h in shortcuts_kept old.nodes t.nodes shortcuts (keeps_ready old t g ready) (tree_climbed old g) s

-- and after the whole placement
pub shortcuts_placed : (t t1 : NodeTree) (i : Interval) (found : Option ℕ) (n : ℕ) (new : List Node) (shortcuts : List ℕ) → IsGrown t → IsFirst (takes i.start) t.nodes (Some t.leaf) found → t1 ≡ tree_with found t → n ≡ number_in found t.nodes
    → new ≡ set t1.nodes n (with_record i (node_at t1.nodes n)) → AreShortcuts t.nodes shortcuts → AreShortcuts new shortcuts
shortcuts_placed t t1 i found n new shortcuts g first is_t is_n is_new s =
    let k = taken_by t t1 i found n g first is_t is_n in
    let kept : Keeps t.nodes t1.nodes = subst (λ (k : NodeTree). Keeps t.nodes k.nodes) (sym is_t) (keeps_with t found g) in
    let g1 : IsGrown t1 = subst IsGrown (sym is_t) (with_grown t found g) in
    subst (λ (ns : List Node). AreShortcuts ns shortcuts) (sym is_new) (shortcuts_put t1.nodes n i shortcuts (room_there (node_at t1.nodes n) k.room) (tree_climbed t1 g1) (shortcuts_kept t.nodes t1.nodes shortcuts kept (tree_climbed t g) s))

-- what is known of earlier nodes
pub earlier_ready : (old t : NodeTree) (numbers : List ℕ) → IsTree old → IsReady old t → AreEarlier old.nodes numbers → AreEarlier t.nodes numbers
earlier_ready old t numbers h ready s = let g = grown_tree old h in earlier_kept old.nodes t.nodes numbers (keeps_ready old t g ready) (tree_climbed old g) s

pub earlier_placed : (t t1 : NodeTree) (i : Interval) (found : Option ℕ) (n : ℕ) (new : List Node) (numbers : List ℕ) → IsGrown t → IsFirst (takes i.start) t.nodes (Some t.leaf) found → t1 ≡ tree_with found t → n ≡ number_in found t.nodes
    → new ≡ set t1.nodes n (with_record i (node_at t1.nodes n)) → AreEarlier t.nodes numbers → AreEarlier new numbers
earlier_placed t t1 i found n new numbers g first is_t is_n is_new s =
    let k = taken_by t t1 i found n g first is_t is_n in
    let kept : Keeps t.nodes t1.nodes = subst (λ (k : NodeTree). Keeps t.nodes k.nodes) (sym is_t) (keeps_with t found g) in
    let g1 : IsGrown t1 = subst IsGrown (sym is_t) (with_grown t found g) in
    subst (λ (ns : List Node). AreEarlier ns numbers) (sym is_new) (earlier_put t1.nodes n i numbers (room_there (node_at t1.nodes n) k.room) (tree_climbed t1 g1) (earlier_kept t.nodes t1.nodes numbers kept (tree_climbed t g) s))
