-- A placement leaves a tree, with one interval more.
use Rattle.std.proofs.Common.{◌≡◌, ◌≢◌, ◌⊎◌, inl, inr, ℕ, ◌+◌, ◌-◌, ◌<◌, ◌≤◌, Bool, true, false, ◌&&◌, nat_lt, nat_le, MatchBool, List, [], ◌∷◌, length, Option, None, Some, refl, sym, ap, ◌∙◌, subst, arith}
use Rattle.std.specs.List.{AllByRecursion}
use Rattle.std.proofs.lemmas.Bool.{cases_eq, ltb-true, ltb-false, leb-true}
use Rattle.history_nodes.specs.declared.interval.Interval.{Interval}
use Rattle.history_nodes.specs.declared.node.Node.{Node}
use Rattle.history_nodes.specs.declared.records.TheConstants.{MAX_RECORDS}
use Rattle.history_nodes.specs.declared.children.TheConstants.{MAX_CHILDREN}
use Rattle.history_nodes.specs.Nodes.{node_at}
use Rattle.history_tree.specs.Records.{records_of, map_of, key_of, content_of, with_interval, AreApart, IsApart, IsFree}
use Rattle.history_tree.specs.Tree.{NodeTree, IsInside, tree_of, levels_of}
use Rattle.history_tree.specs.Placement.{LeadUp, IsFirst, has_room, has_rooms, takes, with_root, with_root_node, tree_with, number_in, all_ended, with_branch, renewed, IsRenewal, IsReady, with_put, IsPlaced}
use Rattle.history_tree.specs.Climbing.{AreClimbed, AreOpen}
use Rattle.history_tree.proofs.Steps.{is_grown_above}
use Rattle.history_tree.proofs.Nesting.{IsNesting}
use Rattle.history_tree.proofs.GrowingAbove.{nesting_grown_above, rooted_grown_above, above_cores}
use Rattle.history_tree.proofs.Climbs.{lead_begins, lead_to_level}
use Rattle.history_tree.proofs.Growing.{climbed, all_end, HasGrown, branch, HasBranch, lead_open, lead_to_open, lead_to_root}
use Rattle.history_tree.proofs.Stored.{records_ended, records_branch, records_root, records_put}
use Rattle.history_tree.proofs.Contents.{map_between, free_apart, apart_keys}
use Rattle.history_tree.proofs.Filling.{each_ended, each_branch, each_root, filled_at}
use Rattle.history_tree.proofs.Trees.{IsGrown}
use Rattle.history_tree.proofs.Putting.{put_grown}

-- ---- tests
and_left : (a b : Bool) → (a && b) ≡ true → a ≡ true
and_left true b h = refl
and_left false b h = h

and_right : (a b : Bool) → (a && b) ≡ true → b ≡ true
and_right true b h = h
and_right false b h = absurd (cc)

pub room_left : (x : Node) → has_room x ≡ true → length x.intervals < MAX_RECORDS
room_left x h = ltb-true (length x.intervals) MAX_RECORDS h

pub child_room_left : (x : Node) → has_rooms x ≡ true → length x.children < MAX_CHILDREN
child_room_left x h = ltb-true (length x.children) MAX_CHILDREN (and_right (has_room x) (nat_lt (length x.children) MAX_CHILDREN) h)

pub takes_start : (start : ℕ) (x : Node) → takes start x ≡ true → x.start ≤ start
takes_start start x h = leb-true x.start start (and_left (nat_le x.start start) (has_room x) h)

pub takes_room : (start : ℕ) (x : Node) → takes start x ≡ true → length x.intervals < MAX_RECORDS
takes_room start x h = room_left x (and_right (nat_le x.start start) (has_room x) h)

-- a full node began by the greatest end
full_begun : (x : Node) (greatest : ℕ) (is : List Interval) → MAX_RECORDS ≤ length is → AllByRecursion (IsInside x) is → AllByRecursion (λ i. i.end ≤ greatest) is → x.start ≤ greatest
full_begun x greatest [] le h g = absurd (omega arith)
full_begun x greatest (i ∷ is) le h g = omega (arith, h.0.begins, i.ordered, g.0)

-- ---- a new root
pub root_grown : (t : NodeTree) → IsGrown t → IsGrown (with_root t)
root_grown t g =
    let step = is_grown_above t.nodes t.root g.rooted.there in
    record {
      filled = record { each = each_root t.greatest t.root t.nodes g.filled.each; apart = subst AreApart (sym (records_root t.root t.nodes)) g.filled.apart };
      nesting = nesting_grown_above t.nodes (with_root_node t.root t.nodes) t.root t.leaf t.greatest step g.nesting g.rooted;
      rooted = rooted_grown_above t.nodes (with_root_node t.root t.nodes) t.root step g.rooted;
      leaf_level = (above_cores t.nodes (with_root_node t.root t.nodes) t.root step t.leaf g.nesting.newest_there).level ∙ g.leaf_level;
      followed = g.followed;
    }

-- ---- a new branch
renewed_grown : (t : NodeTree) (ns : List ℕ) (top : ℕ) → IsGrown t → (node_at t.nodes t.leaf).start ≤ t.greatest → LeadUp t.nodes (Some t.leaf) ns (Some top) → length (node_at t.nodes top).children < MAX_CHILDREN → 0 < (node_at t.nodes top).level → IsGrown (renewed ns top t)
renewed_grown t ns top g begun up room high = by (branch (node_at t.nodes top).level ended top t.root t.greatest g.followed (done.stays.level top) done.nesting done.rooted)
  where
    ended : List Node
    ended = all_ended t.greatest ns t.nodes

    done : HasGrown t.nodes ended top t.root t.greatest
    done = all_end ns t.nodes t.leaf top t.root t.greatest g.followed up g.nesting g.rooted begun

    new : List Node
    new = with_branch top (node_at t.nodes top).level (t.greatest + 1) ended

    by : (leaf : ℕ) × HasBranch ended new top leaf (node_at t.nodes top).level t.root t.greatest → IsGrown (renewed ns top t)
    by (leaf, b) =
        let is : leaf ≡ length new - 1 = omega (arith, b.newest high) in
        record {
          filled = record {
            each = each_branch t.greatest (node_at t.nodes top).level top (t.greatest + 1) ended done.nesting.newest_there (omega (arith, ap length (done.stays.children top), room)) (each_ended t.greatest ns t.nodes g.filled.each);
            apart = subst AreApart (sym (records_branch (node_at t.nodes top).level top (t.greatest + 1) ended ∙ records_ended t.greatest ns t.nodes)) g.filled.apart;
          };
          nesting = subst (λ k. IsNesting new k t.greatest) is b.nesting;
          rooted = b.rooted;
          leaf_level = subst (λ k. (node_at new k).level ≡ 0) is b.leaf_level;
          followed = g.followed;
        }

-- ---- a leaf with room
pub record IsReadied (old new : NodeTree) : Type 0 where
  pub grown : IsGrown new
  pub records : records_of new.nodes ≡ records_of old.nodes
  pub greatest : new.greatest ≡ old.greatest

renewed_records : (t : NodeTree) (ns : List ℕ) (top : ℕ) → records_of (renewed ns top t).nodes ≡ records_of t.nodes
renewed_records t ns top = records_branch (node_at t.nodes top).level top (t.greatest + 1) (all_ended t.greatest ns t.nodes) ∙ records_ended t.greatest ns t.nodes

-- a new branch can come below a node
pub record CanRenew (t : NodeTree) (top levels : ℕ) : Type 0 where
  pub grown : IsGrown t
  pub begun : (node_at t.nodes t.leaf).start ≤ t.greatest
  pub numbers : List ℕ
  pub up : LeadUp t.nodes (Some t.leaf) numbers (Some top)
  pub room : length (node_at t.nodes top).children < MAX_CHILDREN
  pub high : 0 < (node_at t.nodes top).level
  pub low : (node_at t.nodes top).level ≤ levels

pub can_renew : (t : NodeTree) (found : Option ℕ) → IsGrown t → has_room (node_at t.nodes t.leaf) ≡ false → IsFirst has_rooms t.nodes (node_at t.nodes t.leaf).parent found → CanRenew (tree_with found t) (number_in found t.nodes) (levels_of t)
can_renew t found g full first = by found first
  where
    begun : (node_at t.nodes t.leaf).start ≤ t.greatest
    begun = let f = filled_at t.greatest t.nodes g.filled.each t.leaf in full_begun (node_at t.nodes t.leaf) t.greatest (node_at t.nodes t.leaf).intervals (ltb-false (length (node_at t.nodes t.leaf).intervals) MAX_RECORDS full) f.inside f.ends

    high : (ns : List ℕ) (n : ℕ) → LeadUp t.nodes (node_at t.nodes t.leaf).parent ns (Some n) → (p : ℕ) × ((node_at t.nodes t.leaf).parent ≡ Some p) → 0 < (node_at t.nodes n).level
    high ns n up (p, e) =
        let c = climbed t.nodes t.leaf t.greatest t.root g.nesting g.rooted in
        let a = c.parents t.leaf p g.nesting.newest_there e in
        omega (arith, a.level, lead_to_level ns t.nodes p n c a.there (subst (λ o. LeadUp t.nodes o ns (Some n)) e up))

    low : (n : ℕ) → n < length t.nodes → (n ≡ t.root) ⊎ (n ≡ t.root → ⊥) → (node_at t.nodes n).level ≤ levels_of t
    low n there (inl is) = let l : (node_at t.nodes n).level ≡ (node_at t.nodes t.root).level = ap (λ k. (node_at t.nodes k).level) is in omega (arith, l)
    low n there (inr ne) = omega (arith, g.rooted.highest n there ne)

    by : (found : Option ℕ) → IsFirst has_rooms t.nodes (node_at t.nodes t.leaf).parent found → CanRenew (tree_with found t) (number_in found t.nodes) (levels_of t)
    by None first =
        let step = is_grown_above t.nodes t.root g.rooted.there in
        let core = above_cores t.nodes (with_root_node t.root t.nodes) t.root step t.leaf g.nesting.newest_there in
        let one : length (node_at (with_root_node t.root t.nodes) (length t.nodes)).children ≡ 1 = ap (λ (x : Node). length x.children) step.above in
        let level : (node_at (with_root_node t.root t.nodes) (length t.nodes)).level ≡ levels_of t = ap (λ (x : Node). x.level) step.above in
        record {
          grown = root_grown t g;
          begun = omega (arith, core.start, begun);
          numbers = t.leaf ∷ first.passed;
          up = lead_to_root (t.leaf ∷ first.passed) t.nodes (with_root_node t.root t.nodes) t.root t.leaf t.greatest t.leaf step g.nesting g.rooted g.nesting.newest_there (refl, first.up);
          room = omega (arith, one);
          high = omega (arith, level);
          low = omega (arith, level);
        }
    by (Some n) first =
        let up : LeadUp t.nodes (Some t.leaf) (t.leaf ∷ first.passed) (Some n) = (refl, first.up) in
        let o = lead_to_open (t.leaf ∷ first.passed) t.nodes t.leaf t.greatest t.leaf n g.followed g.nesting g.leaf_level g.nesting.newest_there g.nesting.newest_open up in
        record {
          grown = g;
          begun = begun;
          numbers = t.leaf ∷ first.passed;
          up = up;
          room = child_room_left (node_at t.nodes n) (first.pass n refl);
          high = high first.passed n first.up (lead_begins t.nodes (node_at t.nodes t.leaf).parent first.passed n first.up);
          low = low n o.0 (cases_eq n t.root);
        }

renewal_readied : (old new : NodeTree) (found : Option ℕ) (ns : List ℕ) → IsGrown old → has_room (node_at old.nodes old.leaf) ≡ false → IsFirst has_rooms old.nodes (node_at old.nodes old.leaf).parent found
    → LeadUp (tree_with found old).nodes (Some old.leaf) ns (Some (number_in found old.nodes)) → new ≡ renewed ns (number_in found old.nodes) (tree_with found old) → IsReadied old new
renewal_readied old new None ns g full first up is =
    let can = can_renew old None g full first in
    subst (λ k. IsReadied old k) (sym is) (record {
      grown = renewed_grown (with_root old) ns (length old.nodes) can.grown can.begun up can.room can.high;
      records = renewed_records (with_root old) ns (length old.nodes) ∙ records_root old.root old.nodes;
      greatest = refl;
    })
renewal_readied old new (Some n) ns g full first up is =
    let can = can_renew old (Some n) g full first in
    subst (λ k. IsReadied old k) (sym is) (record {
      grown = renewed_grown old ns n can.grown can.begun up can.room can.high;
      records = renewed_records old ns n;
      greatest = refl;
    })

pub readied : (old new : NodeTree) → IsGrown old → IsReady old new → IsReadied old new
readied old new g h = by (has_room (node_at old.nodes old.leaf)) refl h
  where
    by : (b : Bool) → has_room (node_at old.nodes old.leaf) ≡ b → MatchBool b (new ≡ old) (IsRenewal old new) → IsReadied old new
    by true e is = subst (λ k. IsReadied old k) (sym is) (record { grown = g; records = refl; greatest = refl })
    by false e r = renewal_readied old new r.found r.numbers g e r.first r.up r.is

-- ---- a placement
pub record IsStored (old : NodeTree) (i : Interval) (new : NodeTree) : Type 0 where
  pub grown : IsGrown new
  pub content : content_of new.nodes ≡ with_interval i (content_of old.nodes)

-- where a record goes, and what node it is
pub record CanTake (t : NodeTree) (i : Interval) (n : ℕ) : Type 0 where
  pub there : n < length t.nodes
  pub unended : (node_at t.nodes n).end ≡ None
  pub begun : (node_at t.nodes n).start ≤ i.start
  pub room : length (node_at t.nodes n).intervals < MAX_RECORDS

pub found_takes : (t : NodeTree) (i : Interval) (found : Option ℕ) → IsGrown t → IsFirst (takes i.start) t.nodes (Some t.leaf) found → CanTake (tree_with found t) i (number_in found t.nodes)
found_takes t i None g first =
    let step = is_grown_above t.nodes t.root g.rooted.there in
    record {
      there = omega (arith, step.len);
      unended = ap (λ (x : Node). x.end) step.above;
      begun = omega (arith, ap (λ (x : Node). x.start) step.above);
      room = omega (arith, ap (λ (x : Node). length x.intervals) step.above);
    }
found_takes t i (Some n) g first =
    let o = lead_to_open first.passed t.nodes t.leaf t.greatest t.leaf n g.followed g.nesting g.leaf_level g.nesting.newest_there g.nesting.newest_open first.up in
    record { there = o.0; unended = o.1; begun = takes_start i.start (node_at t.nodes n) (first.pass n refl); room = takes_room i.start (node_at t.nodes n) (first.pass n refl) }

pub with_grown : (t : NodeTree) (found : Option ℕ) → IsGrown t → IsGrown (tree_with found t)
with_grown t None g = root_grown t g
with_grown t (Some n) g = g

with_records : (t : NodeTree) (found : Option ℕ) → records_of (tree_with found t).nodes ≡ records_of t.nodes
with_records t None = records_root t.root t.nodes
with_records t (Some n) = refl

pub placed_stored : (old new : NodeTree) (i : Interval) → IsGrown old → IsFree (content_of old.nodes) i → IsPlaced old i new → IsStored old i new
placed_stored old new i g free p =
    let r = readied old p.ready g p.readied in
    let t = tree_with p.found p.ready in
    let n = number_in p.found p.ready.nodes in
    let take = found_takes p.ready i p.found r.grown p.first in
    let same : records_of t.nodes ≡ records_of old.nodes = with_records p.ready p.found ∙ r.records in
    let apart : AllByRecursion (IsApart i) (records_of t.nodes) = subst (λ is. AllByRecursion (IsApart i) is) (sym same) (free_apart (records_of old.nodes) i g.filled.apart free) in
    subst (λ k. IsStored old i k) (sym p.is) (record {
      grown = put_grown t n i (with_grown p.ready p.found r.grown) take.there take.unended take.begun take.room apart;
      content = map_between (records_of t.nodes) (records_of (with_put i n t).nodes) i (records_put t.nodes n i take.there) (keys (records_of t.nodes) apart) ∙ ap (λ is. with_interval i (map_of is)) same;
    })
  where
    keys : (is : List Interval) → AllByRecursion (IsApart i) is → AllByRecursion (λ f. key_of f ≢ key_of i) is
    keys [] h = tt
    keys (j ∷ js) h = ((λ e. apart_keys i j h.0 (sym e)), keys js h.1)

-- ---- what the steps of a new branch stand on
pub open_chain : (t : NodeTree) (top levels : ℕ) → (c : CanRenew t top levels) → AreOpen t.nodes c.numbers
open_chain t top levels c = lead_open c.numbers t.nodes t.leaf t.root t.greatest t.leaf (Some top) c.grown.followed c.grown.nesting c.grown.rooted c.grown.leaf_level c.grown.nesting.newest_there c.grown.nesting.newest_open c.up

pub tree_climbed : (t : NodeTree) → IsGrown t → AreClimbed t.nodes
tree_climbed t g = climbed t.nodes t.leaf t.greatest t.root g.nesting g.rooted

pub all_closed : (t : NodeTree) (top levels : ℕ) (ns : List ℕ) → CanRenew t top levels → LeadUp t.nodes (Some t.leaf) ns (Some top) → HasGrown t.nodes (all_ended t.greatest ns t.nodes) top t.root t.greatest
all_closed t top levels ns c up = all_end ns t.nodes t.leaf top t.root t.greatest c.grown.followed up c.grown.nesting c.grown.rooted c.begun

pub renewed_is : (t : NodeTree) (ns : List ℕ) (top leaf : ℕ) (closed new : List Node) → closed ≡ all_ended t.greatest ns t.nodes → (node_at closed top).level ≡ (node_at t.nodes top).level → new ≡ with_branch top (node_at closed top).level (t.greatest + 1) closed → leaf ≡ length new - 1 → tree_of new t.root leaf t.greatest ≡ renewed ns top t
renewed_is t ns top leaf closed new is_closed level is_new is_leaf =
    let whole : new ≡ with_branch top (node_at t.nodes top).level (t.greatest + 1) (all_ended t.greatest ns t.nodes) = is_new ∙ (ap (λ l. with_branch top l (t.greatest + 1) closed) level ∙ ap (with_branch top (node_at t.nodes top).level (t.greatest + 1)) is_closed) in
    ap (λ l. tree_of new t.root l t.greatest) is_leaf ∙ ap (λ (ns : List Node). tree_of ns t.root (length ns - 1) t.greatest) whole
