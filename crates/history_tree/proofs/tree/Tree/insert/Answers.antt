use Rattle.std.proofs.Common.{rules, ◌<◌, length, refl, subst}
use Rattle.history_tree.specs.Tree.{tree_of}
use Rattle.history_tree.specs.Placement.{IsReady}
use Rattle.history_tree.proofs.Climbs.{same_some}
use Rattle.history_tree.proofs.Placing.{tree_climbed, placed_stored}
use Rattle.history_tree.proofs.Trees.{grown_tree}
use Rattle.history_tree.proofs.Shortening.{shortcuts_same}
use Rattle.history_tree.proofs.Inserting.{grown_ready, taken_by, is_placed, tree_placed, equipped_reserved, indexed_placed, shortcuts_ready, shortcuts_placed, earlier_ready, earlier_placed}
use Rattle.history_tree.proofs.tree.Tree.insert.Goals as goal

pub first_that_takes-found-requires : goal.first_that_takes-found-requires
first_that_takes-found-requires c =
    let old = tree_of c.self.inside.nodes.nodes c.self.inside.root c.self.inside.leaf c.self.inside.greatest in
    let t = tree_of c.make_ready-leaf.new.nodes.nodes c.make_ready-leaf.new.root c.make_ready-leaf.result c.self.inside.greatest in
    let ready : IsReady old t = rw c.in_ok-reserve.ensures.nodes at c.make_ready-leaf.ensures.ready in
    let grown = grown_ready old t c.self.invariant.tree ready in
    record {
      climbed = tree_climbed t grown;
      from = λ n e. subst (λ k. k < length t.nodes) (same_some c.make_ready-leaf.result n e) grown.nesting.newest_there;
      shortcuts = shortcuts_ready old t c.make_ready-leaf.new.shortcuts c.self.invariant.tree ready (rw c.in_ok-reserve.ensures.nodes at c.make_ready-leaf.ensures.shortcuts);
      earlier = earlier_ready old t c.reach-2.new.self c.self.invariant.tree ready (rw c.in_ok-reserve.ensures.nodes at c.reach-2.ensures);
    }

pub found_or_root-number-requires : goal.found_or_root-number-requires
found_or_root-number-requires c =
    let old = tree_of c.self.inside.nodes.nodes c.self.inside.root c.self.inside.leaf c.self.inside.greatest in
    let t = tree_of c.make_ready-leaf.new.nodes.nodes c.make_ready-leaf.new.root c.make_ready-leaf.result c.self.inside.greatest in
    let ready : IsReady old t = rw c.in_ok-reserve.ensures.nodes at c.make_ready-leaf.ensures.ready in
    let grown = grown_ready old t c.self.invariant.tree ready in
    record { root = grown.rooted.there; alone = grown.rooted.none; few = grown.rooted.few_levels; spare = search rules }

pub put-requires : goal.put-requires
put-requires c =
    let old = tree_of c.self.inside.nodes.nodes c.self.inside.root c.self.inside.leaf c.self.inside.greatest in
    let t = tree_of c.make_ready-leaf.new.nodes.nodes c.make_ready-leaf.new.root c.make_ready-leaf.result c.self.inside.greatest in
    let t1 = tree_of c.found_or_root-number.new.nodes.nodes c.found_or_root-number.new.root c.make_ready-leaf.result c.self.inside.greatest in
    let ready : IsReady old t = rw c.in_ok-reserve.ensures.nodes at c.make_ready-leaf.ensures.ready in
    let takes = taken_by t t1 c.args.interval c.first_that_takes-found.result c.found_or_root-number.result (grown_ready old t c.self.invariant.tree ready) c.first_that_takes-found.ensures.first
    (c.found_or_root-number.ensures.tree c.make_ready-leaf.result c.self.inside.greatest) c.found_or_root-number.ensures.number in
    record { number = takes.there; room = takes.room }

pub invariant_of-self-in_err-reserve-2 : goal.invariant_of-self-in_err-reserve-2
invariant_of-self-in_err-reserve-2 c =
    let old = tree_of c.self.inside.nodes.nodes c.self.inside.root c.self.inside.leaf c.self.inside.greatest in
    equipped_reserved old c.reserve.new.self.nodes c.self.inside.places c.reserve-2.new.self c.self.inside.shortcuts c.self.inside.shortcuts c.self.inside.earlier c.self.inside.earlier c.in_ok-reserve.ensures.nodes c.reserve-2.ensures.same (record { each = λ n. refl }) c.self.invariant.earlier c.self.invariant

pub invariant_of-self-in_err-reach : goal.invariant_of-self-in_err-reach
invariant_of-self-in_err-reach c =
    let old = tree_of c.self.inside.nodes.nodes c.self.inside.root c.self.inside.leaf c.self.inside.greatest in
    equipped_reserved old c.reserve.new.self.nodes c.self.inside.places c.reserve-2.new.self c.self.inside.shortcuts c.reach.new.self c.self.inside.earlier c.self.inside.earlier c.in_ok-reserve.ensures.nodes c.reserve-2.ensures.same c.reach.ensures c.self.invariant.earlier c.self.invariant

pub reach-requires-2-clause-climbed : goal.reach-requires-2-clause-climbed
reach-requires-2-clause-climbed c = rw c.in_ok-reserve.ensures.nodes (tree_climbed (tree_of c.self.inside.nodes.nodes c.self.inside.root c.self.inside.leaf c.self.inside.greatest) (grown_tree _ c.self.invariant.tree))

pub invariant_of-self-in_err-reach-2 : goal.invariant_of-self-in_err-reach-2
invariant_of-self-in_err-reach-2 c =
    let old = tree_of c.self.inside.nodes.nodes c.self.inside.root c.self.inside.leaf c.self.inside.greatest in
    equipped_reserved old c.reserve.new.self.nodes c.self.inside.places c.reserve-2.new.self c.self.inside.shortcuts c.reach.new.self c.self.inside.earlier c.reach-2.new.self c.in_ok-reserve.ensures.nodes c.reserve-2.ensures.same c.reach.ensures (rw c.in_ok-reserve.ensures.nodes at c.reach-2.ensures) c.self.invariant

pub make_ready-leaf-requires-clause-shortcuts : goal.make_ready-leaf-requires-clause-shortcuts
make_ready-leaf-requires-clause-shortcuts c = rw c.in_ok-reserve.ensures.nodes (shortcuts_same c.self.inside.nodes.nodes c.self.inside.shortcuts c.reach.new.self c.reach.ensures c.self.invariant.shortened)

pub invariant_of-self-2 : goal.invariant_of-self-2
invariant_of-self-2 c =
    let old = tree_of c.self.inside.nodes.nodes c.self.inside.root c.self.inside.leaf c.self.inside.greatest in
    let t = tree_of c.make_ready-leaf.new.nodes.nodes c.make_ready-leaf.new.root c.make_ready-leaf.result c.self.inside.greatest in
    let t1 = tree_of c.found_or_root-number.new.nodes.nodes c.found_or_root-number.new.root c.make_ready-leaf.result c.self.inside.greatest in
    let new = tree_of c.put.new.self.nodes c.found_or_root-number.new.root c.make_ready-leaf.result c.max-end.result in
    let ready : IsReady old t = rw c.in_ok-reserve.ensures.nodes at c.make_ready-leaf.ensures.ready in
    let is_t = c.found_or_root-number.ensures.tree c.make_ready-leaf.result c.self.inside.greatest in
    let takes = taken_by t t1 c.args.interval c.first_that_takes-found.result c.found_or_root-number.result (grown_ready old t c.self.invariant.tree ready) c.first_that_takes-found.ensures.first is_t c.found_or_root-number.ensures.number in
    let placed = is_placed old t t1 c.args.interval c.first_that_takes-found.result c.found_or_root-number.result c.max-end.result c.put.new.self.nodes ready c.first_that_takes-found.ensures.first is_t c.found_or_root-number.ensures.number c.put.ensures.nodes c.max-end.ensures in
    record {
      tree = tree_placed old new c.args.interval c.self.invariant.tree (rw (← c.self.view_is) at c.requires.free) placed;
      indexed = indexed_placed old t t1 c.args.interval c.first_that_takes-found.result c.found_or_root-number.result c.put.new.self.nodes _ c.self.inside.places c.reserve-2.new.self c.put-2.new.self c.self.invariant.tree ready is_t takes.there c.put.ensures.nodes
          refl c.reserve-2.ensures.same c.put-2.ensures.added c.put-2.ensures.others c.self.invariant.indexed;
      shortened = shortcuts_placed t t1 c.args.interval c.first_that_takes-found.result c.found_or_root-number.result c.put.new.self.nodes c.first_that_takes-found.new.shortcuts (grown_ready old t c.self.invariant.tree ready) c.first_that_takes-found.ensures.first is_t
          c.found_or_root-number.ensures.number c.put.ensures.nodes c.first_that_takes-found.ensures.shortcuts;
      earlier = earlier_placed t t1 c.args.interval c.first_that_takes-found.result c.found_or_root-number.result c.put.new.self.nodes c.reach-2.new.self (grown_ready old t c.self.invariant.tree ready) c.first_that_takes-found.ensures.first is_t
          c.found_or_root-number.ensures.number c.put.ensures.nodes (earlier_ready old t c.reach-2.new.self c.self.invariant.tree ready (rw c.in_ok-reserve.ensures.nodes at c.reach-2.ensures));
    }

pub returns-clause-content : goal.returns-clause-content
returns-clause-content c =
    let old = tree_of c.self.inside.nodes.nodes c.self.inside.root c.self.inside.leaf c.self.inside.greatest in
    let t = tree_of c.make_ready-leaf.new.nodes.nodes c.make_ready-leaf.new.root c.make_ready-leaf.result c.self.inside.greatest in
    let t1 = tree_of c.found_or_root-number.new.nodes.nodes c.found_or_root-number.new.root c.make_ready-leaf.result c.self.inside.greatest in
    let new = tree_of c.put.new.self.nodes c.found_or_root-number.new.root c.make_ready-leaf.result c.max-end.result in
    let ready : IsReady old t = rw c.in_ok-reserve.ensures.nodes at c.make_ready-leaf.ensures.ready in
    let placed = is_placed old t t1 c.args.interval c.first_that_takes-found.result c.found_or_root-number.result c.max-end.result c.put.new.self.nodes ready c.first_that_takes-found.ensures.first
    (c.found_or_root-number.ensures.tree c.make_ready-leaf.result c.self.inside.greatest) c.found_or_root-number.ensures.number c.put.ensures.nodes c.max-end.ensures in
    rw (← c.self.view_is) (placed_stored old new c.args.interval (grown_tree old c.self.invariant.tree) (rw (← c.self.view_is) at c.requires.free) placed).content

pub returns-clause-placed : goal.returns-clause-placed
returns-clause-placed c =
    let old = tree_of c.self.inside.nodes.nodes c.self.inside.root c.self.inside.leaf c.self.inside.greatest in
    let t = tree_of c.make_ready-leaf.new.nodes.nodes c.make_ready-leaf.new.root c.make_ready-leaf.result c.self.inside.greatest in
    let t1 = tree_of c.found_or_root-number.new.nodes.nodes c.found_or_root-number.new.root c.make_ready-leaf.result c.self.inside.greatest in
    let ready : IsReady old t = rw c.in_ok-reserve.ensures.nodes at c.make_ready-leaf.ensures.ready in
    let placed = is_placed old t t1 c.args.interval c.first_that_takes-found.result c.found_or_root-number.result c.max-end.result c.put.new.self.nodes ready c.first_that_takes-found.ensures.first
    (c.found_or_root-number.ensures.tree c.make_ready-leaf.result c.self.inside.greatest) c.found_or_root-number.ensures.number c.put.ensures.nodes c.max-end.ensures in
    rw (← c.self.view_is) placed
