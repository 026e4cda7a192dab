use Rattle.std.proofs.Common.{sym, ap, ◌∙◌, arith}
use Rattle.history_nodes.specs.declared.node.Shape.{Shape}
use Rattle.history_tree.specs.Tree.{tree_of}
use Rattle.history_tree.proofs.Trees.{grown_tree}
use Rattle.history_tree.proofs.Placing.{tree_climbed, open_chain}
use Rattle.history_tree.proofs.Renewing.{above_leaf, can_at, after_close, is_renewal}
use Rattle.history_tree.proofs.room.renew.Goals as goal

pub first_with_rooms-found-requires : goal.first_with_rooms-found-requires
first_with_rooms-found-requires c =
    let t = tree_of c.args.nodes.now.nodes c.args.root.now c.args.leaf c.args.end in
    record {
      climbed = tree_climbed t (grown_tree t c.requires.tree);
      from = λ n e. above_leaf t c.requires.tree n (sym (ap (λ (s : Shape). s.parent) c.shape.ensures) ∙ e);
      shortcuts = c.requires.shortcuts;
    }

pub close_below-requires : goal.close_below-requires
close_below-requires c =
    let t = tree_of c.args.nodes.now.nodes c.args.root.now c.args.leaf c.args.end in
    let t1 = tree_of c.found_or_root-top.new.nodes.nodes c.found_or_root-top.new.root c.args.leaf c.args.end in
    let up = ap (λ (s : Shape). s.parent) c.shape.ensures in
    let is_t = c.found_or_root-top.ensures.tree c.args.leaf c.args.end in
    let can = can_at t t1 c.first_with_rooms-found.result c.shape.result.parent c.found_or_root-top.result c.requires.tree c.requires.full c.first_with_rooms-found.ensures.first up is_t c.found_or_root-top.ensures.number in
    record { climbed = tree_climbed t1 can.grown; up = (can.numbers, can.up, open_chain t1 c.found_or_root-top.result _ can) }

pub open_below-requires : goal.open_below-requires
open_below-requires c =
    let t = tree_of c.args.nodes.now.nodes c.args.root.now c.args.leaf c.args.end in
    let t1 = tree_of c.found_or_root-top.new.nodes.nodes c.found_or_root-top.new.root c.args.leaf c.args.end in
    let up = ap (λ (s : Shape). s.parent) c.shape.ensures in
    let is_t = c.found_or_root-top.ensures.tree c.args.leaf c.args.end in
    let can = can_at t t1 c.first_with_rooms-found.result c.shape.result.parent c.found_or_root-top.result c.requires.tree c.requires.full c.first_with_rooms-found.ensures.first up is_t c.found_or_root-top.ensures.number in
    let closed = c.close_below.ensures.nodes in
    let after = after_close t1 c.close_below.new.nodes.nodes c.found_or_root-top.result _ closed.0 can closed.1 closed.2 in
    record {
      parent = after.there;
      room = after.room;
      spare = omega (arith, after.level, can.low, c.requires.spare, c.found_or_root-top.ensures.spare, c.close_below.ensures.spare);
    }

pub returns : goal.returns
returns c =
    let t = tree_of c.args.nodes.now.nodes c.args.root.now c.args.leaf c.args.end in
    let t1 = tree_of c.found_or_root-top.new.nodes.nodes c.found_or_root-top.new.root c.args.leaf c.args.end in
    let up = ap (λ (s : Shape). s.parent) c.shape.ensures in
    let is_t = c.found_or_root-top.ensures.tree c.args.leaf c.args.end in
    let can = can_at t t1 c.first_with_rooms-found.result c.shape.result.parent c.found_or_root-top.result c.requires.tree c.requires.full c.first_with_rooms-found.ensures.first up is_t c.found_or_root-top.ensures.number in
    let closed = c.close_below.ensures.nodes in
    let after = after_close t1 c.close_below.new.nodes.nodes c.found_or_root-top.result _ closed.0 can closed.1 closed.2 in
    record {
      renewal = is_renewal t t1 c.first_with_rooms-found.result c.shape.result.parent closed.0 c.found_or_root-top.result c.open_below.result c.close_below.new.nodes.nodes c.open_below.new.nodes.nodes
          c.first_with_rooms-found.ensures.first up is_t c.found_or_root-top.ensures.number closed.1 closed.2 after c.open_below.ensures.nodes (c.open_below.ensures.newest (omega (arith, after.level, can.high)));
      spare = omega (arith, after.level, can.low, c.found_or_root-top.ensures.spare, c.close_below.ensures.spare, c.open_below.ensures.spare);
      shortcuts = c.first_with_rooms-found.ensures.shortcuts;
    }
