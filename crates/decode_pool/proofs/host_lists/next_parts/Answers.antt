use Rattle.std.proofs.Common.{rules, ◌≡◌, length}
use Rattle.std.specs.Vec.Iter.{into_iter_items}
use Rattle.decode_pool.proofs.Taken.{are_others, is_front}
use Rattle.decode_pool.proofs.host_lists.next_parts.Goals as goal

pub returns-clause-own : goal.returns-clause-own
returns-clause-own c =
    let size : length c.loop-left.own.items ≡ c.args.count = search rules in
    is_front c.loop-left.own.items (into_iter_items c.loop-left.left) (into_iter_items c.args.left.now) c.args.count c.loop-left.invariant.0 size

pub returns-clause-left : goal.returns-clause-left
returns-clause-left c =
    let size : length c.loop-left.own.items ≡ c.args.count = search rules in
    are_others c.loop-left.own.items (into_iter_items c.loop-left.left) (into_iter_items c.args.left.now) c.args.count c.loop-left.invariant.0 size
