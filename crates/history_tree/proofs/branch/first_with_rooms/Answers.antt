use Rattle.std.proofs.Common.{sym, ap, ◌∙◌}
use Rattle.history_nodes.specs.declared.node.Shape.{Shape}
use Rattle.history_tree.specs.Placement.{has_rooms}
use Rattle.history_tree.proofs.Climbing.{rooms_full, climbed_past, climbing_on, climbing_found}
use Rattle.history_tree.proofs.branch.first_with_rooms.Goals as goal

pub returns-then-has_rooms-clause-first : goal.returns-then-has_rooms-clause-first
returns-then-has_rooms-clause-first c =
    let nodes = c.args.nodes.now.nodes in
    let past = climbed_past has_rooms nodes c.args.from c.loop-next.next c.in-Some.number c.pass_full-free.result c.loop-next.shortcuts c.pass_full-free.new.self rooms_full c.loop-next.invariant c.in-Some.is c.pass_full-free.ensures.past c.pass_full-free.ensures.shortcuts in
    climbing_found has_rooms nodes c.args.from c.pass_full-free.result c.pass_full-free.new.self past (sym c.has_rooms.ensures ∙ c.if-has_rooms.true)

pub loop-next-preserved : goal.loop-next-preserved
loop-next-preserved c =
    let nodes = c.args.nodes.now.nodes in
    let past = climbed_past has_rooms nodes c.args.from c.loop-next.next c.in-Some.number c.pass_full-free.result c.loop-next.shortcuts c.pass_full-free.new.self rooms_full c.loop-next.invariant c.in-Some.is c.pass_full-free.ensures.past c.pass_full-free.ensures.shortcuts in
    climbing_on has_rooms nodes c.args.from c.shape-next.result.parent c.pass_full-free.result c.pass_full-free.new.self c.requires.climbed past (sym c.has_rooms.ensures ∙ c.if-has_rooms.false) (ap (λ (s : Shape). s.parent) c.shape-next.ensures)
