use Rattle.std.proofs.Common.{sym, ◌∙◌}
use Rattle.history_tree.specs.Placement.{takes}
use Rattle.history_tree.proofs.Climbing.{takes_full, climbed_past, climbing_by, climbing_found, by_falls}
use Rattle.history_tree.proofs.branch.first_that_takes.Goals as goal

pub returns-then-takes-clause-first : goal.returns-then-takes-clause-first
returns-then-takes-clause-first c =
    let nodes = c.args.nodes.now.nodes in
    let test = takes c.args.start in
    let past = climbed_past test nodes c.args.from c.loop-next.next c.in-Some.number c.pass_full-free.result c.loop-next.shortcuts c.pass_full-free.new.self (takes_full c.args.start) c.loop-next.invariant c.in-Some.is c.pass_full-free.ensures.past c.pass_full-free.ensures.shortcuts in
    climbing_found test nodes c.args.from c.pass_full-free.result c.pass_full-free.new.self past (sym c.takes.ensures ∙ c.if-takes.true)

pub loop-next-preserved : goal.loop-next-preserved
loop-next-preserved c =
    let nodes = c.args.nodes.now.nodes in
    let test = takes c.args.start in
    let past = climbed_past test nodes c.args.from c.loop-next.next c.in-Some.number c.pass_full-free.result c.loop-next.shortcuts c.pass_full-free.new.self (takes_full c.args.start) c.loop-next.invariant c.in-Some.is c.pass_full-free.ensures.past c.pass_full-free.ensures.shortcuts in
    climbing_by nodes c.args.from c.next_after-next.result c.args.start c.pass_full-free.result c.pass_full-free.new.self past c.next_after-next.ensures

pub loop-next-smaller : goal.loop-next-smaller
loop-next-smaller c = by_falls c.args.nodes.now.nodes c.loop-next.next c.next_after-next.result c.in-Some.number c.pass_full-free.result c.args.start c.requires.climbed c.in-Some.is c.pass_full-free.ensures.past c.next_after-next.ensures
