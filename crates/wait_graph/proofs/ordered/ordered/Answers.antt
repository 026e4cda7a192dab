use Rattle.wait_graph.proofs.Whole.{composed}
use Rattle.wait_graph.proofs.ordered.ordered.Goals as goal

pub returns-clause-vertices : goal.returns-clause-vertices
returns-clause-vertices c = (composed c.args.merged.now c.args.placed.now c.in_ok-sends.sends.items c.deref.result.now c.deref-3.result.now c.in_ok-moments.moments.items c.deref-2.result.now c.in_ok-vertices.vertices.items c.deref-4.result.now c.weave_all.new.vertices.items
    c.in_ok-wakes.wakes.items c.deref-5.result.now c.requires c.in_ok-sends.ensures c.deref.ensures.value c.in_ok-moments.ensures c.deref-2.ensures.value c.deref-3.ensures.value c.in_ok-vertices.ensures.vertices c.in_ok-vertices.ensures.unwoven
    c.in_ok-vertices.ensures.few c.deref-4.ensures.value c.in_ok-wakes.ensures.wakes c.in_ok-wakes.ensures.sorted c.in_ok-wakes.ensures.fit c.deref-5.ensures.value c.weave_all.ensures).0

pub returns-clause-order : goal.returns-clause-order
returns-clause-order c = (composed c.args.merged.now c.args.placed.now c.in_ok-sends.sends.items c.deref.result.now c.deref-3.result.now c.in_ok-moments.moments.items c.deref-2.result.now c.in_ok-vertices.vertices.items c.deref-4.result.now c.weave_all.new.vertices.items
    c.in_ok-wakes.wakes.items c.deref-5.result.now c.requires c.in_ok-sends.ensures c.deref.ensures.value c.in_ok-moments.ensures c.deref-2.ensures.value c.deref-3.ensures.value c.in_ok-vertices.ensures.vertices c.in_ok-vertices.ensures.unwoven
    c.in_ok-vertices.ensures.few c.deref-4.ensures.value c.in_ok-wakes.ensures.wakes c.in_ok-wakes.ensures.sorted c.in_ok-wakes.ensures.fit c.deref-5.ensures.value c.weave_all.ensures).1
