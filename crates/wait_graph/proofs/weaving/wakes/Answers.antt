use Rattle.std.proofs.Common.{None, get_or, arith}
use Rattle.std.proofs.lemmas.Option.{slice_get-get_or}
use Rattle.wait_graph.specs.declared.vertex.Vertex.{Vertex}
use Rattle.wait_graph.specs.declared.vertex.ThreadState.TheVariants.{Unknown}
use Rattle.wait_graph.specs.declared.vertex.Link.TheVariants.{Nothing}
use Rattle.wait_graph.proofs.WakeLists.{few_wakes, fit_more, more_wakes}
use Rattle.wait_graph.proofs.weaving.wakes.Goals as goal

pub loop-number-preserved : goal.loop-number-preserved
loop-number-preserved c =
    let none : Vertex = record { host = 0; tid = 0; state = Unknown; start = 0; end = None; link = Nothing; next = None; before = None; wake_next = None; wake_before = None } in
    let n = c.loop-number.number in
    let v = get_or c.args.vertices.now n none in
    let at = slice_get-get_or c.args.vertices.now n none c.loop-number-test.true in
    let is = c.in_ok-push_wake.ensures.pushed in
    let few = c.loop-number.invariant.few in
    let more = few_wakes v n c.loop-number.wakes.items c.push_wake.new.wakes.items is in
    record {
      wakes = more_wakes c.args.vertices.now n v c.loop-number.wakes.items c.push_wake.new.wakes.items at is c.loop-number.invariant.wakes;
      few = omega (arith, few, more);
      fit = fit_more v n c.loop-number.wakes.items c.push_wake.new.wakes.items is c.push_wake.ensures.fits c.loop-number.invariant.fit;
    }
