use Rattle.std.proofs.Common.{◌<◌, None, get_or, subst, sym}
use Rattle.std.proofs.lemmas.Option.{slice_get-get_or}
use Rattle.wait_graph.specs.declared.wake.Wake.{Wake}
use Rattle.wait_graph.specs.declared.vertex.Vertex.{Vertex}
use Rattle.wait_graph.specs.declared.vertex.ThreadState.TheVariants.{Unknown}
use Rattle.wait_graph.specs.declared.vertex.Link.TheVariants.{Nothing}
use Rattle.wait_graph.proofs.WakeLists.{one_woven}
use Rattle.wait_graph.proofs.weaving.weave.Goals as goal

pub loop-place-preserved : goal.loop-place-preserved
loop-place-preserved c =
    let none : Wake = record { host = 0; tid = 0; end = 0; number = 0 } in
    let blank : Vertex = record { host = 0; tid = 0; state = Unknown; start = 0; end = None; link = Nothing; next = None; before = None; wake_next = None; wake_before = None } in
    let w = get_or c.args.wakes.now c.loop-place.place none in
    let at = slice_get-get_or c.args.wakes.now c.loop-place.place none c.loop-place-test.true in
    let lt = c.requires.within c.loop-place.place w at in
    let old = c.loop-place.invariant in
    one_woven c.args.wakes.now c.args.vertices.now c.requires.once c.loop-place.place w c.loop-place.vertices (get_or c.loop-place.vertices w.number blank) c.wake_next_of.result c.wake_before_of.result at
    (slice_get-get_or c.loop-place.vertices w.number blank (subst (λ n. w.number < n) (sym old.length_stays) lt)) lt c.wake_next_of.ensures c.wake_before_of.ensures old
