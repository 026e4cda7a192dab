use Rattle.std.proofs.Common.{◌≡◌, List, Some, IfSome, slice_get, subst}
use Rattle.wait_graph.specs.declared.vertex.Vertex.{Vertex}
use Rattle.wait_graph.specs.Graph.{WaitGraph, HoldsPlace}
use Rattle.wait_graph.specs.Found.{IsLatest}
use Rattle.wait_graph.proofs.Lookups.{segment_found}
use Rattle.wait_graph.proofs.waits.Waits.segment.Goals as goal

pub returns-clause-found : goal.returns-clause-found
returns-clause-found c = subst (λ (g : WaitGraph). IfSome c.segment_in.result (λ n. (v : Vertex) × (slice_get g.vertices n ≡ Some v) × (v.host ≡ c.args.host) × (v.tid ≡ c.args.tid) × HoldsPlace v c.args.place)) c.self.view_is
    (segment_found _ c.self.invariant.graph_is c.args.host c.args.tid c.args.place c.segment_in.result
    (subst (λ (l : List Vertex). IfSome c.segment_in.result (IsLatest l c.args.host c.args.tid c.args.place)) c.deref.ensures.value c.segment_in.ensures.found))
