use Rattle.std.proofs.Common.{◌≡◌, ◌≢◌, ℕ, List, Some, IfSome, IfNone, slice_get, subst}
use Rattle.wait_graph.specs.declared.vertex.Vertex.{Vertex}
use Rattle.wait_graph.specs.declared.wake.Wake.{Wake}
use Rattle.wait_graph.specs.Graph.{WaitGraph, IsToward}
use Rattle.wait_graph.specs.Found.{IsFirstOf}
use Rattle.wait_graph.specs.Whole.{IsFirstWake}
use Rattle.wait_graph.proofs.Lookups.{first_found, none_found}
use Rattle.wait_graph.proofs.waits.Waits.first_wake.Goals as goal

pub returns-clause-found : goal.returns-clause-found
returns-clause-found c = subst (λ (g : WaitGraph). IfSome c.first_in.result (IsFirstWake g.vertices c.args.host c.args.tid)) c.self.view_is
    (first_found c.self.inside.vertices.items c.self.inside.wakes.items c.self.invariant.in_order.wakes_are c.args.host c.args.tid c.first_in.result
    (subst (λ (l : List Wake). IfSome c.first_in.result (IsFirstOf l c.args.host c.args.tid)) c.deref.ensures.value c.first_in.ensures.found))

pub returns-clause-none : goal.returns-clause-none
returns-clause-none c = subst (λ (g : WaitGraph). IfNone c.first_in.result ((n : ℕ) (v : Vertex) → slice_get g.vertices n ≡ Some v → ¬ IsToward c.args.host c.args.tid v.link)) c.self.view_is
    (none_found _ c.self.invariant.graph_is c.self.inside.wakes.items c.self.invariant.in_order.wakes_are c.args.host c.args.tid c.first_in.result
    (subst (λ (l : List Wake). IfNone c.first_in.result ((k : ℕ) (w : Wake) → slice_get l k ≡ Some w → w.host ≡ c.args.host → w.tid ≢ c.args.tid)) c.deref.ensures.value c.first_in.ensures.none))
