use Rattle.std.proofs.Common.{◌-◌, subst, sym}
use Rattle.std.specs.List.Sorted.{IsNonDecreasing}
use Rattle.wait_graph.specs.Graph.{WaitGraph, IsLastAt}
use Rattle.wait_graph.proofs.Lookups.{graph_rises, last_at}
use Rattle.wait_graph.proofs.waits.Waits.place_at.Goals as goal

pub keys_to-count-requires : goal.keys_to-count-requires
keys_to-count-requires c = subst IsNonDecreasing (sym c.deref.ensures.value) (graph_rises _ c.self.invariant.graph_is)

pub returns-else-count-eq0-clause-found : goal.returns-else-count-eq0-clause-found
returns-else-count-eq0-clause-found c = subst (λ (g : WaitGraph). IsLastAt g.keys c.args.t (c.keys_to-count.result - 1)) c.self.view_is
    (subst (λ l. IsLastAt l c.args.t (c.keys_to-count.result - 1)) c.deref.ensures.value (last_at c.deref.result.now c.args.t c.keys_to-count.result c.keys_to-count.ensures c.if-count-eq0.false))
