use Rattle.std.proofs.Common.{◌↔◌, IsTrue, Contains, subst}
use Rattle.wait_graph.specs.Graph.{WaitGraph}
use Rattle.wait_graph.proofs.NameLists.{names_found}
use Rattle.wait_graph.proofs.waits.Waits.names.Goals as goal

pub returns : goal.returns
returns c = subst (λ (g : WaitGraph). IsTrue c.contains.result ↔ Contains g.named (record { host = c.args.host; tid = c.args.tid })) c.self.view_is
    (names_found c.contains.result c.self.inside.named.keys (record { host = c.args.host; tid = c.args.tid }) c.contains.ensures)
