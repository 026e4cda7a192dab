use Rattle.std.proofs.Common.{◌≡◌, find, drop}
use Rattle.history_nodes.specs.Nodes.{node_at, holds}
use Rattle.history_nodes.proofs.nodes.Nodes.child_at.Given as goal

abbrev pub invariant-loop-child : goal.invariant-loop-child
invariant-loop-child l =
    find (λ c. holds l.t (node_at l.self.nodes c)) l.child-items ≡ find (λ c. holds l.t (node_at l.self.nodes c)) (drop l.child-index l.child-items)
