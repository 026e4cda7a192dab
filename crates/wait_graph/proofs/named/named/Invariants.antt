use Rattle.std.proofs.Common.{ℕ, ◌≡◌, ◌↔◌, true}
use Rattle.wait_graph.specs.Names.{is_held, IsNamedBelow}
use Rattle.wait_graph.proofs.named.named.Given as goal

abbrev pub invariant-loop-event : goal.invariant-loop-event
invariant-loop-event l = (h t : ℕ) → (is_held l.names.keys h t ≡ true) ↔ IsNamedBelow l.merged l.event-index h t
