use Rattle.std.proofs.Common.{◌≤◌, ◌+◌, length}
use Rattle.wait_graph.specs.Changes.{AreStates, AreChanges}
use Rattle.wait_graph.proofs.changes.changes.Given as goal

abbrev pub invariant-loop-place : goal.invariant-loop-place
invariant-loop-place l = record {
  states : AreStates l.merged l.place l.threads.entries;
  changes : AreChanges l.merged l.place l.changes.items;
  few : length l.changes.items ≤ l.place + l.place;
}
