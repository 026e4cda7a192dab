use Rattle.std.proofs.Common.{◌≤◌, length}
use Rattle.wait_graph.specs.Wakes.{AreWakes}
use Rattle.wait_graph.specs.Wakes.{AllFit}
use Rattle.wait_graph.proofs.weaving.wakes.Given as goal

abbrev pub invariant-loop-number : goal.invariant-loop-number
invariant-loop-number l = record {
  wakes : AreWakes l.vertices l.number l.wakes.items;
  few : length l.wakes.items ≤ l.number;
  fit : AllFit l.wakes.items;
}
