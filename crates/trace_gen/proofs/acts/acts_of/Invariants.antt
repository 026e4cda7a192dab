use Rattle.std.proofs.Common.{◌≡◌, ◌≤◌, ◌*◌, All, length}
use Rattle.trace_gen.specs.Acts.{IsOfHosts, acts_of}
use Rattle.trace_gen.proofs.acts.acts_of.Given as goal

abbrev pub invariant-loop-j : goal.invariant-loop-j
invariant-loop-j l = (l.acts.items ≡ acts_of l.hosts l.j) × All IsOfHosts l.acts.items × (length l.acts.items ≤ 6 * l.j)
