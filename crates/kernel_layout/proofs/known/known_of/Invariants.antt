use Rattle.std.proofs.Common.{◌≡◌, ◌++◌, drop}
use Rattle.kernel_layout.specs.Sought.{known_of}
use Rattle.kernel_layout.proofs.known.known_of.Given as goal

abbrev pub invariant-loop-number : goal.invariant-loop-number
invariant-loop-number l = l.known.items ++ known_of (drop l.number l.table.names) ≡ known_of l.table.names
