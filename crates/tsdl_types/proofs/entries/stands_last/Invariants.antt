use Rattle.std.proofs.Common.{◌≡◌, drop}
use Rattle.tsdl_types.specs.Blocks.{stands_last}
use Rattle.tsdl_types.proofs.entries.stands_last.Given as goal

abbrev pub invariant-loop-at : goal.invariant-loop-at
invariant-loop-at l = stands_last l.name l.other (drop l.at l.entries) ≡ stands_last l.name l.other l.entries
