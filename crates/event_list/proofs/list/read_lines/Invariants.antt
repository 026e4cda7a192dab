use Rattle.std.proofs.Common.{length}
use Rattle.event_list.proofs.Listing.{Reads}
use Rattle.event_list.proofs.list.read_lines.Given as goal

abbrev pub invariant-loop-rest : goal.invariant-loop-rest
invariant-loop-rest l = Reads l.fn.text l.read l.least l.rest

abbrev pub decreases-loop-rest : goal.decreases-loop-rest
decreases-loop-rest l = length l.rest
