use Rattle.std.proofs.Common.{length}
use Rattle.trace_types.proofs.Names.{HasRead}
use Rattle.trace_types.proofs.comm.read_spelled.Given as goal

abbrev pub invariant-loop-rest : goal.invariant-loop-rest
invariant-loop-rest l = HasRead l.text l.bytes l.len l.rest

abbrev pub decreases-loop-rest : goal.decreases-loop-rest
decreases-loop-rest l = length l.rest
