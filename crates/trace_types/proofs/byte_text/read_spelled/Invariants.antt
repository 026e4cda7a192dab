use Rattle.std.proofs.Common.{length}
use Rattle.trace_types.proofs.SpelledBytes.{HasReadBytes}
use Rattle.trace_types.proofs.byte_text.read_spelled.Given as goal

abbrev pub invariant-loop-rest : goal.invariant-loop-rest
invariant-loop-rest l = HasReadBytes l.fn.word l.bytes.items l.rest

abbrev pub decreases-loop-rest : goal.decreases-loop-rest
decreases-loop-rest l = length l.rest
