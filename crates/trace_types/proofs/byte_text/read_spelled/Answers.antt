use Rattle.std.proofs.Common.{arith, rules}
use Rattle.trace_types.proofs.SpelledBytes.{no_byte, one_byte, all_bytes}
use Rattle.trace_types.proofs.byte_text.read_spelled.Goals as goal

pub returns-in_default-clause-none : goal.returns-in_default-clause-none
returns-in_default-clause-none c = no_byte c.args.word.now c.loop-rest.bytes.items c.loop-rest.rest.now c.loop-rest.invariant (grind arith) c.in_default.ensures.none

pub loop-rest-preserved : goal.loop-rest-preserved
loop-rest-preserved c = rw c.in_ok-push.ensures.items (one_byte _ _ _ _ _ c.loop-rest.invariant c.in-Some.ensures.found (search rules))

pub returns-clause-found : goal.returns-clause-found
returns-clause-found c = rw c.from_vec.ensures (all_bytes c.args.word.now _ c.loop-rest.rest.now c.loop-rest.invariant (grind arith))
