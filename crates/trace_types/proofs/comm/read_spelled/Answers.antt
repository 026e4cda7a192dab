use Rattle.std.proofs.Common.{rules, inl, inr, arith}
use Rattle.trace_types.proofs.Names.{not_spelled, refused_byte, more, nothing_left}
use Rattle.trace_types.proofs.comm.read_spelled.Goals as goal

pub returns-in_err-byte-clause-none : goal.returns-in_err-byte-clause-none
returns-in_err-byte-clause-none c =
    rw c.from_residual.ensures (not_spelled _ c.loop-rest.bytes c.loop-rest.len c.loop-rest.rest.now c.loop-rest.invariant (grind arith) c.in_err-byte.ensures.none)

pub returns-then-byte-eq0-clause-none : goal.returns-then-byte-eq0-clause-none
returns-then-byte-eq0-clause-none c =
    refused_byte _ c.loop-rest.bytes c.loop-rest.len c.loop-rest.rest.now c.in_ok-byte.byte c.in_ok-byte.after.now c.loop-rest.invariant c.in_ok-byte.ensures.found (search rules)
    (elim c.then-byte-eq0.either [ inl zero_byte ↦ inl zero_byte | inr full ↦ inr full.1 ])

pub loop-rest-preserved : goal.loop-rest-preserved
loop-rest-preserved c = more _ _ _ _ _ _ c.loop-rest.invariant c.in_ok-byte.ensures.found (search rules) c.if-byte-eq0.false c.if-len-eq15.false

pub invariant_of-result : goal.invariant_of-result
invariant_of-result c = (nothing_left c.args.text.now _ c.loop-rest.len c.loop-rest.rest.now c.loop-rest.invariant (grind arith)).0

pub returns-clause-found : goal.returns-clause-found
returns-clause-found c = (nothing_left c.args.text.now _ c.loop-rest.len c.loop-rest.rest.now c.loop-rest.invariant (grind arith)).1
