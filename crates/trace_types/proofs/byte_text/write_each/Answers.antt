use Rattle.trace_types.proofs.Appending.{on_err}
use Rattle.trace_types.proofs.PlainBytes.{stopped_at}
use Rattle.trace_types.proofs.byte_text.write_each.Goals as goal

pub returns-in_err-write_byte-clause-err : goal.returns-in_err-write_byte-clause-err
returns-in_err-write_byte-clause-err c = on_err _ (stopped_at c.args.bytes.now c.loop-byte.byte-index c.args.out.now.items c.loop-byte.out.items c.write_byte.new.out.items c.loop-byte.invariant c.in_err-write_byte.ensures.err)
