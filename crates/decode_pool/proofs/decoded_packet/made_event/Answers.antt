use Rattle.std.proofs.Common.{ap, ap₂, refl}
use Rattle.kernel_layout.specs.Tracepoints.{skips_of}
use Rattle.decode_pool.proofs.Reading.{one_event}
use Rattle.decode_pool.proofs.decoded_packet.made_event.Goals as goal

pub returns-clause-made : goal.returns-clause-made
returns-clause-made c = λ whole so.
    let w = c.args.reader.now.within in
    let one = one_event c.args.host w.meta c.args.meta.now w.bytes c.bits.result.bytes.now w.end c.bits.result.end (skips_of c.args.meta.now) c.args.read whole c.kind_from-kind.result c.requires.reader c.bits.ensures.bytes c.bits.ensures.end refl so c.kind_from-kind.ensures in
    ap₂ (λ e b. (e, b)) one.0 (ap (λ k. k.1) one.1)
