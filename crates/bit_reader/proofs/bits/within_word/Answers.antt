use Rattle.std.proofs.Common.{◌*◌, ◌/◌, ◌%◌, ◌^◌, ◌-◌, ap, ◌∙◌, sym, arith}
use Rattle.bit_reader.specs.Bits.{integer}
use Rattle.bit_reader.proofs.Words.{little_read, big_read}
use Rattle.bit_reader.proofs.bits.within_word.Goals as goal

pub returns-in-Little : goal.returns-in-Little
returns-in-Little c = ap (λ w. w * 2 ^ (64 - c.args.skipped - c.args.size) % 2 ^ 64 / 2 ^ (64 - c.args.size)) c.read_u64-word.ensures ∙ little_read c.args.bytes.now (λ i. omega (arith, c.type_inv.bytes i)) c.args.skipped c.args.size c.requires.1 ∙ ap (λ o. integer o c.args.bytes.now c.args.skipped c.args.size) (sym c.in-Little.is)

pub returns-in-Big : goal.returns-in-Big
returns-in-Big c = ap (λ w. w * 2 ^ c.args.skipped % 2 ^ 64 / 2 ^ (64 - c.args.size)) c.read_u64.ensures ∙ big_read c.args.bytes.now (λ i. omega (arith, c.type_inv.bytes i)) c.args.skipped c.args.size c.requires.1 ∙ ap (λ o. integer o c.args.bytes.now c.args.skipped c.args.size) (sym c.in-Big.is)
