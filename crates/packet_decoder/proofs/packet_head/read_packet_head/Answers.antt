use Rattle.std.proofs.Common.{subst, sym}
use Rattle.packet_decoder.specs.PacketHeads.{Answers}
use Rattle.packet_decoder.proofs.packet_head.read_packet_head.Goals as goal

pub returns-clause-answers : goal.returns-clause-answers
returns-clause-answers c = subst (λ answer. Answers answer c.context_read.result) (sym c.in_ok-judged.ensures.judged) c.context_read.ensures.answers
