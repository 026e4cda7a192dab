use Rattle.std.proofs.Common.{◌≡◌, true, subst, sym}
use Rattle.read_plan.specs.Lone.{IsLone}
use Rattle.packet_decoder.specs.EventReaders.{EventReaderModel}
use Rattle.packet_decoder.proofs.reader.EventReader.plan_headers.Goals as goal

pub plan_of-requires : goal.plan_of-requires
plan_of-requires c = subst (λ (u : EventReaderModel). c.args.lone ≡ true → IsLone u.within.meta.table) (sym c.self.view_is) c.requires
