use Rattle.std.proofs.Common.{subst, sym}
use Rattle.type_table.specs.TraceMetas.{TraceMetaModel}
use Rattle.read_plan.specs.Lone.{IsLone}
use Rattle.decode_pool.proofs.decoded_packet.plan_headers.Goals as goal

pub plan_headers-requires : goal.plan_headers-requires
plan_headers-requires c = λ is. subst (λ (m : TraceMetaModel). IsLone m.table) (sym c.requires.within) (c.lone.ensures.lone is)
