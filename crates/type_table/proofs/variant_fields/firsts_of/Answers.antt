use Rattle.std.proofs.Common.{arith}
use Rattle.std.proofs.lemmas.Grind.{common_steps}
use Rattle.type_table.proofs.FirstFields.{one_more}
use Rattle.type_table.proofs.variant_fields.firsts_of.Goals as goal

pub loop-index-preserved : goal.loop-index-preserved
loop-index-preserved c = λ q. grind (arith, common_steps, one_more, c.loop-index.invariant q)
