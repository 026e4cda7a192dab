use Rattle.std.proofs.Common.{rules}
use Rattle.std.proofs.Common.{arith}
use Rattle.std.proofs.lemmas.Grind.{common_steps}
use Rattle.type_table.proofs.Sums.{parts_rise}
use Rattle.type_table.proofs.type_size.sum_of.Goals as goal

pub returns-then-sum-from-clause-none : goal.returns-then-sum-from-clause-none
returns-then-sum-from-clause-none c =
    let rise = parts_rise c.args.type_sizes.now c.summed-sum.result in
    first_of (search rules, grind (arith, common_steps))

pub loop-field-preserved : goal.loop-field-preserved
loop-field-preserved c = first_of (search rules, grind (arith, common_steps))
