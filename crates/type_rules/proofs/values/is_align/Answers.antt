use Rattle.std.proofs.Common.{rules}
use Rattle.std.proofs.lemmas.Bool.{leb-true}
use Rattle.type_rules.proofs.Powers.{power_aligns}
use Rattle.type_rules.proofs.values.is_align.Goals as goal

pub returns-then-is_power_of_two-clause-aligns : goal.returns-then-is_power_of_two-clause-aligns
returns-then-is_power_of_two-clause-aligns c = λ h. power_aligns c.args.align (search rules) (leb-true c.args.align 65536 h)
