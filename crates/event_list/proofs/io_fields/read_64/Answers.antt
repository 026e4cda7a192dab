use Rattle.std.proofs.Common.{rules, arith, sym, ◌∙◌}
use Rattle.trace_types.proofs.Decimals.{same_number}
use Rattle.event_list.proofs.Spelling.{wide}
use Rattle.event_list.proofs.io_fields.read_64.Goals as goal

pub returns-else-number-clause-none : goal.returns-else-number-clause-none
returns-else-number-clause-none c = λ n h is. let same = same_number n c.in_ok-number.number (wide n h) (search rules) (sym is ∙ c.in_ok-number.ensures.found) in omega (arith, same, h, c.if-number.false)
