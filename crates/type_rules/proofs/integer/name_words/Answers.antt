use Rattle.std.proofs.Common.{◌==◌, ◌-◌, codes, false, length, refl, rules, take, true, arith}
use Rattle.type_rules.proofs.ClockWords.{named}
use Rattle.type_rules.proofs.integer.name_words.Goals as goal
use Rattle.type_rules.proofs.integer.name_words.Goals.{else-eq-via-then-eq+else-not-is_empty, else-eq-via-else-eq}

pub returns-then-not-is_empty-clause-found : goal.returns-then-not-is_empty-clause-found
returns-then-not-is_empty-clause-found c = named (codes "value") c.args.words.now c.value-item.result true false (omega (arith, c.in-len1-up.len_at_least)) (search rules) (search rules)

pub returns-else-eq-clause-none : goal.returns-else-eq-clause-none
returns-else-eq-clause-none c = elim c.else-eq.branch [
  | else-eq-via-then-eq+else-not-is_empty w ↦ named (codes "value") c.args.words.now c.value-item.result true true (omega (arith, c.in-len1-up.len_at_least)) (search rules) (search rules)
  | else-eq-via-else-eq w ↦ named (codes "value") c.args.words.now c.value-item.result false (length (take (length c.args.words.now - 1) c.args.words.now) == 0) (omega (arith, c.in-len1-up.len_at_least)) (search rules) refl
]
