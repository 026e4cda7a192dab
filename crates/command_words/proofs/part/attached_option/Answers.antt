use Rattle.std.proofs.Common.{rules, refl}
use Rattle.command_words.specs.Parts.{attached}
use Rattle.command_words.proofs.part.attached_option.Goals as goal

pub returns-then-takes_value-clause-found : goal.returns-then-takes_value-clause-found
returns-then-takes_value-clause-found c = attached _ _ _ c.args.option c.args.value.now c.valued.ensures (search rules) refl
