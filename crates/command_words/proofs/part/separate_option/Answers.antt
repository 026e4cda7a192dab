use Rattle.std.proofs.Common.{rules, ◌∷◌, None, refl, ap}
use Rattle.command_words.specs.OptionNames.{option_word}
use Rattle.command_words.specs.Parts.{flag, separate}
use Rattle.command_words.proofs.part.separate_option.Goals as goal

pub returns-then-not-takes_value-clause-found : goal.returns-then-not-takes_value-clause-found
returns-then-not-takes_value-clause-found c = flag _ _ _ c.args.option (search rules) (search rules) refl

pub returns-else-is_dashed-clause-found : goal.returns-else-is_dashed-clause-found
returns-else-is_dashed-clause-found c =
    separate _ _ _ c.args.option c.as_str-value.result.now c.valued-else-is_dashed.ensures (search rules) (search rules) (ap (λ l. option_word c.args.option None ∷ l) (search rules))
