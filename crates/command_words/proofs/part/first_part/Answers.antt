use Rattle.std.proofs.Common.{rules}
use Rattle.command_words.specs.Parts.{word}
use Rattle.command_words.proofs.part.first_part.Goals as goal

pub returns-else-is_dashed-clause-found : goal.returns-else-is_dashed-clause-found
returns-else-is_dashed-clause-found c = word _ _ _ c.as_str-word.result.now c.positional.ensures (search rules) (search rules)
