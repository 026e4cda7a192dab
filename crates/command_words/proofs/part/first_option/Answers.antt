use Rattle.std.proofs.Common.{map, string_bytes}
use Rattle.command_words.proofs.FirstParts.{no_option}
use Rattle.command_words.proofs.part.first_option.Goals as goal

pub returns-in_err-option-clause-none : goal.returns-in_err-option-clause-none
returns-in_err-option-clause-none c = rw c.from_residual.ensures (no_option c.args.word.now (map string_bytes c.args.rest.now) c.requires c.in_err-option.ensures.none)
