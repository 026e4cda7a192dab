use Rattle.command_words.proofs.OneCommand.{same_command}
use Rattle.command_words.proofs.laws.one_command.Goals as goal

pub returns : goal.returns
returns c = same_command
