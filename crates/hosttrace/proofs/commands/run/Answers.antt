use Rattle.std.proofs.Common.{◌≡◌, rules, ap, Err}
use Rattle.command_words.proofs.OneCommand.{same_command}
use Rattle.command_words.specs.declared.command.Command.TheVariants.{Plain}
use Rattle.command_words.specs.declared.command.PlainCommand.TheVariants.{Make}
use Rattle.hosttrace.proofs.Complete.{no_command, outcome}
use Rattle.hosttrace.proofs.Told.{told_of}
use Rattle.hosttrace.proofs.commands.run.Goals as goal

pub returns-in-Ok-Plain-clause-headline : goal.returns-in-Ok-Plain-clause-headline
returns-in-Ok-Plain-clause-headline g c = outcome _ _ _ (search rules)

pub returns-in-Err-clause-headline : goal.returns-in-Err-clause-headline
returns-in-Err-clause-headline g c = outcome _ _ _ (no_command _ _ c.in-Err.error c.from.result c.write_status.result c.from.ensures (λ is. c.in-Err.ensures.usage (ap Err is)) c.write_status.ensures.answer)

pub returns-in-Err-clause-told : goal.returns-in-Err-clause-told
returns-in-Err-clause-told g c = told_of _ _ _ _ _ _ c.write_status.ensures.told

pub returns-in-Ok-Plain-clause-apart : goal.returns-in-Ok-Plain-clause-apart
returns-in-Ok-Plain-clause-apart g c = λ number hosts rounds are.
    let e : c.in-Ok-Plain.field-0 ≡ Plain (Make number hosts rounds) = same_command _ c.in-Ok-Plain.field-0 (Plain (Make number hosts rounds)) c.in-Ok-Plain.ensures.found are in
    c.run_plain.ensures.apart number hosts rounds (search rules)
