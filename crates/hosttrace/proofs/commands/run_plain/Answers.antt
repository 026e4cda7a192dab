use Rattle.std.proofs.Common.{rules}
use Rattle.hosttrace.proofs.Complete.{plain_outcome}
use Rattle.hosttrace.proofs.Told.{told_of}
use Rattle.hosttrace.proofs.commands.run_plain.Goals as goal

pub returns-clause-headline : goal.returns-clause-headline
returns-clause-headline g c = plain_outcome _ _ _ (search rules)

pub returns-clause-told : goal.returns-clause-told
returns-clause-told g c = told_of _ _ _ _ _ _ c.write_status.ensures.told
