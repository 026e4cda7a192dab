use Rattle.message_match.proofs.Outcome.{ok_messages}
use Rattle.message_match.proofs.matching.matches.Goals as goal

pub returns : goal.returns
returns c = record { exact = ok_messages c.args.hosts.now c.messages_of.result c.note_receives.new.segments.entries c.note_receives.ensures c.messages_of.ensures.matched c.messages_of.ensures.ambiguous }
