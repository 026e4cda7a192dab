use Rattle.list_messages.proofs.AtEvents.{at_events}
use Rattle.list_messages.proofs.laws.messages_at_events.Goals as goal

pub returns : goal.returns
returns c = λ hosts matched ambiguous merged placed are keeps places. at_events hosts matched ambiguous merged placed are keeps places
