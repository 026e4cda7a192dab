use Rattle.packet_decoder.proofs.events.head_at.Goals as goal

pub returns-in-Some-clause-answers : goal.returns-in-Some-clause-answers
returns-in-Some-clause-answers c = c.planned_head.ensures.answers c.args.scopes.now
