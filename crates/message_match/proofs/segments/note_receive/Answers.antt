use Rattle.std.proofs.Common.{refl}
use Rattle.message_match.proofs.Tables.{after_none, after_receive, within_entries}
use Rattle.message_match.proofs.segments.note_receive.Goals as goal

pub returns-in_default : goal.returns-in_default
returns-in_default c = after_none c.args.key c.args.segments.now.entries c.args.segments.now.entries c.args.receive c.in_default.ensures.none refl

pub index_mut-standing-requires : goal.index_mut-standing-requires
index_mut-standing-requires c = within_entries c.args.key c.args.segments.now.entries c.in-Some.index c.in-Some.ensures.found

pub returns : goal.returns
returns c = after_receive c.args.key c.args.segments.now.entries _ c.in-Some.index c.args.receive c.index_mut-standing.result.now c.received.result c.requires c.in-Some.ensures.found c.index_mut-standing.ensures.value c.received.ensures refl
