use Rattle.std.proofs.Common.{take}
use Rattle.event_list.specs.Names.{names_at}
use Rattle.event_list.specs.Written.{SpellBytes}
use Rattle.event_list.proofs.spelled.spell_bytes.Given as goal

abbrev pub invariant-loop-event : goal.invariant-loop-event
invariant-loop-event l = SpellBytes (names_at l.fn.names) (take l.event-index l.fn.events)
