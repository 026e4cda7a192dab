use Rattle.std.proofs.Common.{refl}
use Rattle.event_list.specs.Names.{lines_of, names_at}
use Rattle.event_list.specs.Written.{SpellBytes}
use Rattle.hosttrace.proofs.Clustered.{events_output}
use Rattle.hosttrace.proofs.commands.listed_events.Goals as goal

pub returns-clause-text : goal.returns-clause-text
returns-clause-text g c =
    let trace = c.in_ok-trace.trace in
    let bytes : SpellBytes (names_at trace.names.items) trace.events.items = rw (c.deref.ensures.value, c.deref-2.ensures.value) at c.spell_bytes.ensures in
    events_output (g.S.Store.holds c.args.store.now) c.args.folders.now c.args.drift trace (lines_of (names_at trace.names.items) trace.events.items) c.in_ok-trace.ensures.trace refl bytes
