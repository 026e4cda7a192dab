use Rattle.std.proofs.Common.{subst}
use Rattle.std.specs.List.{AllByRecursion}
use Rattle.trace_types.specs.declared.event.Merged.{Merged}
use Rattle.event_list.specs.Lines.{AreBytes}
use Rattle.event_list.specs.Names.{names_at}
use Rattle.event_list.specs.Written.{texts_in}
use Rattle.event_list.proofs.Prefixes.{all_more}
use Rattle.event_list.proofs.spelled.spell_bytes.Goals as goal

pub loop-event-preserved : goal.loop-event-preserved
loop-event-preserved c =
    let m : Merged = c.event-item.result in
    let spells = λ (m : Merged). AllByRecursion AreBytes (texts_in (names_at c.args.names.now m.event.host) m.event.kind) in
    all_more spells c.args.events.now c.loop-event.event-index m c.loop-event-test.true c.loop-event.invariant (subst spells c.event-item.is (subst (λ names. AllByRecursion AreBytes (texts_in names m.event.kind)) c.names_of.ensures c.texts_are_bytes.ensures))
