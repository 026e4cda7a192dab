use Rattle.std.proofs.Common.{length, refl}
use Rattle.std.proofs.lemmas.Option.{slice_get_read}
use Rattle.wait_graph.proofs.NameLists.{more_named, all_named}
use Rattle.wait_graph.proofs.named.named.Goals as goal

pub loop-event-preserved : goal.loop-event-preserved
loop-event-preserved c = more_named c.args.merged.now c.loop-event.event-index c.event-item.result c.loop-event.names.keys c.note_names.new.names.keys
    (slice_get_read c.args.merged.now (length c.args.merged.now) c.loop-event.event-index c.event-item.result refl c.loop-event-test.true c.event-item.is) c.in_ok-note_names.ensures c.loop-event.invariant

pub returns : goal.returns
returns c = all_named c.args.merged.now c.loop-event.names.keys c.loop-event.event-index c.loop-event-test.false c.loop-event.invariant
