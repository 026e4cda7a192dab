use Rattle.std.proofs.lemmas.Option.{slice_get-get_or, slice_get_within}
use Rattle.wait_graph.proofs.SendPlaces.{none_so_far, one_so_far, sends_so_far}
use Rattle.wait_graph.proofs.moments.note_sends.Goals as goal

pub loop-message-init : goal.loop-message-init
loop-message-init c = none_so_far c.args.merged.now c.args.placed.now c.args.sends.now c.requires.none

pub note_send-requires : goal.note_send-requires
note_send-requires c =
    let at = slice_get-get_or c.args.placed.now c.loop-message.message-index (record { send = 0; receive = 0 }) c.loop-message-test.true in
    let kind = c.requires.messages.receives c.loop-message.message-index _ at in
    let lt = slice_get_within c.args.merged.now _ kind.event kind.there in
    record { within = rw (c.loop-message.invariant.places) lt }

pub loop-message-preserved : goal.loop-message-preserved
loop-message-preserved c =
    let at = slice_get-get_or c.args.placed.now c.loop-message.message-index (record { send = 0; receive = 0 }) c.loop-message-test.true in
    let kind = c.requires.messages.receives c.loop-message.message-index _ at in
    let lt = slice_get_within c.args.merged.now _ kind.event kind.there in
    one_so_far c.args.merged.now c.args.placed.now c.loop-message.message-index _ c.loop-message.sends c.note_send.new.sends c.requires.messages at lt c.loop-message.invariant c.note_send.ensures.put c.note_send.ensures.skip

pub returns : goal.returns
returns c = sends_so_far c.args.merged.now c.args.placed.now c.loop-message.sends c.loop-message.message-index c.loop-message-test.false c.loop-message.invariant
