use Rattle.std.proofs.Common.{get_or}
use Rattle.std.proofs.lemmas.Option.{slice_get-get_or}
use Rattle.message_match.specs.declared.message.Message.{Message}
use Rattle.host_merge.proofs.Places.{placed_more}
use Rattle.host_merge.proofs.placing.places_in.Goals as goal

pub loop-message-preserved : goal.loop-message-preserved
loop-message-preserved c =
    let merged = c.args.merged.now in
    let messages = c.args.messages.now in
    let i = c.loop-message.message-index in
    let none : Message = record { sent = 0; received = 0; from = 0; send = 0; to = 0; receive = 0 } in
    rw (c.in_ok-push.ensures.items)
    (placed_more merged messages i (get_or messages i none) c.loop-message.placed.items (record { send = c.place_of.result; receive = c.place_of-in-loop-message.result })
    c.loop-message-test.true (slice_get-get_or messages i none c.loop-message-test.true) c.place_of.ensures c.place_of-in-loop-message.ensures c.loop-message.invariant)
