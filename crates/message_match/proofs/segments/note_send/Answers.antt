use Rattle.std.proofs.Common.{◌∙◌, sym, rules}
use Rattle.message_match.specs.declared.standing.Standing.TheVariants.{Sent}
use Rattle.message_match.proofs.Tables.{after_first_send, after_send_again}
use Rattle.message_match.proofs.segments.note_send.Goals as goal

pub returns-in-Occupied : goal.returns-in-Occupied
returns-in-Occupied c =
    let e = c.in_ok-entry.ensures in
    let u = e.update.1 c.sent_again.result in
    let v = rw c.in-Occupied.is at e.value in
    after_send_again c.args.key c.args.segments.now.entries _ c.args.send c.into_mut-standing.result.now c.sent_again.result (sym v ∙ c.into_mut-standing.ensures.value) c.sent_again.ensures (search rules)

pub returns-in-Vacant : goal.returns-in-Vacant
returns-in-Vacant c =
    let e = c.in_ok-entry.ensures in
    let u = e.update.1 (Sent c.args.send) in
    let v = rw c.in-Vacant.is at e.found in
    after_first_send c.args.key c.args.segments.now.entries _ c.args.send v (search rules)
