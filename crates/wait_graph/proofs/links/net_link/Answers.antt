use Rattle.std.proofs.Common.{◌∙◌, ◌<◌, Some, None, IfSome, length, subst, sym, ap, arith}
use Rattle.std.proofs.lemmas.Option.{slice_get-get_or}
use Rattle.wait_graph.specs.Links.{IsNetLink}
use Rattle.wait_graph.specs.Moments.{HasReceived}
use Rattle.wait_graph.specs.declared.moment.Moment.{Moment}
use Rattle.wait_graph.proofs.LinkFacts.{not_received, not_sent, net_of, send_within}
use Rattle.wait_graph.proofs.links.net_link.Goals as goal

pub returns-in_default : goal.returns-in_default
returns-in_default c = λ placed host cpu end are has. not_received c.args.places.now.merged.now placed c.args.places.now.moments.now c.args.places.now.sends.now are host cpu end
    (subst (HasReceived c.args.places.now.merged.now placed end host cpu) c.in_default.is has)

pub returns-in_default-sends : goal.returns-in_default-sends
returns-in_default-sends c = λ placed host cpu end are has.
    let lt : c.in-Some.receive < length c.args.places.now.sends.now = subst (λ o. IfSome o (λ r. r < length c.args.places.now.sends.now)) c.in-Some.is c.requires.received in
    absurd (not_sent c.args.places.now.merged.now placed c.args.places.now.moments.now c.args.places.now.sends.now are host cpu end c.in-Some.receive
    (subst (HasReceived c.args.places.now.merged.now placed end host cpu) c.in-Some.is has)
    (slice_get-get_or c.args.places.now.sends.now c.in-Some.receive None lt ∙ ap Some c.in_default-sends.is))

pub bounds-places-send : goal.bounds-places-send
bounds-places-send c =
    let lt : c.in-Some.receive < length c.args.places.now.sends.now = subst (λ o. IfSome o (λ r. r < length c.args.places.now.sends.now)) c.in-Some.is c.requires.received in
    let w = send_within c.args.places.now.merged.now c.requires.places.0 c.args.places.now.moments.now c.args.places.now.sends.now c.requires.places.1 c.in-Some.receive c.in-Some-sends.send
    (slice_get-get_or c.args.places.now.sends.now c.in-Some.receive None lt ∙ ap Some c.in-Some-sends.is) in
    let n = c.requires.places.1.moments_are.values.count in omega (arith, w, n)

pub bounds-places-send-2 : goal.bounds-places-send-2
bounds-places-send-2 c =
    let lt : c.in-Some.receive < length c.args.places.now.sends.now = subst (λ o. IfSome o (λ r. r < length c.args.places.now.sends.now)) c.in-Some.is c.requires.received in
    send_within c.args.places.now.merged.now c.requires.places.0 c.args.places.now.moments.now c.args.places.now.sends.now c.requires.places.1 c.in-Some.receive c.in-Some-sends.send
    (slice_get-get_or c.args.places.now.sends.now c.in-Some.receive None lt ∙ ap Some c.in-Some-sends.is)

pub returns : goal.returns
returns c = λ placed host cpu end are has.
    let lt : c.in-Some.receive < length c.args.places.now.sends.now = subst (λ o. IfSome o (λ r. r < length c.args.places.now.sends.now)) c.in-Some.is c.requires.received in
    let at = slice_get-get_or c.args.places.now.sends.now c.in-Some.receive None lt ∙ ap Some c.in-Some-sends.is in
    let w = send_within c.args.places.now.merged.now placed c.args.places.now.moments.now c.args.places.now.sends.now are c.in-Some.receive c.in-Some-sends.send at in
    let n = are.moments_are.values.count in
    let unknown : Moment = record { thread = None; irq = None; softirq = None; receive = None } in
    subst (IsNetLink c.args.places.now.merged.now placed host cpu end) (sym c.sender_link.ensures)
    (net_of c.args.places.now.merged.now placed c.args.places.now.moments.now c.args.places.now.sends.now are host cpu end c.in-Some.receive c.in-Some-sends.send
    (subst (HasReceived c.args.places.now.merged.now placed end host cpu) c.in-Some.is has) at
    _ (slice_get-get_or c.args.places.now.moments.now c.in-Some-sends.send unknown (omega (arith, w, n)))
    _ (slice_get-get_or c.args.places.now.merged.now c.in-Some-sends.send c.index-places-send.result w))
