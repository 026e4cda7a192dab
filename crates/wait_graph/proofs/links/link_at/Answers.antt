use Rattle.std.proofs.Common.{◌≡◌, ◌∙◌, None, get_or, true≢false, subst, sym, arith}
use Rattle.std.proofs.lemmas.Option.{slice_get-get_or}
use Rattle.wait_graph.specs.declared.moment.Moment.{Moment}
use Rattle.trace_types.specs.declared.event.Merged.{Merged}
use Rattle.wait_graph.specs.Links.{IsLinkAt}
use Rattle.wait_graph.proofs.LinkFacts.{one_event, received_within, link_of}
use Rattle.wait_graph.proofs.links.link_at.Goals as goal

pub wake_link-requires-clause-received : goal.wake_link-requires-clause-received
wake_link-requires-clause-received c =
    let n = c.requires.places.1.moments_are.values.count in
    let w = c.requires.within in
    let unknown : Moment = record { thread = None; irq = None; softirq = None; receive = None } in
    received_within c.args.places.now.merged.now c.requires.places.0 c.args.places.now.moments.now c.args.places.now.sends.now c.requires.places.1 c.args.end _
    (slice_get-get_or c.args.places.now.moments.now c.args.end unknown (omega (arith, w, n)))

pub returns : goal.returns
returns c = λ placed e are there.
    let n = are.moments_are.values.count in
    let w = c.requires.within in
    let unknown : Moment = record { thread = None; irq = None; softirq = None; receive = None } in
    let x = get_or c.args.places.now.merged.now c.args.end c.index-places-end.result in
    let at = slice_get-get_or c.args.places.now.merged.now c.args.end c.index-places-end.result w in
    let at_moment = slice_get-get_or c.args.places.now.moments.now c.args.end unknown (omega (arith, w, n)) in
    let same : x ≡ e = one_event c.args.places.now.merged.now c.args.end x e at there in
    subst (λ (y : Merged). IsLinkAt c.args.places.now.merged.now placed y.event.host c.args.tid c.args.end c.wake_link.result) same
    (link_of c.args.places.now.merged.now placed c.args.places.now.moments.now c.args.places.now.sends.now are c.args.tid c.args.end x _ c.wake_link.result at at_moment
    (λ woken has. c.wake_link.ensures placed x.event.cpu c.args.end are has)
    (λ alone. absurd (true≢false (sym c.if-not-wakes.false ∙ (c.wakes.ensures ∙ alone)))))
