use Rattle.std.proofs.Common.{◌≡◌, ◌+◌, Some, length, slice_get, refl, subst, sym, arith}
use Rattle.std.proofs.lemmas.Option.{slice_get_read}
use Rattle.message_match.proofs.Passes.{received_at_end, received_at_start, received_more, received_next_host, received_other}
use Rattle.message_match.proofs.SoFar.{ReceivedSoFar}
use Rattle.message_match.proofs.matching.note_receives.Goals as goal
use Rattle.message_match.proofs.matching.note_receives.Goals.{in-Receive, in_default}

pub loop-host-init : goal.loop-host-init
loop-host-init c = received_at_start c.args.hosts.now c.args.segments.now.entries c.requires.sent

pub overflow_cast-receive : goal.overflow_cast-receive
overflow_cast-receive c =
    let hosts = c.args.hosts.now in
    let of_host : slice_get hosts c.loop-host.host-index ≡ Some c.host-item.result = slice_get_read hosts (length hosts) c.loop-host.host-index c.host-item.result refl (omega arith) c.host-item.is in
    omega (arith, c.requires.small c.loop-host.host-index c.host-item.result of_host)

pub loop-place-preserved : goal.loop-place-preserved
loop-place-preserved c =
    let hosts = c.args.hosts.now in
    let host = c.host-item.result in
    let event = c.event-item.result in
    let items = c.deref-event-items.result.now in
    let of_host : slice_get hosts c.loop-host.host-index ≡ Some host = slice_get_read hosts (length hosts) c.loop-host.host-index host refl (omega arith) c.host-item.is in
    let there : slice_get items c.loop-place.place ≡ Some event = slice_get_read items (length items) c.loop-place.place event refl (omega arith) c.event-item.is in
    let at : slice_get host.events.items c.loop-place.place ≡ Some event = subst (λ xs. slice_get xs c.loop-place.place ≡ Some event) c.deref-event-items.ensures.value there in
    elim c.match-event.branch [
      | in-Receive w ↦ subst (λ m. ReceivedSoFar hosts c.loop-host.host-index (c.loop-place.place + 1) m.entries) (sym w.segments-is)
          (subst (ReceivedSoFar hosts c.loop-host.host-index (c.loop-place.place + 1)) (sym w.note_receive-guess.ensures)
          (received_more hosts c.loop-host.host-index host of_host c.loop-place.place event at c.loop-place.segments.entries w.in-Receive.key (record { time = event.time; host = host.host; place = c.loop-place.place })
          (c.requires.numbered c.loop-host.host-index host of_host) refl refl w.in-Receive.is c.loop-place.invariant))
      | in_default w ↦ subst (λ m. ReceivedSoFar hosts c.loop-host.host-index (c.loop-place.place + 1) m.entries) (sym w.segments-is)
          (received_other hosts c.loop-host.host-index host of_host c.loop-place.place event at c.loop-place.segments.entries w.in_default.not-Receive c.loop-place.invariant)
    ]

pub loop-host-preserved : goal.loop-host-preserved
loop-host-preserved c =
    let hosts = c.args.hosts.now in
    let of_host : slice_get hosts c.loop-host.host-index ≡ Some c.host-item.result = slice_get_read hosts (length hosts) c.loop-host.host-index c.host-item.result refl (omega arith) c.host-item.is in
    received_next_host hosts c.loop-host.host-index c.host-item.result of_host c.loop-place.place c.loop-place.segments.entries (omega arith) c.loop-place.invariant

pub returns : goal.returns
returns c = received_at_end c.args.hosts.now c.loop-host.host-index c.loop-host.segments.entries (omega arith) c.loop-host.invariant
