use Rattle.std.proofs.Common.{◌≡◌, ◌+◌, ◌∙◌, ap, Some, length, slice_get, refl, subst, sym, arith}
use Rattle.std.proofs.lemmas.Option.{slice_get_read}
use Rattle.message_match.proofs.Passes.{sent_at_end, sent_more, sent_next_host, sent_other}
use Rattle.message_match.proofs.SoFar.{SentSoFar}
use Rattle.message_match.proofs.matching.note_sends.Goals as goal
use Rattle.message_match.proofs.matching.note_sends.Goals.{in-Send+in_ok-note_send, in_default, then-place-eq0+in_ok-make_room, else-place-eq0}

pub loop-place-preserved : goal.loop-place-preserved
loop-place-preserved c =
    let hosts = c.args.hosts.now in
    let host = c.host-item.result in
    let event = c.event-item.result in
    let items = c.deref-event-items.result.now in
    let of_host : slice_get hosts c.loop-host.host-index ≡ Some host = slice_get_read hosts (length hosts) c.loop-host.host-index host refl (omega arith) c.host-item.is in
    let there : slice_get items c.loop-place.place ≡ Some event = slice_get_read items (length items) c.loop-place.place event refl (omega arith) c.event-item.is in
    let at : slice_get host.events.items c.loop-place.place ≡ Some event = subst (λ xs. slice_get xs c.loop-place.place ≡ Some event) c.deref-event-items.ensures.value there in
    let same : c.if-place-eq0.segments.entries ≡ c.loop-place.segments.entries = elim c.if-place-eq0.branch [
      | then-place-eq0+in_ok-make_room w ↦ ap (λ m. m.entries) w.segments-is ∙ w.in_ok-make_room.ensures
      | else-place-eq0 w ↦ ap (λ m. m.entries) w.segments-is
    ] in
    let so_far : SentSoFar hosts c.loop-host.host-index c.loop-place.place c.if-place-eq0.segments.entries = subst (SentSoFar hosts c.loop-host.host-index c.loop-place.place) (sym same) c.loop-place.invariant in
    elim c.match-event.branch [
      | in-Send+in_ok-note_send w ↦ subst (λ m. SentSoFar hosts c.loop-host.host-index (c.loop-place.place + 1) m.entries) (sym w.segments-is)
          (subst (SentSoFar hosts c.loop-host.host-index (c.loop-place.place + 1)) (sym w.in_ok-note_send.ensures)
          (sent_more hosts c.loop-host.host-index host of_host c.loop-place.place event at c.if-place-eq0.segments.entries w.in-Send.key (record { time = event.time; host = host.host; place = c.loop-place.place })
          (c.requires.numbered c.loop-host.host-index host of_host) refl refl w.in-Send.is so_far))
      | in_default w ↦ subst (λ m. SentSoFar hosts c.loop-host.host-index (c.loop-place.place + 1) m.entries) (sym w.segments-is)
          (sent_other hosts c.loop-host.host-index host of_host c.loop-place.place event at c.if-place-eq0.segments.entries w.in_default.not-Send so_far)
    ]

pub loop-host-preserved : goal.loop-host-preserved
loop-host-preserved c =
    let hosts = c.args.hosts.now in
    let of_host : slice_get hosts c.loop-host.host-index ≡ Some c.host-item.result = slice_get_read hosts (length hosts) c.loop-host.host-index c.host-item.result refl (omega arith) c.host-item.is in
    sent_next_host hosts c.loop-host.host-index c.host-item.result of_host c.loop-place.place c.loop-place.segments.entries (omega arith) c.loop-place.invariant

pub returns : goal.returns
returns c = sent_at_end c.args.hosts.now c.loop-host.host-index c.loop-host.segments.entries (omega arith) c.loop-host.invariant
