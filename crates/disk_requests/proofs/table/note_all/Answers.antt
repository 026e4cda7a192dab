use Rattle.std.proofs.Common.{◌≡◌, ◌+◌, ◌++◌, ◌∷◌, ◌∙◌, ◌^◌, ◌<◌, [], ap, arith, length, length-take, subst, sym, take}
use Rattle.std.proofs.lemmas.List.{take_more}
use Rattle.indexmap.specs.IndexMap.{get}
use Rattle.disk_requests.specs.Notes.{Notes}
use Rattle.disk_requests.specs.Requests.{same_disk, same_target}
use Rattle.disk_requests.specs.Steps.{CanTake, rows_after, waits_after}
use Rattle.disk_requests.proofs.Taken.{at_first, can_take, taken}
use Rattle.disk_requests.proofs.table.note_all.Goals as goal

pub loop-event-init : goal.loop-event-init
loop-event-init c = (at_first c.args.waits.now.entries c.args.devices.now.entries c.requires.waits c.requires.devices, c.requires.unique)

pub note-requires-clause-room : goal.note-requires-clause-room
note-requires-clause-room c =
    let seen = take c.loop-event.event-index c.args.merged.now in
    let waits = get same_target c.loop-event.waits in
    let rows = get same_disk c.loop-event.devices in
    let few : length seen < 2 ^ 63 = omega (arith, length-take c.loop-event.event-index c.args.merged.now) in
    subst (λ a. CanTake a waits rows) (sym c.act_of.ensures) (can_take seen waits rows c.loop-event.invariant.0 c.event-item.result few)

pub loop-event-preserved : goal.loop-event-preserved
loop-event-preserved c =
    let merged = c.args.merged.now in
    let at = c.loop-event.event-index in
    let m = c.event-item.result in
    let waits = get same_target c.loop-event.waits in
    let rows = get same_disk c.loop-event.devices in
    let all : take (at + 1) merged ≡ take at merged ++ m ∷ [] = take_more merged at m c.loop-event-test.true ∙ ap (λ e. take at merged ++ e ∷ []) (sym c.event-item.is) in
    let noted = taken (take at merged) waits rows c.loop-event.invariant.0 m (get same_target c.note.new.waits) (get same_disk c.note.new.devices)
    (λ t. c.in_ok-note.ensures.waits t ∙ ap (λ a. waits_after m.key a waits t) c.act_of.ensures)
    (λ d. c.in_ok-note.ensures.devices d ∙ ap (λ a. rows_after m.key a waits rows d) c.act_of.ensures)
    c.in_ok-note.ensures.small in
    (subst (λ es. Notes es (get same_target c.note.new.waits) (get same_disk c.note.new.devices)) (sym all) noted, c.in_ok-note.ensures.unique)
