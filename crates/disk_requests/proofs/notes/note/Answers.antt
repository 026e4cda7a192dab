use Rattle.std.proofs.Common.{◌+◌, subst, sym}
use Rattle.indexmap.specs.IndexMap.{get}
use Rattle.disk_requests.specs.Requests.{same_disk}
use Rattle.disk_requests.specs.Steps.{IsSmall}
use Rattle.disk_requests.proofs.Room.{small_later, small_put}
use Rattle.disk_requests.proofs.notes.note.Goals as goal
use Rattle.disk_requests.proofs.notes.note.Goals.{in-Some, in-None}

pub returns-in_ok-insert-in-Issue-2-clause-small : goal.returns-in_ok-insert-in-Issue-2-clause-small
returns-in_ok-insert-in-Issue-2-clause-small c n all =
    small_put n (get same_disk c.args.devices.now) _ c.in-Issue.target.disk c.with_issue-device.result all
    (c.with_issue-device.ensures.small n (subst (IsSmall n) (sym c.device_in.ensures) (all c.in-Issue.target.disk))) c.in_ok-insert-in-Issue-2.ensures.updates.0

pub returns-in_ok-insert-in-Done-clause-small : goal.returns-in_ok-insert-in-Done-clause-small
returns-in_ok-insert-in-Done-clause-small c n all =
    let before = subst (IsSmall n) (sym c.device_in-device.ensures) (all c.in-Done.target.disk) in
    small_put n (get same_disk c.args.devices.now) _ c.in-Done.target.disk c.match-swap_remove.device all
    (elim c.match-swap_remove.branch [
      | in-Some w ↦ subst (IsSmall (n + 1)) (sym w.device-is) (w.with_served-device.ensures.small n before)
      | in-None w ↦ subst (IsSmall (n + 1)) (sym w.device-is) (w.with_lone_done-device.ensures.small n before)
    ])
    c.in_ok-insert-in-Done.ensures.updates.0

pub returns-in-Other-clause-small : goal.returns-in-Other-clause-small
returns-in-Other-clause-small c n all d = small_later n _ (all d)
