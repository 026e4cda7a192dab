use Rattle.indexmap.specs.IndexMap.{get}
use Rattle.disk_requests.specs.Requests.{same_target}
use Rattle.disk_requests.proofs.Listed.{listed}
use Rattle.disk_requests.proofs.table.requests.Goals as goal

pub returns : goal.returns
returns c =
    listed c.args.merged.now (get same_target c.note_all.new.waits) c.note_all.new.devices.entries c.in_ok-note_all.ensures.notes c.in_ok-note_all.ensures.unique
    c.in_ok-devices.devices.items c.in_ok-devices.ensures.permutation c.in_ok-devices.ensures.order
