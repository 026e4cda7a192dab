use Rattle.std.proofs.Common.{take}
use Rattle.indexmap.specs.IndexMap.{IsUnique, get}
use Rattle.disk_requests.specs.Requests.{same_disk, same_target}
use Rattle.disk_requests.specs.Notes.{Notes}
use Rattle.disk_requests.proofs.table.note_all.Given as goal

abbrev pub invariant-loop-event : goal.invariant-loop-event
invariant-loop-event l = Notes (take l.event-index l.merged) (get same_target l.waits) (get same_disk l.devices) × IsUnique same_disk l.devices
