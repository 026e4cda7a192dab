-- What synchronization gives, as a value that has no memory (this project's own).
use Rattle.host_sync.specs.Synced.{Synced}
use Rattle.host_sync.specs.declared.synced.SyncedHosts.{SyncedHosts}

-- what the lists of synchronized hosts have
abbrev pub synced_of : SyncedHosts → Synced
synced_of s = record { matched = s.messages.matched.items; ambiguous = s.messages.ambiguous; fits = s.fits.items; parents = s.forest.items; merged = s.merged.items; placed = s.placed.items }
