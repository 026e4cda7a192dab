-- Made traces, and the summary of what is read of them (this project's own).
use Rattle.std.specs.Prelude.{◌≡◌, ℕ, zero, suc, List, [], ◌∷◌, ◌++◌}
use Rattle.std.specs.Fmt.{decimal}
use Rattle.ht_outside.specs.Files.{Files}
use Rattle.trace_types.specs.declared.host.HostEvents.{HostEvents}
use Rattle.trace_gen.specs.Folders.{folders, run_events}
use Rattle.host_merge.specs.Kept.{KeepsOrder}
use Rattle.host_sync.specs.Synced.{Synced}
use Rattle.report_views.specs.Made.{made_text}
use Rattle.hosttrace.specs.Clusters.{AreSyncedTraces, SendsFirst}

-- the files of traces that are made up from a number: a folder for each of so many hosts, with the events of so many rounds
abbrev pub made_files : ℕ → ℕ → ℕ → Files
made_files number hosts rounds = folders hosts (run_events number hosts rounds)

-- the names of the folders of the first hosts: `0`, `1`, ..
abbrev pub made_folders : ℕ → List (List ℕ)
made_folders zero = []
made_folders (suc host) = made_folders host ++ decimal host ∷ []

-- the summary of made traces that are read as those of folders, by a drift of 1,000 parts per million: how many events all hosts have, how their messages and clocks fit, and how many messages are inverted; each host's events are in its own order, and sends before receives between a host and its parent
pub record IsMakeOutput (number hosts rounds : ℕ) (text : List ℕ) : Type 0 where
  pub found : List HostEvents
  pub synced : Synced
  pub traces : AreSyncedTraces (made_files number hosts rounds) (made_folders hosts) 1000 found synced
  pub keeps_order : KeepsOrder found synced.merged
  pub sends_first : SendsFirst synced
  pub is_text : text ≡ made_text hosts rounds synced.matched synced.ambiguous synced.parents synced.merged synced.placed
