-- The folders of a run: one a host, named by its number (this project's own).
use Rattle.std.specs.Prelude.{◌≡◌, ◌<◌, ◌⊎◌, IsSome, ℕ, zero, suc, ◌&&◌, if◌then◌else◌, List, None, Some, codes}
use Rattle.std.specs.Fmt.{decimal}
use Rattle.ht_outside.specs.Files.{Files}
use Rattle.trace_types.specs.Texts.{same_bytes}
use Rattle.trace_gen.specs.declared.events.MadeEvent.{MadeEvent}
use Rattle.trace_gen.specs.Acts.{acts_of}
use Rattle.trace_gen.specs.Events.{made, own, start}
use Rattle.trace_gen.specs.Layout.{file_bytes}
use Rattle.trace_gen.specs.Metadata.{metadata_text}

-- all events of a run
abbrev pub run_events : ℕ → ℕ → ℕ → List MadeEvent
run_events number hosts rounds = made (start number) (acts_of hosts rounds)

-- files, with a host's folder: its metadata and its events
abbrev pub with_host : ℕ → List MadeEvent → Files → Files
with_host host events files dir name =
    if same_bytes (decimal host) dir && same_bytes (codes "channel0_0") name then Some (file_bytes (own host events))
    else if same_bytes (decimal host) dir && same_bytes (codes "metadata") name then Some (metadata_text host)
    else files dir name

-- the folders of the first hosts
abbrev pub folders : ℕ → List MadeEvent → Files
folders zero events = λ dir name. None
folders (suc host) events = with_host host events (folders host events)

-- the same files
abbrev pub AreSame : Files → Files → Type 0
AreSame files others = (dir name : List ℕ) → files dir name ≡ others dir name

-- every host has its metadata and its events, and no other file is there
pub record AreFolders (hosts : ℕ) (events : List MadeEvent) (files : Files) : Type 0 where
  pub metadata : (host : ℕ) → host < hosts → files (decimal host) (codes "metadata") ≡ Some (metadata_text host)
  pub stream : (host : ℕ) → host < hosts → files (decimal host) (codes "channel0_0") ≡ Some (file_bytes (own host events))
  pub only : (dir name : List ℕ) → IsSome (files dir name) → (host : ℕ) × (host < hosts) × (dir ≡ decimal host) × ((name ≡ codes "metadata") ⊎ (name ≡ codes "channel0_0"))
