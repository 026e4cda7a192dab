-- The events of a host, of all of its files (the order of the files is that of their names' bytes, where they come from a folder; this project's own).
use Rattle.std.specs.Prelude.{◌≡◌, ◌≤◌, ◌^◌, ◌+◌, ℕ, List, [], ◌∷◌, ◌++◌, length, map, unwrap_or}
use Rattle.type_table.specs.TraceMetas.{TraceMetaModel}
use Rattle.trace_types.specs.declared.event.Event.{Event}
use Rattle.trace_types.specs.declared.host.HostEvents.{HostEvents}
use Rattle.trace_types.specs.declared.host.RefusedPacket.{RefusedPacket}
use Rattle.stable_sort.specs.Sorted.{sorted}
use Rattle.decode_pool.specs.declared.files.FileBytes.{FileBytes}
use Rattle.decode_pool.specs.declared.hosts.HostFiles.{HostFiles}
use Rattle.decode_pool.specs.declared.decoded_packet.AcceptedPacket.{AcceptedPacket}
use Rattle.decode_pool.specs.declared.decoded_packet.DecodedPacket.{DecodedPacket}
use Rattle.decode_pool.specs.declared.decoded_packet.DecodedPacket.TheVariants as part
use Rattle.decode_pool.specs.Parts.{parts_of}
use Rattle.decode_pool.specs.Marks.{file_events, accepted_in}

-- a file of at most 2^60 bytes
abbrev pub IsSmall : FileBytes → Type 0
IsSmall f = length f.bytes.items ≤ 2 ^ 60

-- what was refused in a file
abbrev pub refused_in : List ℕ → List DecodedPacket → List RefusedPacket
refused_in name [] = []
refused_in name (part.Accepted k ∷ ps) = refused_in name ps
refused_in name (part.Refused offset cause ∷ ps) = record { file = name; offset = offset; cause = cause } ∷ refused_in name ps

-- how many events of packets lack a field
abbrev pub incomplete_in : List AcceptedPacket → ℕ
incomplete_in [] = 0
incomplete_in (k ∷ ks) = k.incomplete + incomplete_in ks

-- ---- of all files, one after the other

-- what their pieces hold, and how many pieces each has
abbrev pub all_parts : ℕ → TraceMetaModel → List FileBytes → List DecodedPacket
all_parts host meta [] = []
all_parts host meta (f ∷ fs) = parts_of host meta f.bytes.items ++ all_parts host meta fs

abbrev pub part_counts : ℕ → TraceMetaModel → List FileBytes → List ℕ
part_counts host meta fs = map (λ f. length (parts_of host meta f.bytes.items)) fs

abbrev pub all_events : ℕ → TraceMetaModel → List FileBytes → List Event
all_events host meta [] = []
all_events host meta (f ∷ fs) = file_events (parts_of host meta f.bytes.items) ++ all_events host meta fs

abbrev pub all_refused : ℕ → TraceMetaModel → List FileBytes → List RefusedPacket
all_refused host meta [] = []
all_refused host meta (f ∷ fs) = refused_in f.name (parts_of host meta f.bytes.items) ++ all_refused host meta fs

abbrev pub all_packets : ℕ → TraceMetaModel → List FileBytes → ℕ
all_packets host meta [] = 0
all_packets host meta (f ∷ fs) = length (accepted_in (parts_of host meta f.bytes.items)) + all_packets host meta fs

abbrev pub all_incomplete : ℕ → TraceMetaModel → List FileBytes → ℕ
all_incomplete host meta [] = 0
all_incomplete host meta (f ∷ fs) = incomplete_in (accepted_in (parts_of host meta f.bytes.items)) + all_incomplete host meta fs

-- a host's number, its name and the names of its events
pub record IsCalledAs (host : HostFiles) (found : HostEvents) : Type 0 where
  pub number : found.host ≡ host.host
  pub hostname : found.hostname ≡ unwrap_or host.meta.declared.hostname []
  pub names : found.names.items ≡ host.meta.declared.event_names

-- what a host's files hold together
pub record IsHost (host : HostFiles) (found : HostEvents) : Type 0 where
  pub number : found.host ≡ host.host
  pub hostname : found.hostname ≡ unwrap_or host.meta.declared.hostname []
  pub names : found.names.items ≡ host.meta.declared.event_names
  pub events : found.events.items ≡ sorted (λ e. e.time) (all_events host.host host.meta host.files.items)
  pub refused : found.refused.items ≡ all_refused host.host host.meta host.files.items
  pub packets : found.packets ≡ all_packets host.host host.meta host.files.items
  pub incomplete : found.incomplete ≡ all_incomplete host.host host.meta host.files.items
