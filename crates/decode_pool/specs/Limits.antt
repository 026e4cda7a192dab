-- The limits of a run on packets and on events, and what its hosts' files hold within them (this project's own).
pub use Rattle.packet_decoder.specs.Packets.{packets_in}
use Rattle.std.specs.Prelude.{ℕ, ◌+◌, List, [], ◌∷◌, length}
use Rattle.std.specs.List.{AllByRecursion}
use Rattle.type_table.specs.TraceMetas.{TraceMetaModel}
use Rattle.trace_types.specs.declared.host.HostEvents.{HostEvents}
use Rattle.packet_decoder.specs.Pieces.{pieces}
use Rattle.decode_pool.specs.declared.files.FileBytes.{FileBytes}
use Rattle.decode_pool.specs.declared.hosts.HostFiles.{HostFiles}
use Rattle.decode_pool.specs.Hosts.{IsHost, IsSmall, all_events}

abbrev pub MAX_PACKETS : ℕ
MAX_PACKETS = 1048576

abbrev pub HasSmallFiles : HostFiles → Type 0
HasSmallFiles host = AllByRecursion IsSmall host.files.items

abbrev pub host_packets : TraceMetaModel → List FileBytes → ℕ
host_packets meta [] = 0
host_packets meta (f ∷ fs) = packets_in (pieces meta f.bytes.items) + host_packets meta fs

abbrev pub packet_count : List HostFiles → ℕ
packet_count [] = 0
packet_count (h ∷ hs) = host_packets h.meta h.files.items + packet_count hs

-- accepted events and marks
abbrev pub event_count : List HostFiles → ℕ
event_count [] = 0
event_count (h ∷ hs) = length (all_events h.host h.meta h.files.items) + event_count hs

-- the events of lists
abbrev pub list_events : List HostEvents → ℕ
list_events [] = 0
list_events (f ∷ fs) = length f.events.items + list_events fs

-- for each host what its files hold
abbrev pub AreHosts : List HostFiles → List HostEvents → Type 0
AreHosts [] [] = Unit {0}
AreHosts (h ∷ hs) (f ∷ fs) = IsHost h f × AreHosts hs fs
AreHosts _ _ = ⊥
