-- The traces of folders on one clock, and the trace of an input (this project's own).
use Rattle.std.specs.Prelude.{◌≡◌, ℕ, ◌<◌, ◌≤◌, Contains, Some, List, [], length, map, slice_get}
use Rattle.ht_outside.specs.Files.{Files, bytes_of}
use Rattle.type_scope.specs.Traces.{Trace}
use Rattle.trace_types.specs.declared.limits.TheConstants.{MAX_EVENTS}
use Rattle.trace_types.specs.declared.host.HostEvents.{HostEvents}
use Rattle.message_match.specs.declared.message.Message.{Message}
use Rattle.host_merge.specs.Kept.{IsTreePair}
use Rattle.host_merge.specs.Placed.{inverted_among}
use Rattle.host_merge.specs.declared.placed.Placed.{Placed}
use Rattle.host_sync.specs.Synced.{AreSyncable, IsSynced, Synced}
use Rattle.decode_pool.specs.Limits.{AreHosts, MAX_PACKETS, event_count, packet_count}
use Rattle.decode_pool.specs.declared.hosts.HostFiles.{HostFiles}
use Rattle.event_list.specs.declared.trace.MergedTrace.{MergedTrace}
use Rattle.command_words.specs.declared.command.Input.{Input}
use Rattle.command_words.specs.declared.command.Input.TheVariants as input
use Rattle.hosttrace.specs.Folders.{MAX_HOSTS, metadata_of}
use Rattle.hosttrace.specs.Hosts.{AreTraces}
use Rattle.hosttrace.specs.Inputs.{IsListTrace}
use Rattle.hosttrace.specs.Streams.{AreFolders, AreHostsOf}

-- the files of all hosts together are within the limits of a run
pub record IsWithinLimits (hosts : List HostFiles) : Type 0 where
  pub packets : packet_count hosts ≤ MAX_PACKETS
  pub events : event_count hosts ≤ MAX_EVENTS

-- hosts that can be brought to one clock, and what synchronization by this drift gives of them
pub record IsSyncedCluster (found : List HostEvents) (drift : ℕ) (s : Synced) : Type 0 where
  pub can : AreSyncable found
  pub synced : IsSynced found drift s

-- what the folders' hosts hold, within the limits, and what synchronization by this drift, in parts per million, gives of it
pub record AreSyncedTraces (files : Files) (dirs : List (List ℕ)) (drift : ℕ) (found : List HostEvents) (s : Synced) : Type 0 where
  pub few : length dirs ≤ MAX_HOSTS
  pub hosts : List HostFiles
  pub are_hosts : AreHostsOf files dirs hosts
  pub within : IsWithinLimits hosts
  pub decoded : AreHosts hosts found
  pub synced : IsSynced found drift s

-- each message between a host and its parent has its send at the smaller place
abbrev pub SendsFirst : Synced → Type 0
SendsFirst s = (k : ℕ) (m : Message) (p : Placed) → slice_get s.matched k ≡ Some m → slice_get s.placed k ≡ Some p → IsTreePair s.parents m.from m.to → p.send < p.receive

-- no message between a host and its parent is inverted
abbrev pub NoneInvertedInTrees : Synced → Type 0
NoneInvertedInTrees s = (k : ℕ) (m : Message) → Contains (inverted_among s.placed) k → slice_get s.matched k ≡ Some m → ¬ IsTreePair s.parents m.from m.to

-- the merge of folders' traces, with the names of each host
pub record IsCluster (files : Files) (dirs : List (List ℕ)) (drift : ℕ) (trace : MergedTrace) : Type 0 where
  pub found : List HostEvents
  pub synced : Synced
  pub traces : AreSyncedTraces files dirs drift found synced
  pub events : trace.events.items ≡ synced.merged
  pub names : trace.names.items ≡ map (λ host. host.names.items) found

-- the trace of an input: what the lines of a list tell, or the merge of folders' hosts
abbrev pub IsInput : Input → Files → MergedTrace → Type 0
IsInput (input.List file) files trace = IsListTrace (bytes_of files [] file) trace
IsInput (input.Folders dirs drift) files trace = IsCluster files dirs drift trace

-- the folders are few, can be read, and declare traces, and their hosts are within the limits
pub record IsGoodCluster (files : Files) (dirs : List (List ℕ)) : Type 0 where
  pub few : length dirs ≤ MAX_HOSTS
  pub are_folders : AreFolders files 0 dirs
  pub traces : List Trace
  pub are_traces : AreTraces (map (metadata_of files) dirs) traces
  pub within : (hosts : List HostFiles) → AreHostsOf files dirs hosts → IsWithinLimits hosts

-- what is found of one host is the same: its number and names, its events, what was refused, and how many packets and events
pub record IsSameHost (found other : HostEvents) : Type 0 where
  pub number : found.host ≡ other.host
  pub hostname : found.hostname ≡ other.hostname
  pub names : found.names.items ≡ other.names.items
  pub events : found.events.items ≡ other.events.items
  pub refused : found.refused.items ≡ other.refused.items
  pub packets : found.packets ≡ other.packets
  pub incomplete : found.incomplete ≡ other.incomplete
