-- What holds of hosts that are brought to one clock (this project's own).
use Rattle.std.specs.Prelude.{ℕ, ◌≡◌, ◌<◌, ◌≤◌, Contains, Some, List, length, map, slice_get}
use Rattle.trace_types.specs.declared.limits.TheConstants.{MAX_EVENTS, MAX_HOSTS}
use Rattle.trace_types.specs.declared.host.HostEvents.{HostEvents}
use Rattle.message_match.specs.declared.message.Message.{Message}
use Rattle.clock_fraction.specs.Fractions.{IsSame}
use Rattle.host_tree.specs.declared.parent.Parent.{Parent}
use Rattle.host_tree.specs.declared.parent.Parent.TheVariants.{Root, Child}
use Rattle.host_tree.specs.Order.{HaveSamePairs}
use Rattle.host_merge.specs.declared.placed.Placed.{Placed}
use Rattle.host_merge.specs.Kept.{IsTreePair, KeepsOrder}
use Rattle.host_merge.specs.Placed.{inverted_among}
use Rattle.decode_pool.specs.declared.hosts.HostFiles.{HostFiles}
use Rattle.decode_pool.specs.Limits.{AreHosts, event_count}
use Rattle.event_list.specs.Lines.{IsEventList}
use Rattle.event_list.specs.Names.{lines_of, names_at}
use Rattle.event_list.specs.Written.{SpellBytes, parsed_lines_of}
use Rattle.host_sync.specs.Synced.{AreSyncable, IsSynced, Synced}

-- each host's number is its place in the list
abbrev pub FilesAreNumbered : List HostFiles → Type 0
FilesAreNumbered hosts = (k : ℕ) (host : HostFiles) → slice_get hosts k ≡ Some host → host.host ≡ k

-- what is decoded of hosts can be brought to one clock
abbrev pub DecodedAreSyncable : Type 0
DecodedAreSyncable = (files : List HostFiles) (hosts : List HostEvents) → AreHosts files hosts → FilesAreNumbered files → length files ≤ MAX_HOSTS → event_count files ≤ MAX_EVENTS → AreSyncable hosts

-- the merge has each host's events in their order, and no others
abbrev pub SyncedKeepOrder : Type 0
SyncedKeepOrder = (hosts : List HostEvents) (drift : ℕ) (s : Synced) → AreSyncable hosts → IsSynced hosts drift s → KeepsOrder hosts s.merged

-- of a message between a host and its parent, the send stands before the receive, and it isn't inverted
abbrev pub SyncedSendsFirst : Type 0
SyncedSendsFirst = (hosts : List HostEvents) (drift : ℕ) (s : Synced) → AreSyncable hosts → IsSynced hosts drift s
    → (k : ℕ) (m : Message) (p : Placed) → slice_get s.matched k ≡ Some m → slice_get s.placed k ≡ Some p → IsTreePair s.parents m.from m.to → (p.send < p.receive) × ¬ Contains (inverted_among s.placed) k

-- both are roots, or both have one parent and lines of the same slopes to its clock
abbrev pub IsSameParentAndSlopes : Parent → Parent → Type 0
IsSameParentAndSlopes Root Root = Unit {0}
IsSameParentAndSlopes Root (Child q n) = ⊥
IsSameParentAndSlopes (Child p m) Root = ⊥
IsSameParentAndSlopes (Child p m) (Child q n) = (p ≡ q) × IsSame m.steep.slope n.steep.slope × IsSame m.flat.slope n.flat.slope

-- hosts and a drift have one answer, but for the points by which lines and contradictions are told
pub record IsOneAnswer (hosts : List HostEvents) (s z : Synced) : Type 0 where
  pub matched : s.matched ≡ z.matched
  pub ambiguous : s.ambiguous ≡ z.ambiguous
  pub pairs : HaveSamePairs (length hosts) s.fits z.fits
  pub parents : (host : ℕ) (p q : Parent) → slice_get s.parents host ≡ Some p → slice_get z.parents host ≡ Some q → IsSameParentAndSlopes p q
  pub count : length s.parents ≡ length z.parents
  pub merged : s.merged ≡ z.merged
  pub placed : s.placed ≡ z.placed

-- all that synchronization may give of the same hosts and drift is one answer
abbrev pub HaveOneAnswer : Type 0
HaveOneAnswer = (hosts : List HostEvents) (drift : ℕ) (s z : Synced) → AreSyncable hosts → IsSynced hosts drift s → IsSynced hosts drift z → IsOneAnswer hosts s z

-- the event names of each host
abbrev pub names_of_hosts : List HostEvents → ℕ → List (List ℕ)
names_of_hosts hosts = names_at (map (λ host. host.names.items) hosts)

-- what is written of the merge of decoded hosts is a list of events
abbrev pub SyncedReadAgain : Type 0
SyncedReadAgain = (files : List HostFiles) (hosts : List HostEvents) (drift : ℕ) (s : Synced) → AreHosts files hosts → FilesAreNumbered files → length files ≤ MAX_HOSTS → event_count files ≤ MAX_EVENTS → IsSynced hosts drift s
    → SpellBytes (names_of_hosts hosts) s.merged → IsEventList (lines_of (names_of_hosts hosts) s.merged) (parsed_lines_of (names_of_hosts hosts) s.merged)
