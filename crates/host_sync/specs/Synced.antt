-- Hosts on one clock: their messages, the lines between their clocks, the forest, the merge, and where messages stand in it (trace synchronization, after Trace Compass; the definitions of the parts say their own sources).
use Rattle.std.specs.Prelude.{ℕ, ◌≤◌, ◌+◌, List, [], ◌∷◌, length}
use Rattle.trace_types.specs.declared.limits.TheConstants.{MAX_EVENTS, MAX_HOSTS}
use Rattle.trace_types.specs.declared.event.Merged.{Merged}
use Rattle.trace_types.specs.declared.host.HostEvents.{HostEvents}
use Rattle.message_match.specs.declared.message.Message.{Message}
use Rattle.message_match.specs.Messages.{AreMessages, AreNumbered}
use Rattle.hull_lines.specs.declared.outcome.Fit.{Fit}
use Rattle.host_tree.specs.declared.parent.Parent.{Parent}
use Rattle.host_tree.specs.Fits.{AreFits}
use Rattle.host_tree.specs.Forest.{AreParents}
use Rattle.host_merge.specs.declared.placed.Placed.{Placed}
use Rattle.host_merge.specs.Kept.{AreFromOne, AreInTime, AreOwn}
use Rattle.host_merge.specs.Merge.{HaveTimes, IsMergeOf}
use Rattle.host_merge.specs.Placed.{ArePlaced}

-- how many events the hosts have together
abbrev pub total_events : List HostEvents → ℕ
total_events [] = 0
total_events (host ∷ hosts) = length host.events.items + total_events hosts

-- hosts that can be brought to one clock: each one's number is its place, its events are its own, in order of time, with times from 1 to 2^62 - 1, and they aren't too many
pub record AreSyncable (hosts : List HostEvents) : Type 0 where
  pub few_hosts : length hosts ≤ MAX_HOSTS
  pub few_events : total_events hosts ≤ MAX_EVENTS
  pub numbered : AreNumbered hosts
  pub own : AreOwn hosts
  pub in_time : AreInTime hosts
  pub from_one : AreFromOne hosts
  pub times : HaveTimes hosts

-- what synchronization gives of hosts
pub record Synced : Type 0 where
  pub matched : List Message
  pub ambiguous : ℕ
  pub fits : List Fit
  pub parents : List Parent
  pub merged : List Merged
  pub placed : List Placed

-- the messages of the hosts, the fit of each pair by the drift in parts per million, the forest over these, the merge over the forest, and the places of the messages in it
pub record IsSynced (hosts : List HostEvents) (drift : ℕ) (s : Synced) : Type 0 where
  pub messages : AreMessages hosts s.matched s.ambiguous
  pub fits_are : AreFits (length hosts) s.matched drift s.fits
  pub forest : AreParents (length hosts) s.fits s.parents
  pub merge : IsMergeOf s.parents hosts s.merged
  pub places : ArePlaced s.merged s.matched s.placed
