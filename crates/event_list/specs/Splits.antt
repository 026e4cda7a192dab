-- The events of a merge, taken apart by their hosts (this project's own).
use Rattle.std.specs.Prelude.{◌≡◌, ◌==◌, ℕ, suc, List, [], ◌∷◌, if◌then◌else◌}
use Rattle.trace_types.specs.declared.event.Event.{Event}
use Rattle.trace_types.specs.declared.event.Merged.{Merged}
use Rattle.trace_types.specs.declared.host.HostEvents.{HostEvents}

-- the events of one host, in their order
abbrev pub events_at : ℕ → List Merged → List Event
events_at host [] = []
events_at host (m ∷ ms) = if m.event.host == host then m.event ∷ events_at host ms else events_at host ms

-- a host with this number and these names has its events of the merge; nothing is known of its hostname and its packets
pub record IsHostOf (ms : List Merged) (host : ℕ) (list : List (List ℕ)) (found : HostEvents) : Type 0 where
  pub number : found.host ≡ host
  pub hostname : found.hostname ≡ []
  pub names : found.names.items ≡ list
  pub events : found.events.items ≡ events_at host ms
  pub refused : found.refused.items ≡ []
  pub packets : found.packets ≡ 0
  pub incomplete : found.incomplete ≡ 0

-- one host for each list of names, numbered from `first` on
abbrev pub AreHostsFrom : List Merged → ℕ → List (List (List ℕ)) → List HostEvents → Type 0
AreHostsFrom ms first [] [] = Unit {0}
AreHostsFrom ms first (names ∷ lists) (host ∷ hosts) = IsHostOf ms first names host × AreHostsFrom ms (suc first) lists hosts
AreHostsFrom ms first _ _ = ⊥
