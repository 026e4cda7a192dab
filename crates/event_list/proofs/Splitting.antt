-- One more event goes to its host and to no other.
use Rattle.std.proofs.Common.{◌≡◌, ◌≢◌, ℕ, zero, suc, ◌+◌, ◌<◌, ◌≤◌, Bool, true, false, if◌then◌else◌, List, [], ◌∷◌, ◌++◌, length, refl, sym, ap, subst, ◌∙◌, append-nil, arith, Result, Ok, Err, OnOk}
use Rattle.std.specs.List.{AllByRecursion}
use Rattle.std.specs.Prelude.{◌==◌, slice_index_or, slice_set}
use Rattle.std.proofs.lemmas.Bool.{eqb-false, eqb-true}
use Rattle.trace_types.specs.declared.event.Event.{Event}
use Rattle.trace_types.specs.declared.event.Merged.{Merged}
use Rattle.trace_types.specs.declared.host.HostEvents.{HostEvents}
use Rattle.event_list.specs.declared.parsed_line.ParsedLine.{ParsedLine}
use Rattle.event_list.specs.declared.trace.MergedTrace.{MergedTrace}
use Rattle.event_list.specs.Names.{IsTrace}
use Rattle.event_list.specs.Order.{host_count}
use Rattle.event_list.specs.Splits.{AreHostsFrom, IsHostOf, events_at}

-- what the last event adds to a host
last_at : ℕ → Merged → List Event
last_at host m = if m.event.host == host then m.event ∷ [] else []

behind : (host : ℕ) (ms : List Merged) (m : Merged) → events_at host (ms ++ m ∷ []) ≡ events_at host ms ++ last_at host m
unfolding last_at
behind host [] m = refl
behind host (n ∷ ms) m = by (n.event.host == host) (behind host ms m)
  where
    by : (b : Bool) → events_at host (ms ++ m ∷ []) ≡ events_at host ms ++ last_at host m → (if b then n.event ∷ events_at host (ms ++ m ∷ []) else events_at host (ms ++ m ∷ [])) ≡ (if b then n.event ∷ events_at host ms else events_at host ms) ++ last_at host m
    by true rest = ap (λ es. n.event ∷ es) rest
    by false rest = rest

own : (host : ℕ) (m : Merged) → m.event.host ≡ host → last_at host m ≡ m.event ∷ []
unfolding last_at
own host m e = by (m.event.host == host) refl
  where
    by : (b : Bool) → (m.event.host == host) ≡ b → (if b then m.event ∷ [] else []) ≡ m.event ∷ []
    by true is = refl
    by false is = absurd (eqb-false m.event.host host is e)

foreign : (host : ℕ) (m : Merged) → m.event.host ≢ host → last_at host m ≡ []
unfolding last_at
foreign host m other = by (m.event.host == host) refl
  where
    by : (b : Bool) → (m.event.host == host) ≡ b → (if b then m.event ∷ [] else []) ≡ []
    by true is = absurd (other (eqb-true m.event.host host is))
    by false is = refl

-- a host that the event isn't of
left_alone : (m : Merged) (ms : List Merged) (host : ℕ) (list : List (List ℕ)) (found : HostEvents) → m.event.host ≢ host → IsHostOf ms host list found → IsHostOf (ms ++ m ∷ []) host list found
left_alone m ms host list found other is = record {
  number = is.number;
  hostname = is.hostname;
  names = is.names;
  events = is.events ∙ sym (behind host ms m ∙ (ap (λ es. events_at host ms ++ es) (foreign host m other) ∙ append-nil (events_at host ms)));
  refused = is.refused;
  packets = is.packets;
  incomplete = is.incomplete;
}

-- hosts after the event's own
all_alone : (m : Merged) (ms : List Merged) (first : ℕ) (lists : List (List (List ℕ))) (hosts : List HostEvents) → m.event.host < first → AreHostsFrom ms first lists hosts → AreHostsFrom (ms ++ m ∷ []) first lists hosts
all_alone m ms first [] [] below are = tt
all_alone m ms first (list ∷ lists) (host ∷ hosts) below are =
    (left_alone m ms first list host (λ e. omega (arith, below, e)) are.0, all_alone m ms (suc first) lists hosts (omega (arith, below)) are.1)
all_alone m ms first [] (host ∷ hosts) below are = absurd are
all_alone m ms first (list ∷ lists) [] below are = absurd are

-- the event's own host
pushed : (m : Merged) (ms : List Merged) (host : ℕ) (list : List (List ℕ)) (old new : HostEvents) → m.event.host ≡ host → new ≡ record old { events = new.events } → new.events.items ≡ old.events.items ++ m.event ∷ [] → IsHostOf ms host list old → IsHostOf (ms ++ m ∷ []) host list new
pushed m ms host list old new e same more is = record {
  number = ap (λ h. h.host) same ∙ is.number;
  hostname = ap (λ h. h.hostname) same ∙ is.hostname;
  names = ap (λ h. h.names.items) same ∙ is.names;
  events = more ∙ ap (λ es. es ++ m.event ∷ []) is.events ∙ sym (behind host ms m ∙ ap (λ es. events_at host ms ++ es) (own host m e));
  refused = ap (λ h. h.refused.items) same ∙ is.refused;
  packets = ap (λ h. h.packets) same ∙ is.packets;
  incomplete = ap (λ h. h.incomplete) same ∙ is.incomplete;
}

pub one_more : (m : Merged) (ms : List Merged) (first : ℕ) (lists : List (List (List ℕ))) (hosts : List HostEvents) (k : ℕ) (old new : HostEvents) → m.event.host ≡ first + k → k < length hosts → old ≡ slice_index_or hosts k old
    → new ≡ record old { events = new.events } → new.events.items ≡ old.events.items ++ m.event ∷ []
    → AreHostsFrom ms first lists hosts → AreHostsFrom (ms ++ m ∷ []) first lists (slice_set hosts k new)
one_more m ms first lists [] k old new e below at same more are = absurd (omega (arith, below))
one_more m ms first [] (host ∷ hosts) k old new e below at same more are = absurd are
one_more m ms first (list ∷ lists) (host ∷ hosts) zero old new e below at same more are =
    (pushed m ms first list old new (omega (arith, e)) same more (subst (IsHostOf ms first list) (sym at) are.0), all_alone m ms (suc first) lists hosts (omega (arith, e)) are.1)
one_more m ms first (list ∷ lists) (host ∷ hosts) (suc k) old new e below at same more are =
    (left_alone m ms first list host (λ is. omega (arith, e, is)) are.0, one_more m ms (suc first) lists hosts k old new (omega (arith, e)) (omega (arith, below)) at same more are.1)

-- a host without events after others
pub host_behind : (ms : List Merged) (first : ℕ) (lists : List (List (List ℕ))) (hosts : List HostEvents) (list : List (List ℕ)) (found : HostEvents) → AreHostsFrom ms first lists hosts → (n : ℕ) → n ≡ first + length hosts → IsHostOf ms n list found → AreHostsFrom ms first (lists ++ list ∷ []) (hosts ++ found ∷ [])
host_behind ms first [] [] list found are n e is = (let same : n ≡ first = omega (arith, e) in subst (λ k. IsHostOf ms k list found) same is, tt)
host_behind ms first (l ∷ lists) (h ∷ hosts) list found are n e is = (are.0, host_behind ms (suc first) lists hosts list found are.1 n (omega (arith, e)) is)
host_behind ms first [] (h ∷ hosts) list found are n e is = absurd are
host_behind ms first (l ∷ lists) [] list found are n e is = absurd are

pub both_ok : {A E : Type 0} {P Q S : Type 0} (r : Result A E) → (P → Q → S) → OnOk r P → OnOk r Q → OnOk r S
both_ok (Ok x) f p q = f p q
both_ok (Err e) f p q = tt

pub as_many : (ms : List Merged) (first : ℕ) (lists : List (List (List ℕ))) (hosts : List HostEvents) → AreHostsFrom ms first lists hosts → length hosts ≡ length lists
as_many ms first [] [] are = refl
as_many ms first (list ∷ lists) (host ∷ hosts) are = ap suc (as_many ms (suc first) lists hosts are.1)
as_many ms first [] (host ∷ hosts) are = absurd are
as_many ms first (list ∷ lists) [] are = absurd are

pub each_below : (n : ℕ) (ms : List Merged) (i : ℕ) (m : Merged) → AllByRecursion (λ m. m.event.host < n) ms → i < length ms → m ≡ slice_index_or ms i m → m.event.host < n
each_below n [] i m all below at = absurd (omega (arith, below))
each_below n (x ∷ ms) zero m all below at = subst (λ k. k.event.host < n) (sym at) all.0
each_below n (x ∷ ms) (suc i) m all below at = each_below n ms i m all.1 (omega (arith, below)) at

hosts_below : (n : ℕ) (ms : List Merged) → host_count ms ≤ n → AllByRecursion (λ m. m.event.host < n) ms
hosts_below n [] h = tt
hosts_below n (m ∷ ms) h = (omega (arith, h), hosts_below n ms (omega (arith, h)))

-- the hosts of a list that was read have names
pub have_names : (parsed_lines : List ParsedLine) (trace : MergedTrace) → IsTrace parsed_lines trace → AllByRecursion (λ m. m.event.host < length trace.names.items) trace.events.items
have_names parsed_lines trace t = hosts_below (length trace.names.items) trace.events.items (omega (arith, t.hosts))
