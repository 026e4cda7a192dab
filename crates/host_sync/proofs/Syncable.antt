-- What is decoded of hosts can be brought to one clock.
use Rattle.std.proofs.Common.{◌≡◌, ℕ, zero, suc, Bool, true, false, if◌then◌else◌, Some, List, [], ◌∷◌, length, map, nat_lt, slice_get, refl, sym, ◌∙◌, ap, subst, arith}
use Rattle.std.specs.List.{AllByRecursion}
use Rattle.trace_types.specs.Order.{RiseFrom}
use Rattle.trace_types.specs.declared.event.Event.{Event}
use Rattle.trace_types.specs.declared.host.HostEvents.{HostEvents}
use Rattle.stable_sort.specs.Sorted.{put_in, sorted}
use Rattle.stable_sort.proofs.Lengths.{length_sorted}
use Rattle.stable_sort.proofs.Unique.{InOrder, NoneBelow, sorted_rises}
use Rattle.decode_pool.specs.declared.hosts.HostFiles.{HostFiles}
use Rattle.decode_pool.specs.Hosts.{IsHost, all_events}
use Rattle.decode_pool.specs.Limits.{AreHosts, event_count}
use Rattle.host_merge.specs.Kept.{HasListed}
use Rattle.host_merge.specs.Merge.{with_own_time}
use Rattle.host_sync.specs.Laws.{DecodedAreSyncable}
use Rattle.host_sync.specs.Synced.{total_events}
use Rattle.host_sync.proofs.Decoded.{IsDecoded, all_decoded}
use Rattle.host_sync.proofs.Elements.{at_place}

abbrev time_of : Event → ℕ
time_of e = e.time

all_put : (P : Event → Type 0) (x : Event) (xs : List Event) → P x → AllByRecursion P xs → AllByRecursion P (put_in time_of x xs)
all_put P x [] h g = (h, tt)
all_put P x (y ∷ ys) h g = by (nat_lt y.time x.time) (all_put P x ys h g.1)
  where
    by : (b : Bool) → AllByRecursion P (put_in time_of x ys) → AllByRecursion P (if b then y ∷ put_in time_of x ys else x ∷ y ∷ ys)
    by true rest = (g.0, rest)
    by false rest = (h, g)

all_sorted : (P : Event → Type 0) (xs : List Event) → AllByRecursion P xs → AllByRecursion P (sorted time_of xs)
all_sorted P [] h = tt
all_sorted P (x ∷ xs) h = all_put P x (sorted time_of xs) h.0 (all_sorted P xs h.1)

rise : (k : ℕ) (xs : List Event) → InOrder time_of xs → NoneBelow time_of k xs → RiseFrom k (map with_own_time xs)
rise k [] order above = tt
rise k (x ∷ xs) order above = (above.0, rise x.time xs order.1 order.0)

above_zero : (xs : List Event) → NoneBelow time_of 0 xs
above_zero [] = tt
above_zero (x ∷ xs) = (omega arith, above_zero xs)

sorted_rise : (xs : List Event) → RiseFrom 0 (map with_own_time (sorted time_of xs))
sorted_rise xs = rise 0 (sorted time_of xs) (sorted_rises time_of xs) (above_zero (sorted time_of xs))

-- the files of a host, and what its events are
pub record HasFiles (files : List HostFiles) (u : ℕ) (host : HostEvents) : Type 0 where
  pub of : HostFiles
  pub at : slice_get files u ≡ Some of
  pub is : IsHost of host

pub files_of : (files : List HostFiles) (hosts : List HostEvents) → AreHosts files hosts → (u : ℕ) (host : HostEvents) → slice_get hosts u ≡ Some host → HasFiles files u host
files_of [] [] are u host e = absurd (cc)
files_of [] (h ∷ hs) are u host e = absurd are
files_of (f ∷ fs) [] are u host e = absurd are
files_of (f ∷ fs) (h ∷ hs) are zero host e = let same : h ≡ host = cc in record { of = f; at = refl; is = subst (IsHost f) same are.0 }
files_of (f ∷ fs) (h ∷ hs) are (suc u) host e = let rest = files_of fs hs are.1 u host e in record { of = rest.of; at = rest.at; is = rest.is }

pub events_of : (f : HostFiles) (host : HostEvents) → IsHost f host → AllByRecursion (IsDecoded f.host f.meta) host.events.items
events_of f host is = subst (AllByRecursion (IsDecoded f.host f.meta)) (sym is.events) (all_sorted (IsDecoded f.host f.meta) (all_events f.host f.meta f.files.items) (all_decoded f.host f.meta f.files.items))

as_many : (files : List HostFiles) (hosts : List HostEvents) → AreHosts files hosts → length hosts ≡ length files
as_many [] [] are = refl
as_many [] (h ∷ hs) are = absurd are
as_many (f ∷ fs) [] are = absurd are
as_many (f ∷ fs) (h ∷ hs) are = ap suc (as_many fs hs are.1)

as_many_events : (files : List HostFiles) (hosts : List HostEvents) → AreHosts files hosts → total_events hosts ≡ event_count files
as_many_events [] [] are = refl
as_many_events [] (h ∷ hs) are = absurd are
as_many_events (f ∷ fs) [] are = absurd are
as_many_events (f ∷ fs) (h ∷ hs) are =
    let own = ap length are.0.events in
    let long = length_sorted time_of (all_events f.host f.meta f.files.items) in
    let rest = as_many_events fs hs are.1 in
    omega (arith, own, long, rest)

pub decoded_are_syncable : DecodedAreSyncable
decoded_are_syncable files hosts are numbers few_files few = record {
  few_hosts = (let n = as_many files hosts are in omega (arith, n, few_files));
  few_events = (let n = as_many_events files hosts are in omega (arith, n, few));
  numbered = λ u host e. let f = files_of files hosts are u host e in f.is.number ∙ numbers u f.of f.at;
  own = λ u k event l. let f = files_of files hosts are u l.host l.of_host in (decoded u k event l f).host_is ∙ numbers u f.of f.at;
  in_time = λ u host e. let f = files_of files hosts are u host e in subst (λ es. RiseFrom 0 (map with_own_time es)) (sym f.is.events) (sorted_rise (all_events f.of.host f.of.meta f.of.files.items));
  from_one = λ u k event l. (decoded u k event l (files_of files hosts are u l.host l.of_host)).time.0;
  times = record { below = λ u k host event e at. (decoded u k event (record { host = host; of_host = e; at = at }) (files_of files hosts are u host e)).time.1 };
}
  where
    decoded : (u k : ℕ) (event : Event) (l : HasListed hosts u k event) (f : HasFiles files u l.host) → IsDecoded f.of.host f.of.meta event
    decoded u k event l f = at_place (IsDecoded f.of.host f.of.meta) l.host.events.items k event (events_of f.of l.host f.is) l.at
