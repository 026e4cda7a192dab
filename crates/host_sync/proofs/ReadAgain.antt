-- What is written of the merge of decoded hosts is a list of events.
use Rattle.std.proofs.Common.{◌≡◌, ◌<◌, ◌^◌, ℕ, Some, List, [], ◌∷◌, length, filter, map, count_by, take, slice_get, refl, sym, ◌∙◌, ap, subst, arith}
use Rattle.std.specs.List.{AllByRecursion, flat_map}
use Rattle.std.specs.Option.{option_map}
use Rattle.std.proofs.lemmas.Bool.{eq-eqb}
use Rattle.std.proofs.lemmas.Option.{get_or_from_slice_get, slice_get-map, slice_get_within}
use Rattle.trace_types.specs.Order.{RiseFrom}
use Rattle.trace_types.specs.declared.event.Merged.{Merged}
use Rattle.trace_types.specs.declared.host.HostEvents.{HostEvents}
use Rattle.decode_pool.specs.declared.hosts.HostFiles.{HostFiles}
use Rattle.decode_pool.specs.Limits.{AreHosts}
use Rattle.event_list.specs.Lines.{IsParsedLine}
use Rattle.event_list.specs.Written.{SpellBytes, parsed_lines_of}
use Rattle.event_list.proofs.Written.{is_list}
use Rattle.host_tree.proofs.Gets.{within}
use Rattle.host_merge.specs.Kept.{KeepsOrder}
use Rattle.host_merge.specs.Lists.{AreTimed}
use Rattle.host_merge.specs.Merge.{roots_of}
use Rattle.host_merge.specs.Placed.{is_of}
use Rattle.host_merge.proofs.Brought.{event_of}
use Rattle.host_merge.proofs.Spots.{at_filter}
use Rattle.host_merge.proofs.Wholes.{sorted_rise}
use Rattle.host_sync.specs.Laws.{SyncedReadAgain, names_of_hosts}
use Rattle.host_sync.specs.Synced.{AreSyncable}
use Rattle.host_sync.proofs.Decoded.{InTime, IsDecoded}
use Rattle.host_sync.proofs.Elements.{all_in, at_place}
use Rattle.host_sync.proofs.Kept.{synced_keep_order}
use Rattle.host_sync.proofs.KindRanges.{Fits}
use Rattle.host_sync.proofs.OneMerge.{timed_merge}
use Rattle.host_sync.proofs.Syncable.{decoded_are_syncable, events_of, files_of}

-- an event of one of these hosts, as it stands on a line
record IsOfHosts (names : ℕ → List (List ℕ)) (m : Merged) : Type 0 where
  host : m.event.host < 64
  cpu : m.event.cpu < 2 ^ 32
  time : InTime m.event.time
  kind : Fits (names m.event.host) m.event.kind

parsed : (names : ℕ → List (List ℕ)) (ms : List Merged) → AreTimed ms → AllByRecursion (IsOfHosts names) ms → SpellBytes names ms → AllByRecursion IsParsedLine (parsed_lines_of names ms)
parsed names [] timed are bytes = tt
parsed names (m ∷ ms) timed are bytes = (record { key = timed.0; host = are.0.host; cpu = are.0.cpu; time = are.0.time; kind = are.0.kind bytes.0 }, parsed names ms timed.1 are.1 bytes.1)

names_are : (hosts : List HostEvents) (u : ℕ) (host : HostEvents) → slice_get hosts u ≡ Some host → names_of_hosts hosts u ≡ host.names.items
names_are hosts u host e = get_or_from_slice_get (map (λ (h : HostEvents). h.names.items) hosts) u host.names.items [] (slice_get-map (λ (h : HostEvents). h.names.items) hosts u ∙ ap (option_map (λ (h : HostEvents). h.names.items)) e)

module _ (files : List HostFiles) (hosts : List HostEvents) (merged : List Merged) (are : AreHosts files hosts) (syncable : AreSyncable hosts) (keeps : KeepsOrder hosts merged) where
  -- an event of the merge stands in its host's list
  in_list : (k : ℕ) (m : Merged) → slice_get merged k ≡ Some m → (host : HostEvents) → slice_get hosts m.event.host ≡ Some host → slice_get host.events.items (count_by (is_of m.event.host) (take k merged)) ≡ Some m.event
  in_list k m at host e =
      let kept = at_filter (is_of m.event.host) merged k (count_by (is_of m.event.host) (take k merged)) m at (eq-eqb m.event.host m.event.host refl) refl in
      ap (λ l. slice_get l (count_by (is_of m.event.host) (take k merged))) (sym (keeps.kept m.event.host host e))
      ∙ (slice_get-map event_of (filter (is_of m.event.host) merged) (count_by (is_of m.event.host) (take k merged)) ∙ ap (option_map event_of) kept)

  of_hosts : (k : ℕ) (m : Merged) → slice_get merged k ≡ Some m → IsOfHosts (names_of_hosts hosts) m
  of_hosts k m at =
      let known : m.event.host < length hosts = subst (λ x. x.event.host < length hosts) (get_or_from_slice_get merged k m m at) (keeps.known k m (slice_get_within merged k m at)) in
      let host = within hosts m.event.host known in
      let f = files_of files hosts are m.event.host host.0 host.1 in
      let d = at_place (IsDecoded f.of.host f.of.meta) host.0.events.items _ m.event (events_of f.of host.0 f.is) (in_list k m at host.0 host.1) in
      record {
        host = omega (arith, known, syncable.few_hosts);
        cpu = d.cpu;
        time = d.time;
        kind = subst (λ names. Fits names m.event.kind) (sym (names_are hosts m.event.host host.0 host.1 ∙ f.is.names)) d.kind;
      }

pub synced_read_again : SyncedReadAgain
synced_read_again files hosts drift s are numbers few_files few is bytes =
    let syncable = decoded_are_syncable files hosts are numbers few_files few in
    let keeps = synced_keep_order hosts drift s syncable is in
    let timed = timed_merge s.parents hosts s.merged is.forest.count syncable.times is.merge in
    let rises : RiseFrom 0 s.merged = subst (RiseFrom 0) (sym is.merge.whole) (sorted_rise (flat_map is.merge.lists (roots_of s.parents))) in
    is_list (names_of_hosts hosts) s.merged (parsed (names_of_hosts hosts) s.merged timed (all_in (IsOfHosts (names_of_hosts hosts)) s.merged (of_hosts files hosts s.merged are syncable keeps)) bytes) rises
