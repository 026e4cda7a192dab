-- Folders have one list of hosts, whatever places the types of their traces are kept at, and a drift one merge of them.
use Rattle.std.proofs.Common.{◌≡◌, ◌∙◌, ◌≤◌, ◌+◌, ℕ, List, [], ◌∷◌, length, map, Option, true, AllPairs, slice_index_or, nat_cmp, is_lt, Ordering, Less, Equal, Greater, refl, sym, ap, ap₂, subst}
use Rattle.std.specs.Prelude.{unwrap_or}
use Rattle.std.specs.Cmp.Lexicographic.{nat_list_cmp_total, slice_cmp}
use Rattle.std.specs.Ordering.{ordering_reverse}
use Rattle.ht_outside.specs.Files.{Files}
use Rattle.trace_types.specs.declared.limits.TheConstants.{MAX_EVENTS}
use Rattle.trace_types.specs.declared.event.Event.{Event}
use Rattle.trace_types.specs.declared.host.HostEvents.{HostEvents}
use Rattle.trace_types.specs.Paths.{rank_of}
use Rattle.trace_types.specs.declared.path.Path.{Path as AttributePath}
use Rattle.trace_types.specs.declared.value.Value.{Value}
use Rattle.stable_sort.specs.Sorted.{sorted}
use Rattle.type_table.specs.SameTrace.{AreBoth, IsSameEvent, IsSameStream, IsSameTrace}
use Rattle.type_table.specs.Table.{Table}
use Rattle.type_table.specs.TraceMetas.{TraceMetaModel}
use Rattle.type_table.specs.declared.declared.EventId.{EventId}
use Rattle.type_table.specs.declared.declared.EventParts.{EventParts}
use Rattle.type_table.specs.declared.declared.StreamScopes.{StreamScopes}
use Rattle.type_scope.specs.Traces.{trace}
use Rattle.type_scope.specs.View.{event_at, stream_at}
use Rattle.trace_metadata.proofs.OneTrace.{one_trace}
use Rattle.decode_pool.proofs.AlikeHosts.{tell_same}
use Rattle.decode_pool.specs.Hosts.{IsHost, all_events, all_incomplete, all_packets, all_refused}
use Rattle.decode_pool.specs.Limits.{AreHosts, MAX_PACKETS, event_count, host_packets, packet_count}
use Rattle.decode_pool.specs.OneTrace.{IsSameFile, TellSame}
use Rattle.decode_pool.specs.declared.files.FileBytes.{FileBytes}
use Rattle.decode_pool.specs.declared.hosts.HostFiles.{HostFiles}
use Rattle.report_views.specs.StateText.{IsBefore, IsListing}
use Rattle.report_views.specs.declared.rows.Row.{Row}
use Rattle.hosttrace.specs.Clusters.{AreSyncedTraces, IsGoodCluster, IsSameHost}
use Rattle.hosttrace.specs.Folders.{metadata_of}
use Rattle.hosttrace.specs.Refusals.{ClusterRefuses}
use Rattle.hosttrace.specs.Streams.{AreFiles, AreHostsFrom, IsHostOf}
use Rattle.host_sync.specs.Synced.{Synced}
use Rattle.hosttrace.specs.declared.status.Refusal.{Refusal}
use Rattle.hosttrace.proofs.Clustered.{folders_of, traces_of}
use Rattle.hosttrace.proofs.Complete.{good_cluster}
use Rattle.hosttrace.proofs.OneOrder.{from_in, in_from, one_names, one_order}

-- ---- two representations of one trace

streams_both : (t u : Table) (ss rs : List (ℕ × StreamScopes)) → map (stream_at t) ss ≡ map (stream_at u) rs → AreBoth (IsSameStream t u) ss rs
streams_both t u [] [] e = tt
streams_both t u [] (r ∷ rs) e = absurd (cc)
streams_both t u (s ∷ ss) [] e = absurd (cc)
streams_both t u (s ∷ ss) (r ∷ rs) e =
    let first : stream_at t s ≡ stream_at u r = cc in
    let later : map (stream_at t) ss ≡ map (stream_at u) rs = cc in (
      record {
        id = ap (λ x. x.0) first;
        packet_context = ap (λ x. x.1.packet_context) first;
        event_header = ap (λ x. x.1.event_header) first;
        event_context = ap (λ x. x.1.event_context) first;
      },
      streams_both t u ss rs later,
    )

events_both : (t u : Table) (es fs : List (EventId × EventParts)) → map (event_at t) es ≡ map (event_at u) fs → AreBoth (IsSameEvent t u) es fs
events_both t u [] [] e = tt
events_both t u [] (f ∷ fs) e = absurd (cc)
events_both t u (d ∷ es) [] e = absurd (cc)
events_both t u (d ∷ es) (f ∷ fs) e =
    let first : event_at t d ≡ event_at u f = cc in
    let later : map (event_at t) es ≡ map (event_at u) fs = cc in (
      record {
        id = ap (λ x. x.0) first;
        name = ap (λ x. x.1.name) first;
        context = ap (λ x. x.1.context) first;
        fields = ap (λ x. x.1.fields) first;
      },
      events_both t u es fs later,
    )

pub same_trace : (m n : TraceMetaModel) → trace m ≡ trace n → IsSameTrace m n
unfolding trace
same_trace m n e = record {
  header = ap (λ x. x.packet_header) e;
  uuid = ap (λ x. x.declared.uuid) e;
  streams = streams_both m.table n.table m.declared.streams n.declared.streams (ap (λ x. x.declared.streams) e);
  events = events_both m.table n.table m.declared.events n.declared.events (ap (λ x. x.declared.events) e);
  event_names = ap (λ x. x.declared.event_names) e;
  clocks = ap (λ x. x.declared.clocks) e;
  hostname = ap (λ x. x.declared.hostname) e;
}

-- ---- two hosts of one folder

same_files : (files : Files) (dir : List ℕ) (names : List (List ℕ)) (fs gs : List FileBytes) → AreFiles files dir names fs → AreFiles files dir names gs → AreBoth IsSameFile fs gs
same_files files dir [] [] [] h g = tt
same_files files dir [] [] (k ∷ gs) h g = absurd g
same_files files dir [] (f ∷ fs) gs h g = absurd h
same_files files dir (name ∷ names) [] gs h g = absurd h
same_files files dir (name ∷ names) (f ∷ fs) [] h g = absurd g
same_files files dir (name ∷ names) (f ∷ fs) (k ∷ gs) h g = (record { name = h.0.0 ∙ sym g.0.0; bytes = h.0.1 ∙ sym g.0.1 }, same_files files dir names fs gs h.1 g.1)

module _ (files : Files) (place before after : ℕ) (dir : List ℕ) (a b : HostFiles) (ha : IsHostOf files place before dir a) (hb : IsHostOf files place after dir b) where
  same_meta : IsSameTrace a.meta b.meta
  same_meta = same_trace a.meta b.meta (one_trace (metadata_of files dir) (trace a.meta) (trace b.meta) ha.declares hb.declares)

  tells : TellSame a.host a.meta b.meta a.files.items b.files.items
  tells =
      tell_same a.host a.meta b.meta ha.sound hb.sound same_meta a.files.items b.files.items
      (same_files files dir hb.names a.files.items b.files.items (subst (λ names. AreFiles files dir names a.files.items) (one_names files dir ha.names hb.names ha.is_folder.are_names hb.is_folder.are_names) ha.are_files) hb.are_files)

  same_number : a.host ≡ b.host
  same_number = ha.number ∙ sym hb.number

  pub one_host : (x y : HostEvents) → IsHost a x → IsHost b y → IsSameHost x y
  one_host x y hx hy =
      let told = tells in
      let meta = same_meta in
      record {
        number = hx.number ∙ (same_number ∙ sym hy.number);
        hostname = hx.hostname ∙ (ap (λ (o : Option (List ℕ)). unwrap_or o []) meta.hostname ∙ sym hy.hostname);
        names = hx.names ∙ (meta.event_names ∙ sym hy.names);
        events = hx.events ∙ (ap (sorted (λ (e : Event). e.time)) (told.events ∙ ap (λ n. all_events n b.meta b.files.items) same_number) ∙ sym hy.events);
        refused = hx.refused ∙ (told.refused ∙ (ap (λ n. all_refused n b.meta b.files.items) same_number ∙ sym hy.refused));
        packets = hx.packets ∙ (told.accepted ∙ (ap (λ n. all_packets n b.meta b.files.items) same_number ∙ sym hy.packets));
        incomplete = hx.incomplete ∙ (told.incomplete ∙ (ap (λ n. all_incomplete n b.meta b.files.items) same_number ∙ sym hy.incomplete));
      }

  pub same_packets : host_packets a.meta a.files.items ≡ host_packets b.meta b.files.items
  same_packets = tells.packets

  pub same_events : length (all_events a.host a.meta a.files.items) ≡ length (all_events b.host b.meta b.files.items)
  same_events = ap length tells.events ∙ ap (λ n. length (all_events n b.meta b.files.items)) same_number

-- ---- all hosts of folders

found_alike : (files : Files) (place before after : ℕ) (dirs : List (List ℕ)) (hosts others : List HostFiles) (found again : List HostEvents) → AreHostsFrom files place before dirs hosts → AreHostsFrom files place after dirs others → AreHosts hosts found → AreHosts others again → AreBoth IsSameHost found again
found_alike files place before after [] [] [] [] [] ha hb hx hy = tt
found_alike files place before after [] [] [] [] (y ∷ ys) ha hb hx hy = absurd hy
found_alike files place before after [] [] [] (x ∷ xs) ys ha hb hx hy = absurd hx
found_alike files place before after [] [] (b ∷ bs) xs ys ha hb hx hy = absurd hb
found_alike files place before after [] (a ∷ hs) bs xs ys ha hb hx hy = absurd ha
found_alike files place before after (dir ∷ dirs) [] bs xs ys ha hb hx hy = absurd ha
found_alike files place before after (dir ∷ dirs) (a ∷ hs) [] xs ys ha hb hx hy = absurd hb
found_alike files place before after (dir ∷ dirs) (a ∷ hs) (b ∷ bs) [] ys ha hb hx hy = absurd hx
found_alike files place before after (dir ∷ dirs) (a ∷ hs) (b ∷ bs) (x ∷ xs) [] ha hb hx hy = absurd hy
found_alike files place before after (dir ∷ dirs) (a ∷ hs) (b ∷ bs) (x ∷ xs) (y ∷ ys) ha hb hx hy =
    (one_host files place before after dir a b ha.0 hb.0 x y hx.0 hy.0, found_alike files (place + 1) _ _ dirs hs bs xs ys ha.1 hb.1 hx.1 hy.1)

pub packets_alike : (files : Files) (place before after : ℕ) (dirs : List (List ℕ)) (hosts others : List HostFiles) → AreHostsFrom files place before dirs hosts → AreHostsFrom files place after dirs others → packet_count hosts ≡ packet_count others
packets_alike files place before after [] [] [] ha hb = refl
packets_alike files place before after [] [] (b ∷ bs) ha hb = absurd hb
packets_alike files place before after [] (a ∷ hs) bs ha hb = absurd ha
packets_alike files place before after (dir ∷ dirs) [] bs ha hb = absurd ha
packets_alike files place before after (dir ∷ dirs) (a ∷ hs) [] ha hb = absurd hb
packets_alike files place before after (dir ∷ dirs) (a ∷ hs) (b ∷ bs) ha hb = ap₂ (λ m n. m + n) (same_packets files place before after dir a b ha.0 hb.0) (packets_alike files (place + 1) _ _ dirs hs bs ha.1 hb.1)

pub events_alike : (files : Files) (place before after : ℕ) (dirs : List (List ℕ)) (hosts others : List HostFiles) → AreHostsFrom files place before dirs hosts → AreHostsFrom files place after dirs others → event_count hosts ≡ event_count others
events_alike files place before after [] [] [] ha hb = refl
events_alike files place before after [] [] (b ∷ bs) ha hb = absurd hb
events_alike files place before after [] (a ∷ hs) bs ha hb = absurd ha
events_alike files place before after (dir ∷ dirs) [] bs ha hb = absurd ha
events_alike files place before after (dir ∷ dirs) (a ∷ hs) [] ha hb = absurd hb
events_alike files place before after (dir ∷ dirs) (a ∷ hs) (b ∷ bs) ha hb = ap₂ (λ m n. m + n) (same_events files place before after dir a b ha.0 hb.0) (events_alike files (place + 1) _ _ dirs hs bs ha.1 hb.1)

pub one_found : (files : Files) (dirs : List (List ℕ)) (drift rate : ℕ) (found others : List HostEvents) (s z : Synced) → AreSyncedTraces files dirs drift found s → AreSyncedTraces files dirs rate others z → AreBoth IsSameHost found others
one_found files dirs drift rate found others s z h g = found_alike files 0 0 0 dirs h.hosts g.hosts found others h.are_hosts g.are_hosts h.decoded g.decoded

-- ---- folders that have a merge are good, and aren't refused

pub good_traces : (files : Files) (dirs : List (List ℕ)) (drift : ℕ) (found : List HostEvents) (s : Synced) → AreSyncedTraces files dirs drift found s → IsGoodCluster files dirs
good_traces files dirs drift found s h = record {
  few = h.few;
  are_folders = folders_of files 0 0 dirs h.hosts h.are_hosts;
  traces = map (λ (x : HostFiles). trace x.meta) h.hosts;
  are_traces = traces_of files 0 0 dirs h.hosts h.are_hosts;
  within = λ others there. record {
    packets = subst (λ n. n ≤ MAX_PACKETS) (packets_alike files 0 0 0 dirs h.hosts others h.are_hosts there) h.within.packets;
    events = subst (λ n. n ≤ MAX_EVENTS) (events_alike files 0 0 0 dirs h.hosts others h.are_hosts there) h.within.events;
  };
}

pub never_refused : (files : Files) (dirs : List (List ℕ)) (drift : ℕ) (found : List HostEvents) (s : Synced) (refusal : Refusal) → AreSyncedTraces files dirs drift found s → ClusterRefuses files dirs refusal → ⊥
never_refused files dirs drift found s refusal h refused = good_cluster files dirs refusal refused (good_traces files dirs drift found s h)

-- ---- one listing of a state

not_both : (x y : Row) → IsBefore x y → IsBefore y x → x ≡ y
not_both x y h g = by (slice_cmp nat_cmp (rank_of x.path) (rank_of y.path)) refl
  where
    by : (o : Ordering) → slice_cmp nat_cmp (rank_of x.path) (rank_of y.path) ≡ o → x ≡ y
    by Less e = let is = sym g ∙ ap is_lt (nat_list_cmp_total.antisymm (rank_of y.path) (rank_of x.path) ∙ ap ordering_reverse e) in absurd (cc)
    by Greater e = let is = sym h ∙ ap is_lt e in absurd (cc)
    by Equal e = let is = sym h ∙ ap is_lt e in absurd (cc)

rows_apart : (rows : List Row) → AllPairs IsBefore rows → AllPairs (λ a b. a ≡ b → ⊥) rows
rows_apart rows h i j d lt within e =
    let twice : IsBefore (slice_index_or rows i d) (slice_index_or rows i d) = subst (IsBefore (slice_index_or rows i d)) (sym e) (h i j d lt within) in
    let is = sym twice ∙ ap is_lt (nat_list_cmp_total.antisymm (rank_of (slice_index_or rows i d).path) (rank_of (slice_index_or rows i d).path)) in
    irreflexive (slice_cmp nat_cmp (rank_of (slice_index_or rows i d).path) (rank_of (slice_index_or rows i d).path)) twice is
  where
    irreflexive : (o : Ordering) → is_lt o ≡ true → true ≡ is_lt (ordering_reverse o) → ⊥
    irreflexive Less a b = absurd (cc)
    irreflexive Equal a b = absurd (cc)
    irreflexive Greater a b = absurd (cc)

pub one_listing : (values : AttributePath → Value) (rows others : List Row) → IsListing values rows → IsListing values others → rows ≡ others
one_listing values rows others h g =
    one_order IsBefore not_both rows others h.order g.order (rows_apart rows h.order) (rows_apart others g.order)
    (λ row is. in_from others row ((g.exact row).1 ((h.exact row).0 (from_in rows row is))))
    (λ row is. in_from rows row ((h.exact row).1 ((g.exact row).0 (from_in others row is))))
