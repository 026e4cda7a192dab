-- The hosts of folders, on one clock.
use Rattle.std.proofs.Common.{All, Bool, Contains, true, false, cond, filter, ◌*◌, ◌^◌, ◌≡◌, ◌∙◌, ◌<◌, inl, inr, ℕ, zero, suc, ◌+◌, ◌≤◌, List, [], ◌∷◌, length, map, slice_get, Option, Some, None, refl, sym, ap, ap₂, subst, arith}
use Rattle.std.specs.Prelude.{IfSome}
use Rattle.ht_outside.specs.Files.{Files}
use Rattle.type_scope.specs.Traces.{trace}
use Rattle.trace_types.specs.declared.host.HostEvents.{HostEvents}
use Rattle.decode_pool.specs.Limits.{AreHosts}
use Rattle.decode_pool.specs.declared.hosts.HostFiles.{HostFiles}
use Rattle.event_list.specs.Lines.{IsEventList}
use Rattle.event_list.specs.Names.{lines_of, names_at}
use Rattle.event_list.specs.Written.{SpellBytes, parsed_lines_of}
use Rattle.event_list.specs.declared.trace.MergedTrace.{MergedTrace}
use Rattle.host_merge.specs.Kept.{KeepsOrder}
use Rattle.host_sync.proofs.Kept.{synced_keep_order, synced_sends_first}
use Rattle.host_sync.proofs.ReadAgain.{synced_read_again}
use Rattle.host_sync.proofs.Syncable.{decoded_are_syncable}
use Rattle.host_sync.specs.Laws.{FilesAreNumbered, names_of_hosts}
use Rattle.host_sync.specs.Synced.{AreSyncable, IsSynced, Synced}
use Rattle.std.specs.List.{range_with_len}
use Rattle.host_tree.specs.Points.{IsBetween}
use Rattle.host_merge.proofs.Theirs.{between}
use Rattle.host_merge.specs.Placed.{inverted_among, is_inverted}
use Rattle.host_merge.specs.declared.placed.Placed.{Placed}
use Rattle.host_sync.proofs.Totals.{few_messages}
use Rattle.report_views.specs.Report.{report_text}
use Rattle.hosttrace.proofs.OneOrder.{In, in_from}
use Rattle.hosttrace.specs.Clusters.{AreSyncedTraces, IsCluster, IsSyncedCluster, IsWithinLimits, NoneInvertedInTrees, SendsFirst}
use Rattle.hosttrace.specs.Folders.{MAX_HOSTS, metadata_of}
use Rattle.hosttrace.specs.Hosts.{AreTraces}
use Rattle.hosttrace.specs.Means.{IsEventsOutput, IsReportOutput}
use Rattle.hosttrace.specs.Read.{AreFolderFiles}
use Rattle.hosttrace.specs.Refusals.{ClusterRefuses, HostsRefuse, LimitsRefuse, ReadingRefuses, TracesRefuse}
use Rattle.hosttrace.specs.Streams.{AreFolders, AreHostsFrom, AreHostsOf}
use Rattle.hosttrace.specs.declared.status.Limit.TheVariants as limit
use Rattle.hosttrace.specs.declared.status.Refusal.{Refusal}
use Rattle.hosttrace.specs.declared.status.Refusal.TheVariants.{TooLarge}
use Rattle.hosttrace.specs.declared.trace_files.FolderFiles.{FolderFiles}
use Rattle.hosttrace.proofs.TraceFiles.{are_folders, metadata_are}

-- ---- the hosts of folders

pub as_many : (files : Files) (place before : ℕ) (dirs : List (List ℕ)) (hosts : List HostFiles) → AreHostsFrom files place before dirs hosts → length hosts ≡ length dirs
as_many files place before [] [] are = refl
as_many files place before [] (h ∷ hosts) are = absurd are
as_many files place before (dir ∷ dirs) [] are = absurd are
as_many files place before (dir ∷ dirs) (h ∷ hosts) are = ap suc (as_many files (place + 1) _ dirs hosts are.1)

numbered_from : (files : Files) (place before : ℕ) (dirs : List (List ℕ)) (hosts : List HostFiles) → AreHostsFrom files place before dirs hosts → (k : ℕ) (host : HostFiles) → slice_get hosts k ≡ Some host → host.host ≡ place + k
numbered_from files place before [] [] are k host at = absurd (cc)
numbered_from files place before [] (h ∷ hosts) are k host at = absurd are
numbered_from files place before (dir ∷ dirs) [] are k host at = absurd are
numbered_from files place before (dir ∷ dirs) (h ∷ hosts) are zero host at = let same : h ≡ host = cc in let n = ap (λ (x : HostFiles). x.host) (sym same) ∙ are.0.number in omega (arith, n)
numbered_from files place before (dir ∷ dirs) (h ∷ hosts) are (suc k) host at = let next = numbered_from files (place + 1) _ dirs hosts are.1 k host at in omega (arith, next)

pub numbered : (files : Files) (dirs : List (List ℕ)) (hosts : List HostFiles) → AreHostsOf files dirs hosts → FilesAreNumbered hosts
numbered files dirs hosts are k host at = let n = numbered_from files 0 0 dirs hosts are k host at in omega (arith, n)

pub folders_of : (files : Files) (place before : ℕ) (dirs : List (List ℕ)) (hosts : List HostFiles) → AreHostsFrom files place before dirs hosts → AreFolders files before dirs
folders_of files place before [] [] are = tt
folders_of files place before [] (h ∷ hosts) are = absurd are
folders_of files place before (dir ∷ dirs) [] are = absurd are
folders_of files place before (dir ∷ dirs) (h ∷ hosts) are = (are.0.names, are.0.is_folder, folders_of files (place + 1) _ dirs hosts are.1)

pub traces_of : (files : Files) (place before : ℕ) (dirs : List (List ℕ)) (hosts : List HostFiles) → AreHostsFrom files place before dirs hosts → AreTraces (map (metadata_of files) dirs) (map (λ (h : HostFiles). trace h.meta) hosts)
traces_of files place before [] [] are = tt
traces_of files place before [] (h ∷ hosts) are = absurd are
traces_of files place before (dir ∷ dirs) [] are = absurd are
traces_of files place before (dir ∷ dirs) (h ∷ hosts) are = (are.0.declares, traces_of files (place + 1) _ dirs hosts are.1)

-- ---- what holds of them on one clock

placed_at : (ps : List Placed) (k : ℕ) → k < length ps → (p : Placed) × (slice_get ps k ≡ Some p)
placed_at [] k lt = absurd (omega (arith, lt))
placed_at (p ∷ ps) zero lt = (p, refl)
placed_at (p ∷ ps) (suc k) lt = placed_at ps k (omega (arith, lt))

filter_in : (p : ℕ → Bool) (xs : List ℕ) (x : ℕ) → In x (filter p xs) → In x xs
filter_in p [] x h = absurd h
filter_in p (y ∷ ys) x h = by (p y) refl h (filter_in p ys x)
  where
    by : (b : Bool) → p y ≡ b → In x (cond b (y ∷ filter p ys) (filter p ys)) → (In x (filter p ys) → In x ys) → In x (y ∷ ys)
    by true e (inl is) rest = inl is
    by true e (inr g) rest = inr (rest g)
    by false e g rest = inr (rest g)

in_range : (start count k : ℕ) → In k (range_with_len start count) → k < start + count
in_range start zero k h = absurd h
in_range start (suc count) k (inl is) = omega (arith, is)
in_range start (suc count) k (inr h) = let next = in_range (start + 1) count k h in omega (arith, next)

inverted_within : (ps : List Placed) (k : ℕ) → Contains (inverted_among ps) k → k < length ps
inverted_within ps k h = let lt = in_range 0 (length ps) k (filter_in (λ n. is_inverted (slice_get ps n)) (range_with_len 0 (length ps)) k (in_from (inverted_among ps) k h)) in omega (arith, lt)

module _ (files : Files) (dirs : List (List ℕ)) (drift : ℕ) (found : List HostEvents) (s : Synced) (t : AreSyncedTraces files dirs drift found s) where
  few_hosts : length t.hosts ≤ MAX_HOSTS
  few_hosts = subst (λ n. n ≤ MAX_HOSTS) (sym (as_many files 0 0 dirs t.hosts t.are_hosts)) t.few

  pub can_sync : AreSyncable found
  can_sync = decoded_are_syncable t.hosts found t.decoded (numbered files dirs t.hosts t.are_hosts) few_hosts t.within.events

  pub in_order : KeepsOrder found s.merged
  in_order = synced_keep_order found drift s can_sync t.synced

  pub sends_first : SendsFirst s
  sends_first k m p at there pair = (synced_sends_first found drift s can_sync t.synced k m p at there pair).0

  pub none_inverted : NoneInvertedInTrees s
  none_inverted k m inverted at pair =
      let p = placed_at s.placed k (inverted_within s.placed k inverted) in
      (synced_sends_first found drift s can_sync t.synced k m p.0 at p.1 pair).1 inverted

  pub reads_again : SpellBytes (names_of_hosts found) s.merged → IsEventList (lines_of (names_of_hosts found) s.merged) (parsed_lines_of (names_of_hosts found) s.merged)
  reads_again bytes = synced_read_again t.hosts found drift s t.decoded (numbered files dirs t.hosts t.are_hosts) few_hosts t.within.events t.synced bytes

pub events_output : (o : Option Files) (dirs : List (List ℕ)) (drift : ℕ) (merge : MergedTrace) (text : List ℕ) → IfSome o (λ files. IsCluster files dirs drift merge)
    → text ≡ lines_of (names_at merge.names.items) merge.events.items → SpellBytes (names_at merge.names.items) merge.events.items → IfSome o (λ files. IsEventsOutput files dirs drift text)
events_output None dirs drift merge text h is bytes = tt
events_output (Some files) dirs drift merge text h is bytes =
    let spelled : SpellBytes (names_of_hosts h.found) h.synced.merged = subst (λ es. SpellBytes (names_of_hosts h.found) es) h.events (subst (λ names. SpellBytes (names_at names) merge.events.items) h.names bytes) in
    let same : text ≡ lines_of (names_of_hosts h.found) h.synced.merged = is ∙ ap₂ (λ names es. lines_of (names_at names) es) h.names h.events in
    record {
      found = h.found;
      synced = h.synced;
      traces = h.traces;
      keeps_order = in_order files dirs drift h.found h.synced h.traces;
      sends_first = sends_first files dirs drift h.found h.synced h.traces;
      is_text = same;
      is_list = subst (λ x. IsEventList x (parsed_lines_of (names_of_hosts h.found) h.synced.merged)) (sym same) (reads_again files dirs drift h.found h.synced h.traces spelled);
    }

pub synced_traces : (o : Option Files) (dirs : List (List ℕ)) (drift : ℕ) (hosts : List HostFiles) (found : List HostEvents) (s : Synced) → length dirs ≤ MAX_HOSTS → IfSome o (λ files. AreHostsOf files dirs hosts) → IsWithinLimits hosts × AreHosts hosts found × IsSynced found drift s
    → IfSome o (λ files. AreSyncedTraces files dirs drift found s)
synced_traces None dirs drift hosts found s few are held = tt
synced_traces (Some files) dirs drift hosts found s few are held = record { few = few; hosts = hosts; are_hosts = are; within = held.0; decoded = held.1; synced = held.2 }

pub is_cluster : (o : Option Files) (dirs : List (List ℕ)) (drift : ℕ) (found : List HostEvents) (s : Synced) (merge : MergedTrace) → IfSome o (λ files. AreSyncedTraces files dirs drift found s) → merge.events.items ≡ s.merged → merge.names.items ≡ map (λ (h : HostEvents). h.names.items) found
    → IfSome o (λ files. IsCluster files dirs drift merge)
is_cluster None dirs drift found s merge h events names = tt
is_cluster (Some files) dirs drift found s merge h events names = record { found = found; synced = s; traces = h; events = events; names = names }

-- ---- the report

between_hosts : (found : List HostEvents) (drift : ℕ) (s : Synced) → IsSyncedCluster found drift s → All (IsBetween (length found)) s.matched
between_hosts found drift s h = between found s.matched s.ambiguous h.synced.messages h.can.times h.can.from_one

-- what the report wants of its lists
pub record CanReport (found : List HostEvents) (s : Synced) : Type 0 where
  pub few : length found ≤ 64
  pub square : length s.fits ≡ length found * length found
  pub goes_between : All (IsBetween (length found)) s.matched
  pub placed : length s.placed < 2 ^ 32

pub can_report : (found : List HostEvents) (drift : ℕ) (s : Synced) → IsSyncedCluster found drift s → CanReport found s
can_report found drift s h =
    let few = few_messages found s.matched s.ambiguous h.can h.synced.messages in
    let placed = h.synced.places.count in
    record { few = h.can.few_hosts; square = h.synced.fits_are.count; goes_between = between_hosts found drift s h; placed = omega (arith, few, placed) }

pub report_output : (o : Option Files) (dirs : List (List ℕ)) (drift : ℕ) (found : List HostEvents) (s : Synced) (text : List ℕ) → IfSome o (λ files. AreSyncedTraces files dirs drift found s)
    → text ≡ report_text found s.matched s.ambiguous s.fits s.parents s.merged s.placed drift → IfSome o (λ files. IsReportOutput files dirs drift text)
report_output None dirs drift found s text h is = tt
report_output (Some files) dirs drift found s text h is = record {
  found = found;
  synced = s;
  traces = h;
  keeps_order = in_order files dirs drift found s h;
  sends_first = sends_first files dirs drift found s h;
  inverted = none_inverted files dirs drift found s h;
  is_text = is;
}

-- ---- why folders have no merge

pub crowd_refused : (o : Option Files) (dirs : List (List ℕ)) → MAX_HOSTS < length dirs → IfSome o (λ files. ClusterRefuses files dirs (TooLarge limit.Hosts))
crowd_refused None dirs many = tt
crowd_refused (Some files) dirs many = inl many

pub traces_refused : (o : Option Files) (dirs : List (List ℕ)) → IfSome o (λ files. (r : Refusal) → TracesRefuse files 0 0 dirs r → ReadingRefuses files dirs r)
traces_refused None dirs = tt
traces_refused (Some files) dirs = λ r h. inl h

pub metadata_refused : (o : Option Files) (dirs : List (List ℕ)) (read : List FolderFiles) → IfSome o (λ files. AreFolderFiles files 0 dirs read) → IfSome o (λ files. (r : Refusal) → HostsRefuse 0 (map (λ (x : FolderFiles). x.metadata) read) r → ReadingRefuses files dirs r)
metadata_refused None dirs read are = tt
metadata_refused (Some files) dirs read are = λ r h. inr (are_folders files 0 dirs read are, subst (λ l. HostsRefuse 0 l r) (metadata_are files 0 dirs read are) h)

pub reading_refused : (o : Option Files) (dirs : List (List ℕ)) → length dirs ≤ MAX_HOSTS → IfSome o (λ files. (r : Refusal) → ReadingRefuses files dirs r → ClusterRefuses files dirs r)
reading_refused None dirs few = tt
reading_refused (Some files) dirs few = λ r h. inr (few, inl h)

pub limits_refused : (o : Option Files) (dirs : List (List ℕ)) (hosts : List HostFiles) → length dirs ≤ MAX_HOSTS → IfSome o (λ files. AreHostsOf files dirs hosts) → IfSome o (λ files. (r : Refusal) → LimitsRefuse hosts r → ClusterRefuses files dirs r)
limits_refused None dirs hosts few are = tt
limits_refused (Some files) dirs hosts few are = λ r h. inr (few, inr (hosts, are, h))
