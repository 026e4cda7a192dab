-- The merge of one folder alone is its host's own list.
use Rattle.std.proofs.Common.{◌≡◌, ◌∙◌, ℕ, List, [], ◌∷◌, ◌++◌, length, map, refl, sym, subst, arith, append-nil}
use Rattle.std.specs.Prelude.{flat_map}
use Rattle.ht_outside.specs.Files.{Files}
use Rattle.trace_types.specs.declared.host.HostEvents.{HostEvents}
use Rattle.clock_fraction.specs.declared.pair_map.PairMap.{PairMap}
use Rattle.hull_lines.specs.declared.outcome.Fit.{Fit}
use Rattle.host_tree.specs.Forest.{AreParents, IsPlaced, IsUsablePair, Leads}
use Rattle.host_tree.specs.declared.parent.Parent.{Parent}
use Rattle.host_tree.specs.declared.parent.Parent.TheVariants.{Root, Child}
use Rattle.host_merge.specs.Kept.{AreInTime}
use Rattle.host_merge.specs.Merge.{IsMergeOf, with_own_time}
use Rattle.host_merge.proofs.One.{one_host}
use Rattle.host_sync.specs.Synced.{Synced}
use Rattle.decode_pool.specs.Limits.{AreHosts}
use Rattle.decode_pool.specs.declared.hosts.HostFiles.{HostFiles}
use Rattle.hosttrace.specs.Clusters.{AreSyncedTraces}
use Rattle.hosttrace.proofs.Clustered.{as_many, can_sync}

-- a host alone is a root
no_child : (fits : List Fit) (root level parent : ℕ) (map : PairMap) → IsPlaced 1 fits 0 root level (Child parent map) → ⊥
no_child fits root level parent map is =
    let (above, next, least, fit) = is.parent_is in
    let here = least.here in
    let inside = here.1.parent_in in
    let zero_is : parent ≡ 0 = omega (arith, inside) in
    let shorter = is.level_is.least above (subst (Leads (IsUsablePair 1 fits) root above) zero_is here.0) in
    absurd (omega (arith, next, shorter))

one_root : (fits : List Fit) (parents : List Parent) → AreParents 1 fits parents → parents ≡ Root ∷ []
one_root fits [] are = let none = are.count in absurd (omega (arith, none))
one_root fits (Root ∷ []) are = refl
one_root fits (Child parent map ∷ []) are = let (root, level, is) = are.each 0 (Child parent map) refl in absurd (no_child fits root level parent map is)
one_root fits (p ∷ q ∷ ps) are = let many = are.count in absurd (omega (arith, many))

alone : (host : HostEvents) (s : Synced) → AreInTime (host ∷ []) → AreParents 1 s.fits s.parents → IsMergeOf s.parents (host ∷ []) s.merged → s.merged ≡ map with_own_time host.events.items ++ []
alone host s timely forest merge =
    one_host host s.merged timely (subst (λ (ps : List Parent). IsMergeOf ps (host ∷ []) s.merged) (one_root s.fits s.parents forest) merge) ∙ sym (append-nil (map with_own_time host.events.items))

found_one : (hosts : List HostFiles) (found : List HostEvents) → length hosts ≡ 1 → AreHosts hosts found → length found ≡ 1
found_one [] found one are = absurd (omega (arith, one))
found_one (h ∷ []) [] one are = absurd are
found_one (h ∷ []) (f ∷ []) one are = refl
found_one (h ∷ []) (f ∷ k ∷ fs) one are = absurd are.1
found_one (h ∷ i ∷ hs) found one are = absurd (omega (arith, one))

by_length : (found : List HostEvents) (s : Synced) → length found ≡ 1 → AreInTime found → AreParents (length found) s.fits s.parents → IsMergeOf s.parents found s.merged → s.merged ≡ flat_map (λ (h : HostEvents). map with_own_time h.events.items) found
by_length [] s one timely forest merge = absurd (omega (arith, one))
by_length (h ∷ []) s one timely forest merge = alone h s timely forest merge
by_length (h ∷ k ∷ hs) s one timely forest merge = absurd (omega (arith, one))

pub stands_alone : (files : Files) (dir : List ℕ) (drift : ℕ) (found : List HostEvents) (s : Synced) → AreSyncedTraces files (dir ∷ []) drift found s → s.merged ≡ flat_map (λ (h : HostEvents). map with_own_time h.events.items) found
stands_alone files dir drift found s t =
    let can = can_sync files (dir ∷ []) drift found s t in
    by_length found s (found_one t.hosts found (as_many files 0 0 (dir ∷ []) t.hosts t.are_hosts) t.decoded) can.in_time t.synced.forest t.synced.merge
