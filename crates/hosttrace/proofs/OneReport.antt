-- Two answers of synchronization that are one have one report.
use Rattle.std.proofs.Common.{◌≡◌, ◌∙◌, ℕ, List, [], ◌∷◌, ◌++◌, codes, ap₂, refl}
use Rattle.std.specs.Prelude.{flat_map}
use Rattle.type_table.specs.SameTrace.{AreBoth}
use Rattle.trace_types.specs.declared.host.HostEvents.{HostEvents}
use Rattle.host_tree.specs.declared.parent.Parent.{Parent}
use Rattle.host_tree.specs.declared.parent.Parent.TheVariants.{Root, Child}
use Rattle.host_sync.specs.Laws.{IsOneAnswer, IsSameParentAndSlopes}
use Rattle.host_sync.specs.Synced.{Synced}
use Rattle.report_views.specs.Made.{made_text}
use Rattle.report_views.specs.CallLines.{call_count, call_lines, counted_lines}
use Rattle.report_views.specs.Report.{clocks_part, host_line, hosts_part, lost_line, merge_part, refused_lines, report_text}
use Rattle.report_views.specs.SameReport.{AreSameTrees, HaveSameSlopes}
use Rattle.report_views.specs.TimeLines.{time_lines}
use Rattle.report_views.proofs.SameReports.{one_report as same_report, same_trees}
use Rattle.hosttrace.specs.Clusters.{IsSameHost}
use Rattle.hosttrace.proofs.OneSync.{same_length}

-- ---- hosts

flat_same : (f : HostEvents → List ℕ) → ((x y : HostEvents) → IsSameHost x y → f x ≡ f y) → (xs ys : List HostEvents) → AreBoth IsSameHost xs ys → flat_map f xs ≡ flat_map f ys
flat_same f same [] [] h = refl
flat_same f same [] (y ∷ ys) h = absurd h
flat_same f same (x ∷ xs) [] h = absurd h
flat_same f same (x ∷ xs) (y ∷ ys) h = ap₂ (λ t ts. t ++ ts) (same x y h.0) (flat_same f same xs ys h.1)

same_line : (x y : HostEvents) → IsSameHost x y → host_line x ≡ host_line y
same_line x y h =
    let number = h.number in
    let name = h.hostname in
    let events = h.events in
    let packets = h.packets in
    let refused = h.refused in
    let incomplete = h.incomplete in
    cc

same_refused : (x y : HostEvents) → IsSameHost x y → refused_lines x ≡ refused_lines y
same_refused x y h =
    let number = h.number in
    let refused = h.refused in
    cc

same_lost : (x y : HostEvents) → IsSameHost x y → lost_line x ≡ lost_line y
same_lost x y h =
    let number = h.number in
    let events = h.events in
    cc

same_calls : (x y : HostEvents) → IsSameHost x y → call_lines x ≡ call_lines y
same_calls x y h =
    let number = h.number in
    let names = h.names in
    let events = h.events in
    λ i. counted_lines (number i) (names i) (call_count (events i))

hosts_same : (drift : ℕ) (xs ys : List HostEvents) → AreBoth IsSameHost xs ys → hosts_part xs drift ≡ hosts_part ys drift
hosts_same drift xs ys h =
    let lines = flat_same host_line same_line xs ys h in
    let refused = flat_same refused_lines same_refused xs ys h in
    let lost = flat_same lost_line same_lost xs ys h in
    cc

-- ---- clocks

-- parents that are alike have the same slopes
same_slopes : (p q : Parent) → IsSameParentAndSlopes p q → HaveSameSlopes p q
same_slopes Root Root h = h
same_slopes Root (Child q n) h = h
same_slopes (Child p m) Root h = h
same_slopes (Child p m) (Child q n) h = h

alike_trees : (found : List HostEvents) (s z : Synced) → IsOneAnswer found s z → AreSameTrees s.parents z.parents
alike_trees found s z one = record { count = one.count; each = λ host p q here there. same_slopes p q (one.parents host p q here there) }

pub one_report : (drift : ℕ) (found others : List HostEvents) (s z : Synced) → AreBoth IsSameHost found others → IsOneAnswer found s z
    → report_text found s.matched s.ambiguous s.fits s.parents s.merged s.placed drift ≡ report_text others z.matched z.ambiguous z.fits z.parents z.merged z.placed drift
one_report drift found others s z both one =
    let hosts = hosts_same drift found others both in
    let size = same_length found others both in
    let matched = one.matched in
    let ambiguous = one.ambiguous in
    let merged = one.merged in
    let placed = one.placed in
    let calls = flat_same call_lines same_calls found others both in
    same_report found s.matched s.ambiguous s.fits z.fits s.parents z.parents s.merged s.placed drift one.pairs (alike_trees found s z one)
    ∙ (λ i. hosts i ++ clocks_part (size i) (matched i) (ambiguous i) z.fits z.parents ++ merge_part (matched i) (merged i) (placed i) ++ time_lines (merged i) ++ calls i ++ codes "end\n")

-- the summary of made traces hangs on no more
pub one_summary : (hosts rounds : ℕ) (found : List HostEvents) (s z : Synced) → IsOneAnswer found s z → made_text hosts rounds s.matched s.ambiguous s.parents s.merged s.placed ≡ made_text hosts rounds z.matched z.ambiguous z.parents z.merged z.placed
one_summary hosts rounds found s z one =
    let matched = one.matched in
    let ambiguous = one.ambiguous in
    let merged = one.merged in
    let placed = one.placed in
    let trees = same_trees s.parents z.parents (alike_trees found s z one) in
    cc
