-- Times that stand for a merge tell its lines.
use Rattle.std.proofs.Common.{◌≡◌, ℕ, zero, suc, ◌+◌, ◌-◌, Bool, true, false, if◌then◌else◌, Some, List, [], ◌∷◌, ◌++◌, take, slice_get, add-one, refl, ap, ap₂, ◌∙◌, arith}
use Rattle.std.specs.Prelude.{flat_map, filter}
use Rattle.std.specs.Ordering.{is_eq}
use Rattle.std.specs.Cmp.{IsTotalOrder}
use Rattle.std.specs.Cmp.Lexicographic.{nat_list_cmp_total, texts_ties, bytes_decides}
use Rattle.std.specs.declared.cmp.Ordering.TheVariants.{Equal}
use Rattle.trace_types.specs.Paths.{rank_of}
use Rattle.trace_types.specs.declared.event.Merged.{Merged}
use Rattle.trace_types.specs.declared.path.Path.{Path as AttributePath}
use Rattle.trace_types.specs.declared.path.Path.TheVariants as path
use Rattle.trace_types.specs.declared.path.CpuLeaf.TheVariants as cpu_leaf
use Rattle.trace_types.specs.declared.path.ThreadLeaf.TheVariants as thread_leaf
use Rattle.trace_types.proofs.Same.{path_from_rank}
use Rattle.state_times.specs.Rows.{Times}
use Rattle.state_times.specs.StandsFor.{StandsFor, times_at}
use Rattle.state_times.specs.Times.{is_busy, is_set, is_unset, is_zero, time_with}
use Rattle.state_times.proofs.Filling.{set_fills, times_fill}
use Rattle.report_views.specs.Ordered.{ordered}
use Rattle.report_views.specs.TimeLines.{compare_paths, cpu_line, cpu_told, cpu_words, has_line, lined, set_time, thread_line, thread_told, thread_words, time_lines}

-- ---- the order of paths
pub paths_total : IsTotalOrder compare_paths
paths_total = record {
  antisymm = λ p q. nat_list_cmp_total.antisymm (rank_of p) (rank_of q);
  trans = λ p q r. nat_list_cmp_total.trans (rank_of p) (rank_of q) (rank_of r);
  congr = λ p q r. nat_list_cmp_total.congr (rank_of p) (rank_of q) (rank_of r);
}

pub paths_tie : (p q : AttributePath) → compare_paths p q ≡ Equal → p ≡ q
paths_tie p q e = path_from_rank p q ((bytes_decides (rank_of p) (rank_of q)).0 (texts_ties (rank_of p) (rank_of q) ∙ ap is_eq e))

-- ---- the lines
module _ (merged : List Merged) (times : Times) (stands : StandsFor merged times) where
  zero_is : (p : AttributePath) → (times_at times p).zero ≡ time_with is_zero merged p
  zero_is p = ap (λ t. t.zero) (stands.exact p)

  unset_is : (p : AttributePath) → (times_at times p).unset ≡ time_with is_unset merged p
  unset_is p = ap (λ t. t.unset) (stands.exact p)

  set_is : (p : AttributePath) → set_time times p ≡ time_with is_set merged p
  set_is p = let a = stands.first in let b = stands.last in let c = unset_is p in let d = set_fills merged p in omega (arith, a, b, c, d)

  busy_is : (p : AttributePath) → set_time times p - (times_at times p).zero ≡ time_with is_busy merged p
  busy_is p = let a = stands.first in let b = stands.last in let c = unset_is p in let d = zero_is p in let e = times_fill merged p in omega (arith, a, b, c, d, e)

  cpu_is : (p : AttributePath) → cpu_told times p ≡ cpu_line merged p
  cpu_is (path.Cpu host cpu leaf) =
      let thread = path.Cpu host cpu cpu_leaf.Thread in
      let a = busy_is thread in
      let b = zero_is thread in
      let c = unset_is thread in
      let d = set_is (path.Cpu host cpu cpu_leaf.Irq) in
      let e = set_is (path.Cpu host cpu cpu_leaf.Softirq) in
      λ i. cpu_words host cpu (a i) (b i) (c i) (d i) (e i)
  cpu_is (path.Thread host thread leaf) = refl

  thread_is : (p : AttributePath) → thread_told times p ≡ thread_line merged p
  thread_is (path.Cpu host cpu leaf) = refl
  thread_is (path.Thread host thread leaf) =
      ap₂ (thread_words host thread) (ap (λ t. t.last) (stands.exact (path.Thread host thread thread_leaf.Name))) (ap (λ t. t.one) (stands.exact (path.Thread host thread thread_leaf.Status)))

  pub lines_told : (paths : List AttributePath) → paths ≡ ordered compare_paths (filter has_line times.paths) → flat_map (cpu_told times) paths ++ flat_map (thread_told times) paths ≡ time_lines merged
  lines_told paths are =
      let here : paths ≡ lined merged = are ∙ ap (λ ps. ordered compare_paths (filter has_line ps)) stands.paths in
      ap₂ (λ (f g : AttributePath → List ℕ). flat_map f paths ++ flat_map g paths) (λ i p. cpu_is p i) (λ i p. thread_is p i)
      ∙ ap (λ ps. flat_map (cpu_line merged) ps ++ flat_map (thread_line merged) ps) here

-- ---- the paths that have lines, one more
next_path : (xs : List AttributePath) (i : ℕ) (p : AttributePath) → slice_get xs i ≡ Some p → filter has_line (take (suc i) xs) ≡ filter has_line (take i xs) ++ (if has_line p then p ∷ [] else [])
next_path [] i p e = absurd (cc)
next_path (x ∷ xs) zero p e = let same : x ≡ p = cc in ap (λ q. filter has_line (q ∷ [])) same
next_path (x ∷ xs) (suc i) p e = by (has_line x) (next_path xs i p e)
  where
    more : List AttributePath
    more = if has_line p then p ∷ [] else []

    by : (b : Bool) → filter has_line (take (suc i) xs) ≡ filter has_line (take i xs) ++ more → (if b then x ∷ filter has_line (take (suc i) xs) else filter has_line (take (suc i) xs)) ≡ (if b then x ∷ filter has_line (take i xs) else filter has_line (take i xs)) ++ more
    by true h = ap (λ l. x ∷ l) h
    by false h = h

pub path_more : (xs : List AttributePath) (i : ℕ) (p : AttributePath) → slice_get xs i ≡ Some p → filter has_line (take (i + 1) xs) ≡ filter has_line (take i xs) ++ (if has_line p then p ∷ [] else [])
path_more xs i p e = ap (λ n. filter has_line (take n xs)) (add-one i) ∙ next_path xs i p e
