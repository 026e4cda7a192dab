-- A sum over instants is the sum over stretches in which nothing changes.
use Rattle.std.proofs.Common.{◌≡◌, ℕ, ◌+◌, ◌-◌, ◌<◌, ◌≤◌, Bool, true, false, if◌then◌else◌, nat_le, List, [], ◌∷◌, ◌++◌, length, get_or, refl, sym, ap, ◌∙◌, arith, subst, length-append, append_assoc, append-nil}
use Rattle.std.specs.Prelude.{count_by}
use Rattle.std.specs.List.{range_with_len}
use Rattle.std.specs.Map.{keys_of}
use Rattle.std.proofs.lemmas.Bool.{le-leb, lt-leb}
use Rattle.trace_types.specs.declared.path.Path.{Path as AttributePath}
use Rattle.trace_types.specs.declared.value.Value.{Value}
use Rattle.trace_types.specs.declared.value.Value.TheVariants.{Null}
use Rattle.kernel_provider.specs.declared.step.Step.{Step}
use Rattle.kernel_provider.specs.declared.step.Step.TheVariants.{Advance, Add, Change, Finish}
use Rattle.kernel_provider.specs.Steps.{Table}
use Rattle.kernel_provider.proofs.Replayed as replayed
use Rattle.state_times.specs.declared.row.Row.{Row}
use Rattle.state_times.specs.Rows.{changed, changed_at, fresh, rows_after}
use Rattle.state_times.specs.Times.{added}
use Rattle.state_times.proofs.Coming.{AreSteps}
use Rattle.state_times.proofs.Counting.{count_constant, count_same, count_split}
use Rattle.state_times.proofs.Placed.{at_number, changed_length, is_number, keys_changed, keys_pushed, row_changed, row_pushed, value_changed, value_pushed}

-- the value of a number at an instant, after steps
abbrev pub value_after : ℕ → ℕ → Value → List Step → Value
value_after at i v [] = v
value_after at i v (Advance t ∷ s) = value_after at i v s
value_after at i v (Add p ∷ s) = value_after at i v s
value_after at i v (Change t n w ∷ s) = value_after at i (if is_number n i then (if nat_le t at then w else v) else v) s
value_after at i v (Finish ∷ s) = value_after at i v s

-- the row of a number, after steps
abbrev pub row_after : ℕ → Row → List Step → Row
row_after i r [] = r
row_after i r (Advance t ∷ s) = row_after i r s
row_after i r (Add p ∷ s) = row_after i r s
row_after i r (Change t n w ∷ s) = row_after i (if is_number n i then changed r t w else r) s
row_after i r (Finish ∷ s) = row_after i r s

module _ (first last : ℕ) where
  -- among all rows
  pub among_rows : (paths : List AttributePath) (rows : List Row) (least i : ℕ) (s : List Step) → length rows ≡ length paths → AreSteps paths least last s → get_or (rows_after first rows s) i (fresh first) ≡ row_after i (get_or rows i (fresh first)) s
  among_rows paths rows least i [] long h = refl
  among_rows paths rows least i (Advance t ∷ s) long h = among_rows paths rows least i s long h
  among_rows paths rows least i (Add p ∷ s) long h =
      among_rows (paths ++ p ∷ []) (rows ++ fresh first ∷ []) least i s (omega (arith, long, length-append rows (fresh first ∷ []), length-append paths (p ∷ []))) h.1
      ∙ ap (λ r. row_after i r s) (row_pushed rows first i)
  among_rows paths rows least i (Change t n w ∷ s) long h =
      among_rows paths (changed_at rows n t w) t i s (changed_length rows n t w ∙ long) h.3
      ∙ ap (λ r. row_after i r s) (row_changed rows n t i w (fresh first) (omega (arith, h.0, long)))
  among_rows paths rows least i (Finish ∷ s) long h = among_rows paths rows least i s long h

module _ (last at : ℕ) where
  -- among all values
  pub among_values : (table : Table) (least i : ℕ) (s : List Step) → AreSteps (keys_of table) least last s → at_number (replayed.table_after at table s) i ≡ value_after at i (at_number table i) s
  among_values table least i [] h = refl
  among_values table least i (Advance t ∷ s) h = among_values table least i s h
  among_values table least i (Add p ∷ s) h =
      among_values (table ++ (p, Null) ∷ []) least i s (subst (λ l. AreSteps l least last s) (sym (keys_pushed table p)) h.1)
      ∙ ap (λ v. value_after at i v s) (value_pushed table p i)
  among_values table least i (Change t n w ∷ s) h =
      by (nat_le t at) (among_values (replayed.set_value table n w) t i s (subst (λ l. AreSteps l t last s) (sym (keys_changed table n w)) h.3)) (among_values table t i s h.3)
    where
      same : (c : Bool) (v : Value) → v ≡ (if c then v else v)
      same true v = refl
      same false v = refl

      by : (b : Bool) → at_number (replayed.table_after at (replayed.set_value table n w) s) i ≡ value_after at i (at_number (replayed.set_value table n w) i) s
          → at_number (replayed.table_after at table s) i ≡ value_after at i (at_number table i) s
          → at_number (replayed.table_after at (if b then replayed.set_value table n w else table) s) i ≡ value_after at i (if is_number n i then (if b then w else at_number table i) else at_number table i) s
      by true set kept = set ∙ ap (λ v. value_after at i v s) (value_changed table n i w h.0)
      by false set kept = kept ∙ ap (λ v. value_after at i v s) (same (is_number n i) (at_number table i))
  among_values table least i (Finish ∷ s) h = among_values table least i s h

  -- the paths are those that were added
  pub among_paths : (table : Table) (s : List Step) → keys_of (replayed.table_after at table s) ≡ keys_of table ++ added s
  among_paths table [] = sym (append-nil (keys_of table))
  among_paths table (Advance t ∷ s) = among_paths table s
  among_paths table (Add p ∷ s) = among_paths (table ++ (p, Null) ∷ []) s ∙ (ap (λ l. l ++ added s) (keys_pushed table p) ∙ append_assoc (keys_of table) (p ∷ []) (added s))
  among_paths table (Change t n w ∷ s) = by (nat_le t at) (among_paths (replayed.set_value table n w) s ∙ ap (λ l. l ++ added s) (keys_changed table n w)) (among_paths table s)
    where
      by : (b : Bool) → keys_of (replayed.table_after at (replayed.set_value table n w) s) ≡ keys_of table ++ added s → keys_of (replayed.table_after at table s) ≡ keys_of table ++ added s
          → keys_of (replayed.table_after at (if b then replayed.set_value table n w else table) s) ≡ keys_of table ++ added s
      by true set kept = set
      by false set kept = kept
  among_paths table (Finish ∷ s) = among_paths table s

module _ (i last : ℕ) where
  -- before the next change
  early : (paths : List AttributePath) (least u : ℕ) (v : Value) (s : List Step) → u < least → AreSteps paths least last s → value_after u i v s ≡ v
  early paths least u v [] low h = refl
  early paths least u v (Advance t ∷ s) low h = early paths least u v s low h
  early paths least u v (Add p ∷ s) low h = early (paths ++ p ∷ []) least u v s low h.1
  early paths least u v (Change t n w ∷ s) low h =
      ap (λ x. value_after u i x s) (ap (λ b. if is_number n i then (if b then w else v) else v) (lt-leb t u (omega (arith, low, h.1))) ∙ by (is_number n i))
      ∙ early paths t u v s (omega (arith, low, h.1)) h.3
    where
      by : (c : Bool) → (if c then v else v) ≡ v
      by true = refl
      by false = refl
  early paths least u v (Finish ∷ s) low h = early paths least u v s low h

  -- after all changes
  pub late : (paths : List AttributePath) (least : ℕ) (r : Row) (s : List Step) → AreSteps paths least last s → (row_after i r s).value ≡ value_after last i r.value s
  late paths least r [] h = refl
  late paths least r (Advance t ∷ s) h = late paths least r s h
  late paths least r (Add p ∷ s) h = late (paths ++ p ∷ []) least r s h.1
  late paths least r (Change t n w ∷ s) h = by (is_number n i) (late paths t (changed r t w) s h.3) (late paths t r s h.3)
    where
      by : (c : Bool) → (row_after i (changed r t w) s).value ≡ value_after last i w s → (row_after i r s).value ≡ value_after last i r.value s
          → (row_after i (if c then changed r t w else r) s).value ≡ value_after last i (if c then (if nat_le t last then w else r.value) else r.value) s
      by true set kept = set ∙ ap (λ b. value_after last i (if b then w else r.value) s) (sym (le-leb t last h.2))
      by false set kept = kept
  late paths least r (Finish ∷ s) h = late paths least r s h

  -- a sum of a row counts the instants at which its value is of a kind
  module _ (is : Value → Bool) (sum : Row → ℕ) (more : (r : Row) (t : ℕ) (w : Value) → sum (changed r t w) ≡ sum r + (if is r.value then t - r.since else 0)) where
    abbrev counted : Row → List Step → ℕ
    counted r s = count_by (λ u. is (value_after u i r.value s)) (range_with_len r.since (last - r.since))

    pub stretches : (paths : List AttributePath) (least : ℕ) (r : Row) (s : List Step) → r.since ≤ least → least ≤ last → AreSteps paths least last s
        → sum (changed (row_after i r s) last (row_after i r s).value) ≡ sum r + counted r s
    stretches paths least r [] low high h = more r last r.value ∙ ap (λ n. sum r + n) (sym (count_constant (is r.value) r.since (last - r.since)))
    stretches paths least r (Advance t ∷ s) low high h = stretches paths least r s low high h
    stretches paths least r (Add p ∷ s) low high h = stretches (paths ++ p ∷ []) least r s low high h.1
    stretches paths least r (Change t n w ∷ s) low high h = by (is_number n i) (stretches paths t (changed r t w) s (omega arith) h.2 h.3) (stretches paths t r s (omega (arith, low, h.1)) h.2 h.3)
      where
        test : ℕ → Bool
        test u = is (value_after u i (if nat_le t u then w else r.value) s)

        before : count_by test (range_with_len r.since (t - r.since)) ≡ (if is r.value then t - r.since else 0)
        before =
            count_same test (λ u. is r.value) r.since (t - r.since) (λ u from to. ap is (
            ap (λ b. value_after u i (if b then w else r.value) s) (lt-leb t u (omega (arith, to, low, h.1)))
            ∙ early paths t u r.value s (omega (arith, to, low, h.1)) h.3))
            ∙ count_constant (is r.value) r.since (t - r.since)

        after : count_by test (range_with_len t (last - t)) ≡ counted (changed r t w) s
        after = count_same test (λ u. is (value_after u i w s)) t (last - t) (λ u from to. ap (λ b. is (value_after u i (if b then w else r.value) s)) (le-leb t u from))

        by : (c : Bool) → sum (changed (row_after i (changed r t w) s) last (row_after i (changed r t w) s).value) ≡ sum (changed r t w) + counted (changed r t w) s
            → sum (changed (row_after i r s) last (row_after i r s).value) ≡ sum r + counted r s
            → sum (changed (row_after i (if c then changed r t w else r) s) last (row_after i (if c then changed r t w else r) s).value)
            ≡ sum r + count_by (λ u. is (value_after u i (if c then (if nat_le t u then w else r.value) else r.value) s)) (range_with_len r.since (last - r.since))
        by true set kept =
            let both = count_split test r.since (t - r.since) (last - t) t (last - r.since) (omega (arith, low, h.1)) (omega (arith, low, h.1, h.2)) in
            omega (arith, set, more r t w, both, before, after)
        by false set kept = kept
    stretches paths least r (Finish ∷ s) low high h = stretches paths least r s low high h
