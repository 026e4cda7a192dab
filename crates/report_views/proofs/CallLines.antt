-- The counts of calls, and the calls in order.
use Rattle.std.proofs.Common.{◌≡◌, ◌≢◌, ◌⊎◌, inl, inr, ℕ, zero, suc, ◌+◌, ◌^◌, ◌<◌, ◌≤◌, Bool, true, false, if◌then◌else◌, nat_lt, List, [], ◌∷◌, ◌++◌, length, map, get_or, take, slice_set, add-one, add-zero, zero-add, codes, refl, sym, ap, ap₂, ◌∙◌, subst, arith}
use Rattle.std.specs.Prelude.{filter, flat_map, ◌==◌, All}
use Rattle.std.specs.List.{AllByRecursion, range_with_len}
use Rattle.std.specs.Fmt.{decimal}
use Rattle.std.specs.Ordering.{nat_cmp, is_eq, ordering_reverse, ordering_then, then_cmp}
use Rattle.std.specs.Cmp.{IsTotalOrder, nat_cmp_total, then_total}
use Rattle.std.specs.Cmp.Lexicographic.{slice_cmp, nat_list_cmp_total, texts_ties, bytes_decides}
use Rattle.std.specs.declared.cmp.Ordering.{Ordering}
use Rattle.std.specs.declared.cmp.Ordering.TheVariants.{Less, Equal, Greater}
use Rattle.std.proofs.lemmas.List.Sums.{count_by-le-length, count_by_more_no, count_by_more_yes}
use Rattle.std.proofs.lemmas.Bool.{cases_order}
use Rattle.std.proofs.lemmas.Bool.Decides.{eqb_tells}
use Rattle.std.proofs.lemmas.Grind.{common_steps}
use Rattle.trace_types.specs.ByteTexts.{byte_text}
use Rattle.trace_types.specs.declared.event.Event.{Event}
use Rattle.trace_types.specs.declared.event.KernelEvent.{KernelEvent}
use Rattle.trace_types.specs.declared.event.KernelEvent.TheVariants.{CallIn}
use Rattle.report_views.specs.declared.call_lines.Call.{Call}
use Rattle.report_views.specs.CallLines.{AreCalls, call_count, call_line, call_of, calls_below, compare_calls, counted_kind, counted_lines, is_call, is_kind_call, set_more}
use Rattle.report_views.specs.Ordered.{ordered}
use Rattle.report_views.proofs.Ordered.{all_ordered}

-- ---- one more
pub more_there : (ns : List ℕ) (i n : ℕ) → n ≡ get_or ns i n → slice_set ns i (n + 1) ≡ set_more ns i
more_there [] i n e = refl
more_there (m ∷ ms) zero n e = ap (λ k. (k + 1) ∷ ms) e
more_there (m ∷ ms) (suc i) n e = ap (λ l. m ∷ l) (more_there ms i n e)

pub more_past : (ns : List ℕ) (i : ℕ) → length ns ≤ i → ns ≡ set_more ns i
more_past [] i h = refl
more_past (m ∷ ms) zero h = absurd (omega arith)
more_past (m ∷ ms) (suc i) h = ap (λ l. m ∷ l) (more_past ms i (omega arith))

add_nothing : (n : ℕ) → n ≡ n + 0
add_nothing n = sym (add-zero n)

-- ---- the order of calls
unlike : (a b : ℕ) → a < b → nat_cmp a b ≡ Equal → ⊥
unlike a b less h = let k : nat_cmp a b ≡ Less = grind (arith, common_steps) in absurd (cc)

pub calls_total : IsTotalOrder compare_calls
calls_total = record {
  antisymm = λ a b. both.antisymm a b;
  trans = λ a b c. both.trans a b c;
  congr = λ a b c. both.congr a b c;
}
  where
    by_name : IsTotalOrder (λ (a b : Call). slice_cmp nat_cmp a.name b.name)
    by_name = record {
      antisymm = λ a b. nat_list_cmp_total.antisymm a.name b.name;
      trans = λ a b c. nat_list_cmp_total.trans a.name b.name c.name;
      congr = λ a b c. nat_list_cmp_total.congr a.name b.name c.name;
    }

    by_number : IsTotalOrder (λ (a b : Call). nat_cmp a.number b.number)
    by_number = record {
      antisymm = λ a b. nat_cmp_total.antisymm a.number b.number;
      trans = λ a b c. nat_cmp_total.trans a.number b.number c.number;
      congr = λ a b c. nat_cmp_total.congr a.number b.number c.number;
    }

    both : IsTotalOrder (then_cmp (λ (a b : Call). slice_cmp nat_cmp a.name b.name) (λ (a b : Call). nat_cmp a.number b.number))
    both = then_total by_name by_number

pub calls_tie : (a b : Call) → compare_calls a b ≡ Equal → a ≡ b
calls_tie a b e = by (slice_cmp nat_cmp a.name b.name) refl e
  where
    number : nat_cmp a.number b.number ≡ Equal → a.number ≡ b.number
    number h = by_order (cases_order a.number b.number)
      where
        by_order : (a.number ≡ b.number) ⊎ ((a.number < b.number) ⊎ (b.number < a.number)) → a.number ≡ b.number
        by_order (inl same) = same
        by_order (inr (inl less)) = absurd (unlike a.number b.number less h)
        by_order (inr (inr less)) = absurd (unlike b.number a.number less (nat_cmp_total.antisymm b.number a.number ∙ ap ordering_reverse h))

    by : (q : Ordering) → slice_cmp nat_cmp a.name b.name ≡ q → ordering_then q (nat_cmp a.number b.number) ≡ Equal → a ≡ b
    by Less f h = absurd (cc)
    by Greater f h = absurd (cc)
    by Equal f h = ap₂ (λ n k. record { name = n; number = k }) ((bytes_decides a.name b.name).0 (texts_ties a.name b.name ∙ ap is_eq f)) (number h)

-- ---- counts
any_default : (ns : List ℕ) (k d : ℕ) → k < length ns → get_or ns k d ≡ get_or ns k 0
any_default [] k d h = absurd (omega (arith, h))
any_default (n ∷ ns) zero d h = refl
any_default (n ∷ ns) (suc k) d h = any_default ns k d (omega (arith, h))

more_same : (ns : List ℕ) (k : ℕ) → k < length ns → get_or (set_more ns k) k 0 ≡ get_or ns k 0 + 1
more_same [] k h = absurd (omega (arith, h))
more_same (n ∷ ns) zero h = refl
more_same (n ∷ ns) (suc k) h = more_same ns k (omega (arith, h))

more_other : (ns : List ℕ) (i k : ℕ) → i ≢ k → get_or (set_more ns i) k 0 ≡ get_or ns k 0
more_other [] i k h = refl
more_other (n ∷ ns) zero zero h = absurd (h refl)
more_other (n ∷ ns) zero (suc k) h = refl
more_other (n ∷ ns) (suc i) zero h = refl
more_other (n ∷ ns) (suc i) (suc k) h = more_other ns i k (λ e. h (ap suc e))

more_length : (ns : List ℕ) (i : ℕ) → length (set_more ns i) ≡ length ns
more_length [] i = refl
more_length (n ∷ ns) zero = refl
more_length (n ∷ ns) (suc i) = ap suc (more_length ns i)

kind_length : (kind : KernelEvent) (ns : List ℕ) → length (counted_kind kind ns) ≡ length ns
kind_length (CallIn name) ns = more_length ns name
kind_length kind ns = refl

kind_more : (kind : KernelEvent) (ns : List ℕ) (k : ℕ) → k < length ns → get_or (counted_kind kind ns) k 0 ≡ get_or ns k 0 + (if is_kind_call k kind then 1 else 0)
kind_more (CallIn name) ns k h = by (eqb_tells name k)
  where
    by : ((name == k ≡ true) × (name ≡ k)) ⊎ ((name == k ≡ false) × (name ≢ k)) → get_or (set_more ns name) k 0 ≡ get_or ns k 0 + (if name == k then 1 else 0)
    by (inl x) = ap (λ i. get_or (set_more ns i) k 0) x.1 ∙ (more_same ns k h ∙ ap (λ b. get_or ns k 0 + (if b then 1 else 0)) (sym x.0))
    by (inr x) = more_other ns name k x.1 ∙ (add_nothing (get_or ns k 0) ∙ ap (λ b. get_or ns k 0 + (if b then 1 else 0)) (sym x.0))
kind_more kind ns k h = add_nothing (get_or ns k 0)

count_more : (events : List Event) (i : ℕ) (e : Event) (k : ℕ) → i < length events → e ≡ get_or events i e → call_count (take (i + 1) events) k ≡ call_count (take i events) k + (if is_call k e then 1 else 0)
count_more events i e k inside is = by (is_call k e) refl
  where
    by : (b : Bool) → is_call k e ≡ b → call_count (take (i + 1) events) k ≡ call_count (take i events) k + (if b then 1 else 0)
    by true h = count_by_more_yes (is_call k) events i e inside (ap (is_call k) (sym is) ∙ h)
    by false h = count_by_more_no (is_call k) events i e inside (ap (is_call k) (sym is) ∙ h) ∙ add_nothing (call_count (take i events) k)

pub calls_more : (names : ℕ) (events : List Event) (i : ℕ) (e : Event) (counts : List ℕ) → i < length events → e ≡ get_or events i e → AreCalls names (take i events) counts → AreCalls names (take (i + 1) events) (counted_kind e.kind counts)
calls_more names events i e counts inside is before = record {
  count = kind_length e.kind counts ∙ before.count;
  each = λ k below.
      kind_more e.kind counts k (omega (arith, below, before.count))
      ∙ (ap (λ n. n + (if is_call k e then 1 else 0)) (before.each k below) ∙ sym (count_more events i e k inside is));
}

pub calls_few : (names : ℕ) (events : List Event) (counts : List ℕ) → length events < 2 ^ 60 → AreCalls names events counts → All (λ n. n < 2 ^ 60) counts
calls_few names events counts few are k d inside =
    let a = any_default counts k d inside in
    let b = are.each k (omega (arith, inside, are.count)) in
    let c = count_by-le-length (is_call k) events in
    omega (arith, few, a, b, c)

-- ---- the calls that were made
module _ (names : List (List ℕ)) (count : ℕ → ℕ) where
  abbrev made : ℕ → List Call
  made k = if nat_lt 0 (count k) then call_of names k ∷ [] else []

  abbrev from_to : ℕ → ℕ → List Call
  from_to a n = map (call_of names) (filter (λ k. nat_lt 0 (count k)) (range_with_len a n))

  next_call : (a n : ℕ) → from_to a (suc n) ≡ from_to a n ++ made (a + n)
  next_call a zero = by (nat_lt 0 (count a)) refl
    where
      here : made a ≡ made (a + zero)
      here = ap made (sym (add-zero a))

      by : (b : Bool) → nat_lt 0 (count a) ≡ b → map (call_of names) (if b then a ∷ [] else []) ≡ made (a + zero)
      by true e = ap (λ c. if c then call_of names a ∷ [] else []) (sym e) ∙ here
      by false e = ap (λ c. if c then call_of names a ∷ [] else []) (sym e) ∙ here
  next_call a (suc n) = by (nat_lt 0 (count a)) (next_call (a + 1) n ∙ ap (λ k. from_to (a + 1) n ++ made k) (omega arith))
    where
      by : (b : Bool) → from_to (a + 1) (suc n) ≡ from_to (a + 1) n ++ made (a + suc n)
          → map (call_of names) (if b then a ∷ filter (λ k. nat_lt 0 (count k)) (range_with_len (a + 1) (suc n)) else filter (λ k. nat_lt 0 (count k)) (range_with_len (a + 1) (suc n)))
          ≡ map (call_of names) (if b then a ∷ filter (λ k. nat_lt 0 (count k)) (range_with_len (a + 1) n) else filter (λ k. nat_lt 0 (count k)) (range_with_len (a + 1) n)) ++ made (a + suc n)
      by true e = ap (λ l. call_of names a ∷ l) e
      by false e = e

  pub call_more : (n : ℕ) → calls_below names count (n + 1) ≡ calls_below names count n ++ made n
  call_more n = ap (calls_below names count) (add-one n) ∙ (next_call 0 n ∙ ap (λ k. calls_below names count n ++ made k) (zero-add n))

  pub all_below : (a n : ℕ) → AllByRecursion (λ (c : Call). c.number < a + n) (from_to a n)
  all_below a zero = tt
  all_below a (suc n) = by (nat_lt 0 (count a)) (subst (λ m. AllByRecursion (λ (c : Call). c.number < m) (from_to (a + 1) n)) (omega arith) (all_below (a + 1) n))
    where
      by : (b : Bool) → AllByRecursion (λ (c : Call). c.number < a + suc n) (from_to (a + 1) n)
          → AllByRecursion (λ (c : Call). c.number < a + suc n) (map (call_of names) (if b then a ∷ filter (λ k. nat_lt 0 (count k)) (range_with_len (a + 1) n) else filter (λ k. nat_lt 0 (count k)) (range_with_len (a + 1) n)))
      by true h = (omega arith, h)
      by false h = h

-- ---- counts that agree on the names
same_calls : (names : List (List ℕ)) (f g : ℕ → ℕ) (a n : ℕ) → ((k : ℕ) → k < a + n → f k ≡ g k) → from_to names f a n ≡ from_to names g a n
same_calls names f g a zero same = refl
same_calls names f g a (suc n) same =
    ap (λ m. map (call_of names) (if nat_lt 0 m then a ∷ filter (λ k. nat_lt 0 (f k)) (range_with_len (a + 1) n) else filter (λ k. nat_lt 0 (f k)) (range_with_len (a + 1) n))) (same a (omega arith))
    ∙ by (nat_lt 0 (g a)) (same_calls names f g (a + 1) n (λ k h. same k (omega (arith, h))))
  where
    by : (b : Bool) → from_to names f (a + 1) n ≡ from_to names g (a + 1) n
        → map (call_of names) (if b then a ∷ filter (λ k. nat_lt 0 (f k)) (range_with_len (a + 1) n) else filter (λ k. nat_lt 0 (f k)) (range_with_len (a + 1) n))
        ≡ map (call_of names) (if b then a ∷ filter (λ k. nat_lt 0 (g k)) (range_with_len (a + 1) n) else filter (λ k. nat_lt 0 (g k)) (range_with_len (a + 1) n))
    by true e = ap (λ l. call_of names a ∷ l) e
    by false e = e

same_call_lines : (host n : ℕ) (f g : ℕ → ℕ) (calls : List Call) → ((k : ℕ) → k < n → f k ≡ g k) → AllByRecursion (λ (c : Call). c.number < n) calls → flat_map (call_line host f) calls ≡ flat_map (call_line host g) calls
same_call_lines host n f g [] same h = refl
same_call_lines host n f g (c ∷ cs) same h =
    ap₂ (λ m l. (codes "calls " ++ decimal host ++ 32 ∷ byte_text c.name ++ 32 ∷ decimal m ++ 10 ∷ []) ++ l) (same c.number h.0) (same_call_lines host n f g cs same h.1)

pub counted_same : (host : ℕ) (names : List (List ℕ)) (f g : ℕ → ℕ) → ((k : ℕ) → k < length names → f k ≡ g k) → counted_lines host names f ≡ counted_lines host names g
counted_same host names f g same =
    let n = length names in
    let within : AllByRecursion (λ (c : Call). c.number < n) (calls_below names f n) = subst (λ m. AllByRecursion (λ (c : Call). c.number < m) (calls_below names f n)) (zero-add n) (all_below names f 0 n) in
    same_call_lines host n f g (ordered compare_calls (calls_below names f n)) same (all_ordered compare_calls calls_total calls_tie (λ (c : Call). c.number < n) (calls_below names f n) within)
    ∙ ap (λ cs. flat_map (call_line host g) (ordered compare_calls cs)) (same_calls names f g 0 n (λ k h. same k (omega (arith, h))))
