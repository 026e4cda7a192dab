-- The rows in order, those without a value left out, list the state.
use Rattle.std.proofs.Common.{◌≡◌, ◌≢◌, ◌⊎◌, inl, inr, ℕ, zero, suc, ◌<◌, Bool, true, false, not, cond, if◌then◌else◌, nat_le, List, [], ◌∷◌, ◌++◌, length, map, get_or, Some, is_some, refl, sym, ap, ap₂, ◌∙◌, subst, append_assoc, arith}
use Rattle.std.specs.Prelude.{filter, Contains, IsPermutation, max}
use Rattle.std.specs.List.{AllByRecursion, AllPairs, IsDistinct}
use Rattle.std.specs.Map.{lookup, keys_of}
use Rattle.std.specs.declared.cmp.Ordering.{Ordering}
use Rattle.std.specs.declared.cmp.Ordering.TheVariants.{Less, Equal, Greater}
use Rattle.std.specs.Ordering.{nat_cmp, is_lt, is_eq, ordering_reverse}
use Rattle.std.specs.Cmp.Lexicographic.{slice_cmp, nat_list_cmp_total, texts_ties, bytes_decides}
use Rattle.std.proofs.lemmas.List.{map-append, length-map, get_or-map}
use Rattle.std.proofs.lemmas.List.Sorted.{IsPermutation-map, IsPermutation-sym, Contains-permutation}
use Rattle.std.proofs.lemmas.List.Kept.{AllPairs-filter}
use Rattle.std.proofs.lemmas.Map.Keys.{IsDistinct-head, IsDistinct-tail, IsDistinct-cons, IsDistinct-from_apart, IsDistinct-IsPermutation, apart_from_distinct}
use Rattle.trace_types.specs.declared.path.Path.{Path as AttributePath}
use Rattle.trace_types.specs.declared.value.Value.{Value}
use Rattle.trace_types.specs.declared.value.Value.TheVariants.{Null}
use Rattle.trace_types.specs.declared.event.Merged.{Merged}
use Rattle.trace_types.specs.Same.{same_path, same_value}
use Rattle.trace_types.specs.Paths.{rank_of}
use Rattle.trace_types.proofs.Same.{path_is, path_itself, value_is, value_itself, path_from_rank}
use Rattle.event_list.specs.Order.{RiseFrom}
use Rattle.kernel_provider.specs.declared.rules.Assignment.{Assignment}
use Rattle.kernel_provider.specs.declared.step.Step.{Step}
use Rattle.kernel_provider.specs.Rules.{assignments}
use Rattle.kernel_provider.specs.Replay.{state_at}
use Rattle.kernel_provider.proofs.Keys.{held_keys, new_keys}
use Rattle.kernel_provider.specs.Steps.{Table, value_in, is_held, number_of, is_idle, assigned, all_assigned, assignment_steps, all_assignment_steps, steps_from, steps_of, with_value}
use Rattle.report_views.specs.declared.rows.Row.{Row}
use Rattle.report_views.specs.Rows.{set_value, rows_after}
use Rattle.report_views.specs.StateText.{IsListing, IsBefore, IsNotAfter, has_value}
use Rattle.kernel_provider.proofs.Replayed.{apart}
use Rattle.report_views.proofs.Replayed.{row_of, row_value, advanced, state_values}

abbrev pub paths : List Row → List AttributePath
paths rows = map (λ r. r.path) rows

-- ---- the paths of the rows are those of the table, and differ from one another
set_value_paths : (rows : List Row) (n : ℕ) (v : Value) → paths (set_value rows n v) ≡ paths rows
set_value_paths [] n v = refl
set_value_paths (r ∷ rs) zero v = refl
set_value_paths (r ∷ rs) (suc n) v = ap (λ l. r.path ∷ l) (set_value_paths rs n v)

changed_paths : (b : Bool) (rows : List Row) (n : ℕ) (v : Value) → paths (if b then set_value rows n v else rows) ≡ paths rows
changed_paths true rows n v = set_value_paths rows n v
changed_paths false rows n v = refl

not_among : (table : Table) (p : AttributePath) → is_held table p ≡ false → AllByRecursion (λ k. same_path k p ≡ false) (keys_of table)
not_among [] p h = tt
not_among (e ∷ es) p h = by (same_path p e.0) refl h (not_among es p)
  where
    by : (b : Bool) → same_path p e.0 ≡ b → is_some (cond b (Some e.1) (lookup (same_path p) es)) ≡ false → (is_held es p ≡ false → AllByRecursion (λ k. same_path k p ≡ false) (keys_of es)) → (same_path e.0 p ≡ false) × AllByRecursion (λ k. same_path k p ≡ false) (keys_of es)
    by true is h rest = absurd (cc)
    by false is h rest = (apart p e.0 is, rest h)

one_more : (P : AttributePath → Type 0) (xs : List AttributePath) (y : AttributePath) → AllByRecursion P xs → P y → AllByRecursion P (xs ++ y ∷ [])
one_more P [] y h p = (p, tt)
one_more P (x ∷ xs) y h p = (h.0, one_more P xs y h.1 p)

distinct_nil : IsDistinct same_path []
distinct_nil = IsDistinct-from_apart same_path [] (λ i j d h g. absurd (omega arith))

distinct_push : (xs : List AttributePath) (y : AttributePath) → IsDistinct same_path xs → AllByRecursion (λ k. same_path k y ≡ false) xs → IsDistinct same_path (xs ++ y ∷ [])
distinct_push [] y h g = IsDistinct-cons same_path y [] tt distinct_nil
distinct_push (x ∷ xs) y h g = IsDistinct-cons same_path x (xs ++ y ∷ []) (one_more (λ k. same_path x k ≡ false) xs y (IsDistinct-head same_path x xs h) g.0) (distinct_push xs y (IsDistinct-tail same_path x xs h) g.1)

distinct_assigned : (table : Table) (a : Assignment) → IsDistinct same_path (keys_of table) → IsDistinct same_path (keys_of (assigned table a))
distinct_assigned table a h = by (is_idle table a) (is_held table a.path) refl
  where
    by : (i g : Bool) → is_held table a.path ≡ g → IsDistinct same_path (keys_of (if i then table else with_value table a.path a.value))
    by true g e = h
    by false true e = subst (IsDistinct same_path) (sym (held_keys table a.path a.value e)) h
    by false false e = subst (IsDistinct same_path) (sym (new_keys table a.path a.value e)) (distinct_push (keys_of table) a.path h (not_among table a.path e))

-- rows and a table with the same paths, after the steps of an assignment
walked : (at t : ℕ) (table : Table) (a : Assignment) (rows : List Row) (s : List Step) → paths rows ≡ keys_of table
    → (after : List Row) × (rows_after at rows (assignment_steps t table a ++ s) ≡ rows_after at after s) × (paths after ≡ keys_of (assigned table a))
walked at t table a rows s e = by (is_idle table a) (is_held table a.path) refl refl
  where
    by : (i g : Bool) → is_idle table a ≡ i → is_held table a.path ≡ g → (after : List Row) × (rows_after at rows (assignment_steps t table a ++ s) ≡ rows_after at after s) × (paths after ≡ keys_of (assigned table a))
    by true g i h = (rows, rw i refl, rw i e)
    by false true i h = (
      if nat_le t at then set_value rows (number_of table a.path) a.value else rows,
      rw (i, h) refl,
      rw i (changed_paths (nat_le t at) rows (number_of table a.path) a.value ∙ (e ∙ sym (held_keys table a.path a.value h))),
    )
    by false false i h = (
      if nat_le t at then set_value (rows ++ row_of (a.path, Null) ∷ []) (number_of table a.path) a.value else rows ++ row_of (a.path, Null) ∷ [],
      rw (i, h) refl,
      rw i (changed_paths (nat_le t at) (rows ++ row_of (a.path, Null) ∷ []) (number_of table a.path) a.value ∙ (map-append (λ (r : Row). r.path) rows (row_of (a.path, Null) ∷ []) ∙ (ap (λ l. l ++ a.path ∷ []) e ∙ sym (new_keys table a.path a.value h)))),
    )

all_walked : (at t : ℕ) (table : Table) (as' : List Assignment) (rows : List Row) (s : List Step) → paths rows ≡ keys_of table → IsDistinct same_path (keys_of table)
    → (after : List Row) × (rows_after at rows (all_assignment_steps t table as' ++ s) ≡ rows_after at after s) × (paths after ≡ keys_of (all_assigned table as')) × IsDistinct same_path (keys_of (all_assigned table as'))
all_walked at t table [] rows s e h = (rows, refl, e, h)
all_walked at t table (a ∷ more) rows s e h =
    let one = walked at t table a rows (all_assignment_steps t (assigned table a) more ++ s) e in
    let rest = all_walked at t (assigned table a) more one.0 s one.2 (distinct_assigned table a h) in
    (rest.0, ap (rows_after at rows) (append_assoc (assignment_steps t table a) (all_assignment_steps t (assigned table a) more) s) ∙ (one.1 ∙ rest.1), rest.2, rest.3)

distinct_rows : (at built : ℕ) (table : Table) (ms : List Merged) (rows : List Row) → paths rows ≡ keys_of table → IsDistinct same_path (keys_of table) → IsDistinct same_path (paths (rows_after at rows (steps_from built table ms)))
distinct_rows at built table [] rows e h = subst (IsDistinct same_path) (sym e) h
distinct_rows at built table (m ∷ ms) rows e h =
    let given = assignments (value_in table) m.event in
    let rest = steps_from (max built m.key) (all_assigned table given) ms in
    let w = all_walked at m.key table given rows rest e h in
    subst (λ l. IsDistinct same_path (paths l)) (sym (advanced at built m.key rows _ ∙ w.1)) (distinct_rows at (max built m.key) (all_assigned table given) ms w.0 w.2 w.3)

-- ---- members and values
abbrev Member : Row → List Row → Type 0
Member x [] = ⊥
Member x (y ∷ ys) = (y ≡ x) ⊎ Member x ys

member_of : (rows : List Row) (x : Row) → Contains rows x → Member x rows
member_of rows x c = by rows c.0 c.1 c.2
  where
    by : (rows : List Row) (k : ℕ) → k < length rows → get_or rows k x ≡ x → Member x rows
    by [] k h e = absurd (omega arith)
    by (r ∷ rs) zero h e = inl e
    by (r ∷ rs) (suc k) h e = inr (by rs k (omega arith) e)

contains_of : (rows : List Row) (x : Row) → Member x rows → Contains rows x
contains_of [] x h = absurd h
contains_of (r ∷ rs) x (inl e) = (0, omega arith, e)
contains_of (r ∷ rs) x (inr h) = let c = contains_of rs x h in (suc c.0, omega (arith, c.1), c.2)

kept : (rows : List Row) (x : Row) → Member x rows → has_value x ≡ true → Member x (filter has_value rows)
kept [] x h v = h
kept (r ∷ rs) x h v = by (has_value r) refl h (kept rs x)
  where
    by : (b : Bool) → has_value r ≡ b → (r ≡ x) ⊎ Member x rs → (Member x rs → has_value x ≡ true → Member x (filter has_value rs)) → Member x (if b then r ∷ filter has_value rs else filter has_value rs)
    by true is (inl e) rest = inl e
    by true is (inr m) rest = inr (rest m v)
    by false is (inl e) rest = let k : has_value x ≡ false = subst (λ y. has_value y ≡ false) e is in absurd (cc)
    by false is (inr m) rest = rest m v

was_kept : (rows : List Row) (x : Row) → Member x (filter has_value rows) → Member x rows × (has_value x ≡ true)
was_kept [] x h = absurd h
was_kept (r ∷ rs) x h = by (has_value r) refl h (was_kept rs x)
  where
    by : (b : Bool) → has_value r ≡ b → Member x (if b then r ∷ filter has_value rs else filter has_value rs) → (Member x (filter has_value rs) → Member x rs × (has_value x ≡ true)) → ((r ≡ x) ⊎ Member x rs) × (has_value x ≡ true)
    by true is (inl e) rest = (inl e, subst (λ y. has_value y ≡ true) e is)
    by true is (inr m) rest = let g = rest m in (inr g.0, g.1)
    by false is m rest = let g = rest m in (inr g.0, g.1)

elsewhere : (rows : List Row) (x : Row) (p : AttributePath) → AllByRecursion (λ k. same_path p k ≡ false) (paths rows) → Member x rows → same_path p x.path ≡ false
elsewhere [] x p h m = absurd m
elsewhere (r ∷ rs) x p h (inl e) = subst (λ (y : Row). same_path p y.path ≡ false) e h.0
elsewhere (r ∷ rs) x p h (inr m) = elsewhere rs x p h.1 m

member_value : (rows : List Row) (x : Row) → IsDistinct same_path (paths rows) → Member x rows → row_value rows x.path ≡ x.value
member_value [] x h m = absurd m
member_value (r ∷ rs) x h (inl e) = rw (ap (same_path x.path) (ap (λ (y : Row). y.path) e) ∙ path_itself x.path) (ap (λ (y : Row). y.value) e)
member_value (r ∷ rs) x h (inr m) = rw (apart r.path x.path (elsewhere rs x r.path (IsDistinct-head same_path r.path (paths rs) h) m)) (member_value rs x (IsDistinct-tail same_path r.path (paths rs) h) m)

value_member : (rows : List Row) (x : Row) → row_value rows x.path ≡ x.value → x.value ≢ Null → Member x rows
value_member [] x e some = absurd (some (sym e))
value_member (r ∷ rs) x e some = by (same_path x.path r.path) refl e (value_member rs x)
  where
    by : (b : Bool) → same_path x.path r.path ≡ b → (if b then r.value else row_value rs x.path) ≡ x.value → (row_value rs x.path ≡ x.value → x.value ≢ Null → Member x rs) → (r ≡ x) ⊎ Member x rs
    by true is e rest = inl (ap₂ (λ p v. record { path = p; value = v }) (sym (path_is x.path r.path is)) e)
    by false is e rest = inr (rest e some)

has_some : (x : Row) → has_value x ≡ true → x.value ≢ Null
has_some x h e = let k : same_value x.value Null ≡ true = subst (λ v. same_value x.value v ≡ true) e (value_itself x.value) in let g : not true ≡ true = subst (λ b. not b ≡ true) k h in absurd (cc)

some_has : (x : Row) → x.value ≢ Null → has_value x ≡ true
some_has x some = by (same_value x.value Null) refl
  where
    by : (b : Bool) → same_value x.value Null ≡ b → not b ≡ true
    by true e = absurd (some (value_is x.value Null e))
    by false e = refl

-- ---- order
strictly : (xs ys : List ℕ) → is_lt (slice_cmp nat_cmp ys xs) ≡ false → xs ≢ ys → is_lt (slice_cmp nat_cmp xs ys) ≡ true
strictly xs ys h other = by (slice_cmp nat_cmp ys xs) (slice_cmp nat_cmp xs ys) refl refl h (nat_list_cmp_total.antisymm xs ys)
  where
    by : (o q : Ordering) → slice_cmp nat_cmp ys xs ≡ o → slice_cmp nat_cmp xs ys ≡ q → is_lt o ≡ false → q ≡ ordering_reverse o → is_lt q ≡ true
    by Less q e f h r = absurd (cc)
    by Greater q e f h r = ap is_lt r
    by Equal q e f h r = absurd (other (sym ((bytes_decides ys xs).0 (texts_ties ys xs ∙ ap is_eq e))))

before : (rows : List Row) → IsDistinct same_path (paths rows) → AllPairs IsNotAfter rows → AllPairs IsBefore rows
before rows distinct up i j d below long =
    let a = get_or rows i d in
    let b = get_or rows j d in
    let differ : same_path (get_or (paths rows) i d.path) (get_or (paths rows) j d.path) ≡ false = apart_from_distinct same_path (paths rows) i j d.path distinct below (omega (arith, length-map rows (λ (r : Row). r.path), long)) in
    let other : same_path a.path b.path ≡ false = ap₂ same_path (sym (get_or-map (λ (r : Row). r.path) rows i d d.path (omega (arith, below, long)))) (sym (get_or-map (λ (r : Row). r.path) rows j d d.path long)) ∙ differ in
    strictly (rank_of a.path) (rank_of b.path) (up i j d below long) (λ e. unlike a.path b.path other (path_from_rank a.path b.path e))
  where
    unlike : (p q : AttributePath) → same_path p q ≡ false → p ≡ q → ⊥
    unlike p q h e = let k : same_path p q ≡ true = subst (λ x. same_path p x ≡ true) e (path_itself p) in absurd (cc)

flips : (p q : AttributePath) → same_path p q ≡ same_path q p
flips p q = by (same_path p q) (same_path q p) refl refl
  where
    by : (b c : Bool) → same_path p q ≡ b → same_path q p ≡ c → b ≡ c
    by true true e f = refl
    by false false e f = refl
    by true false e f = let k = apart q p f in absurd (cc)
    by false true e f = let k = apart p q e in absurd (cc)

-- ---- the whole
pub listing : (events : List Merged) (at : ℕ) (sorted : List Row) → RiseFrom 0 events → IsPermutation (rows_after at [] (steps_of events)) sorted → AllPairs IsNotAfter sorted → IsListing (state_at events at) (filter has_value sorted)
listing events at sorted rise perm up =
    let rows = rows_after at [] (steps_of events) in
    let distinct : IsDistinct same_path (paths rows) = distinct_rows at 0 [] events [] refl distinct_nil in
    record {
      exact = λ x. (
        (λ c. let m = was_kept sorted x (member_of (filter has_value sorted) x c) in
            let back = member_of rows x (Contains-permutation sorted rows x (IsPermutation-sym rows sorted perm) (contains_of sorted x m.0)) in
            (sym (state_values events at x.path rise) ∙ member_value rows x distinct back, has_some x m.1)),
        (λ h. let m = value_member rows x (state_values events at x.path rise ∙ h.0) h.1 in
            contains_of (filter has_value sorted) x (kept sorted x (member_of sorted x (Contains-permutation rows sorted x perm (contains_of rows x m))) (some_has x h.1))),
      );
      order = AllPairs-filter IsBefore has_value sorted (before sorted (IsDistinct-IsPermutation same_path flips (paths rows) (paths sorted) (IsPermutation-map (λ (r : Row). r.path) rows sorted perm) distinct) up);
    }
