-- Which steps can follow which: new paths, and changes of these at instants that never fall.
use Rattle.std.proofs.Common.{◌≡◌, ℕ, suc, ◌+◌, ◌<◌, ◌≤◌, max, Bool, true, false, not, cond, if◌then◌else◌, nat_lt, List, [], ◌∷◌, ◌++◌, length, is_some, Some, refl, sym, subst, arith, append_assoc, append-nil, length-append}
use Rattle.std.specs.List.{AllByRecursion, IsDistinct, position_or_len}
use Rattle.std.specs.Map.{lookup, keys_of}
use Rattle.trace_types.specs.declared.path.Path.{Path as AttributePath}
use Rattle.trace_types.specs.declared.event.Merged.{Merged}
use Rattle.trace_types.specs.Same.{same_path}
use Rattle.trace_types.specs.Order.{RiseFrom}
use Rattle.attribute_tree.specs.Numbered.{IsNew}
use Rattle.attribute_tree.proofs.Numbers.{end_number, no_number}
use Rattle.kernel_provider.specs.declared.rules.Assignment.{Assignment}
use Rattle.kernel_provider.specs.declared.step.Step.{Step}
use Rattle.kernel_provider.specs.declared.step.Step.TheVariants.{Advance, Add, Change, Finish}
use Rattle.kernel_provider.specs.Rules.{assignments}
use Rattle.kernel_provider.specs.Steps.{Table, value_in, is_held, number_of, is_idle, assigned, all_assigned, assignment_steps, all_assignment_steps, steps_from, steps_of}
use Rattle.kernel_provider.proofs.Keys.{held_keys, new_keys}
use Rattle.kernel_provider.proofs.Replayed.{apart}
use Rattle.std.proofs.lemmas.Map.Keys.{IsDistinct-head, IsDistinct-tail, IsDistinct-cons, IsDistinct-from_apart}
use Rattle.trace_types.proofs.Everywhere.{all_both}
use Rattle.state_times.specs.Times.{added, first_key, last_key}

-- after these paths and an instant, up to the last
abbrev pub AreSteps : List AttributePath → ℕ → ℕ → List Step → Type 0
AreSteps paths least last [] = Unit {0}
AreSteps paths least last (Advance t ∷ steps) = AreSteps paths least last steps
AreSteps paths least last (Add p ∷ steps) = IsNew paths p × AreSteps (paths ++ p ∷ []) least last steps
AreSteps paths least last (Change t number value ∷ steps) = (number < length paths) × (least ≤ t) × (t ≤ last) × AreSteps paths t last steps
AreSteps paths least last (Finish ∷ steps) = AreSteps paths least last steps

earlier : (paths : List AttributePath) (k least last : ℕ) (s : List Step) → k ≤ least → AreSteps paths least last s → AreSteps paths k last s
earlier paths k least last [] low h = tt
earlier paths k least last (Advance t ∷ s) low h = earlier paths k least last s low h
earlier paths k least last (Add p ∷ s) low h = (h.0, earlier (paths ++ p ∷ []) k least last s low h.1)
earlier paths k least last (Change t number value ∷ s) low h = (h.0, omega (arith, low, h.1), h.2, h.3)
earlier paths k least last (Finish ∷ s) low h = earlier paths k least last s low h

place_held : (table : Table) (p : AttributePath) → is_held table p ≡ true → number_of table p < length (keys_of table)
place_held [] p h = absurd (cc)
place_held (e ∷ es) p h = by (same_path p e.0) h (place_held es p)
  where
    by : (b : Bool) → is_some (cond b (Some e.1) (lookup (same_path p) es)) ≡ true → (is_held es p ≡ true → number_of es p < length (keys_of es)) → cond (not b) (1 + number_of es p) 0 < suc (length (keys_of es))
    by true h rest = omega arith
    by false h rest = omega (arith, rest h)

place_new : (table : Table) (p : AttributePath) → is_held table p ≡ false → number_of table p ≡ length (keys_of table)
place_new [] p h = refl
place_new (e ∷ es) p h = by (same_path p e.0) h (place_new es p)
  where
    by : (b : Bool) → is_some (cond b (Some e.1) (lookup (same_path p) es)) ≡ false → (is_held es p ≡ false → number_of es p ≡ length (keys_of es)) → cond (not b) (1 + number_of es p) 0 ≡ suc (length (keys_of es))
    by true h rest = absurd (cc)
    by false h rest = omega (arith, rest h)

one_comes : (t last : ℕ) (table : Table) (a : Assignment) (rest : List Step) → t ≤ last → AreSteps (keys_of (assigned table a)) t last rest → AreSteps (keys_of table) t last (assignment_steps t table a ++ rest)
one_comes t last table a rest below h = by (is_idle table a) (is_held table a.path) refl refl
  where
    by : (i g : Bool) → is_idle table a ≡ i → is_held table a.path ≡ g → AreSteps (keys_of table) t last (assignment_steps t table a ++ rest)
    by true g e k = let same : assigned table a ≡ table = rw e refl in rw e (subst (λ l. AreSteps (keys_of l) t last rest) same h)
    by false true e k =
        let same : keys_of (assigned table a) ≡ keys_of table = rw e (held_keys table a.path a.value k) in
        rw (e, k) (place_held table a.path k, omega arith, below, subst (λ l. AreSteps l t last rest) same h)
    by false false e k =
        let same : keys_of (assigned table a) ≡ keys_of table ++ a.path ∷ [] = rw e (new_keys table a.path a.value k) in
        rw (e, k) (
          end_number (keys_of table) a.path (place_new table a.path k),
          (omega (arith, place_new table a.path k, length-append (keys_of table) (a.path ∷ [])), omega arith, below, subst (λ l. AreSteps l t last rest) same h),
        )

all_come : (t last : ℕ) (table : Table) (as' : List Assignment) (rest : List Step) → t ≤ last → AreSteps (keys_of (all_assigned table as')) t last rest → AreSteps (keys_of table) t last (all_assignment_steps t table as' ++ rest)
all_come t last table [] rest below h = h
all_come t last table (a ∷ more) rest below h =
    subst (λ l. AreSteps (keys_of table) t last l) (sym (append_assoc (assignment_steps t table a) (all_assignment_steps t (assigned table a) more) rest))
    (one_comes t last table a (all_assignment_steps t (assigned table a) more ++ rest) below (all_come t last (assigned table a) more rest below h))

from_come : (built least last : ℕ) (table : Table) (ms : List Merged) → RiseFrom least ms → AllByRecursion (λ m. m.key ≤ last) ms → AreSteps (keys_of table) least last (steps_from built table ms)
from_come built least last table [] rise all = tt
from_come built least last table (m ∷ ms) rise all =
    let given = assignments (value_in table) m.event in
    let rest = steps_from (max built m.key) (all_assigned table given) ms in
    let later = all_assignment_steps m.key table given ++ rest in
    by (nat_lt built m.key) later (earlier (keys_of table) least m.key last later rise.0
    (all_come m.key last table given rest all.0 (from_come (max built m.key) m.key last (all_assigned table given) ms rise.1 all.1)))
  where
    by : (b : Bool) → (later : List Step) → AreSteps (keys_of table) least last later → AreSteps (keys_of table) least last ((if b then Advance m.key ∷ [] else []) ++ later)
    by true later h = h
    by false later h = h

-- ---- keys lie in the window
pub first_last : (m : Merged) (ms : List Merged) → RiseFrom m.key ms → m.key ≤ last_key (m ∷ ms)
first_last m [] rise = omega arith
first_last m (n ∷ ms) rise = let later = first_last n ms rise.1 in omega (arith, rise.0, later)

all_last : (ms : List Merged) (k : ℕ) → RiseFrom k ms → AllByRecursion (λ m. m.key ≤ last_key ms) ms
all_last [] k rise = tt
all_last (m ∷ []) k rise = (omega arith, tt)
all_last (m ∷ (n ∷ ms)) k rise = (first_last m (n ∷ ms) rise.1, all_last (n ∷ ms) m.key rise.1)

pub window_rises : (ms : List Merged) → RiseFrom 0 ms → first_key ms ≤ last_key ms
window_rises [] rise = omega arith
window_rises (m ∷ ms) rise = first_last m ms rise.1

from_first : (ms : List Merged) → RiseFrom 0 ms → RiseFrom (first_key ms) ms
from_first [] rise = tt
from_first (m ∷ ms) rise = (omega arith, rise.1)

-- ---- each path comes once
not_among : (paths : List AttributePath) (p : AttributePath) → position_or_len (same_path p) paths ≡ length paths → AllByRecursion (λ k. same_path k p ≡ false) paths
not_among [] p h = tt
not_among (q ∷ qs) p h = by (same_path p q) refl h (not_among qs p)
  where
    by : (b : Bool) → same_path p q ≡ b → cond (not b) (1 + position_or_len (same_path p) qs) 0 ≡ suc (length qs) → (position_or_len (same_path p) qs ≡ length qs → AllByRecursion (λ k. same_path k p ≡ false) qs)
        → (same_path q p ≡ false) × AllByRecursion (λ k. same_path k p ≡ false) qs
    by true is h rest = absurd (omega (arith, h))
    by false is h rest = (apart p q is, rest (omega (arith, h)))

distinct_push : (xs : List AttributePath) (y : AttributePath) → IsDistinct same_path xs → AllByRecursion (λ k. same_path k y ≡ false) xs → IsDistinct same_path (xs ++ y ∷ [])
distinct_push [] y h g = IsDistinct-cons same_path y [] tt h
distinct_push (x ∷ xs) y h g = IsDistinct-cons same_path x (xs ++ y ∷ []) (all_both (λ k. same_path x k ≡ false) xs (y ∷ []) (IsDistinct-head same_path x xs h) (g.0, tt)) (distinct_push xs y (IsDistinct-tail same_path x xs h) g.1)

stay_distinct : (paths : List AttributePath) (least last : ℕ) (s : List Step) → AreSteps paths least last s → IsDistinct same_path paths → IsDistinct same_path (paths ++ added s)
stay_distinct paths least last [] h d = subst (IsDistinct same_path) (sym (append-nil paths)) d
stay_distinct paths least last (Advance t ∷ s) h d = stay_distinct paths least last s h d
stay_distinct paths least last (Add p ∷ s) h d =
    subst (IsDistinct same_path) (append_assoc paths (p ∷ []) (added s)) (stay_distinct (paths ++ p ∷ []) least last s h.1 (distinct_push paths p d (not_among paths p (no_number paths p h.0))))
stay_distinct paths least last (Change t n v ∷ s) h d = stay_distinct paths t last s h.3 d
stay_distinct paths least last (Finish ∷ s) h d = stay_distinct paths least last s h d

distinct_nil : IsDistinct same_path []
distinct_nil = IsDistinct-from_apart same_path [] (λ i j d h g. absurd (omega arith))

-- of a whole merge
pub steps_come : (ms : List Merged) → RiseFrom 0 ms → AreSteps [] (first_key ms) (last_key ms) (steps_of ms)
steps_come ms rise = from_come 0 (first_key ms) (last_key ms) [] ms (from_first ms rise) (all_last ms 0 rise)

pub added_once : (ms : List Merged) → RiseFrom 0 ms → IsDistinct same_path (added (steps_of ms))
added_once ms rise = stay_distinct [] (first_key ms) (last_key ms) (steps_of ms) (steps_come ms rise) distinct_nil
