-- The values that the steps of a merge give up to an instant are those of its replay.
use Rattle.std.proofs.Common.{◌≡◌, ℕ, zero, suc, ◌+◌, ◌<◌, ◌≤◌, max, Bool, true, false, not, cond, if◌then◌else◌, nat_lt, nat_le, List, [], ◌∷◌, ◌++◌, Some, None, is_some, refl, sym, ap, ◌∙◌, subst, append_assoc, arith}
use Rattle.std.specs.Prelude.{unwrap_or, filter}
use Rattle.std.specs.Map.{lookup}
use Rattle.std.proofs.lemmas.Bool.{leb-false, lt-leb}
use Rattle.kernel_provider.specs.Steps.{with_value}
use Rattle.trace_types.specs.declared.path.Path.{Path as AttributePath}
use Rattle.trace_types.specs.declared.value.Value.{Value}
use Rattle.trace_types.specs.declared.value.Value.TheVariants.{Null}
use Rattle.trace_types.specs.declared.event.Merged.{Merged}
use Rattle.trace_types.specs.Same.{same_path}
use Rattle.trace_types.proofs.Same.{path_is, path_itself, value_is}
use Rattle.trace_types.specs.Order.{RiseFrom}
use Rattle.kernel_provider.specs.declared.rules.Assignment.{Assignment}
use Rattle.kernel_provider.specs.declared.step.Step.{Step}
use Rattle.kernel_provider.specs.declared.step.Step.TheVariants.{Advance, Add, Change, Finish}
use Rattle.kernel_provider.specs.Rules.{assignments}
use Rattle.kernel_provider.specs.Replay.{put, put_all, replay, state_at}
use Rattle.kernel_provider.specs.Steps.{Table, value_in, is_held, number_of, is_idle, assigned, all_assigned, assignment_steps, all_assignment_steps, advance, steps_from, steps_of}
use Rattle.kernel_provider.proofs.Turns.{lookup-with_value, with_value-with_value, number_of-with_value}

-- the path of a number has another value
abbrev pub set_value : Table → ℕ → Value → Table
set_value [] number value = []
set_value (e ∷ es) zero value = (e.0, value) ∷ es
set_value (e ∷ es) (suc number) value = e ∷ set_value es number value

-- a new path has no value; a change past the instant is passed over
abbrev pub table_step : ℕ → Table → Step → Table
table_step at table (Advance t) = table
table_step at table (Add p) = table ++ (p, Null) ∷ []
table_step at table (Change t number value) = if nat_le t at then set_value table number value else table
table_step at table Finish = table

abbrev pub table_after : ℕ → Table → List Step → Table
table_after at table [] = table
table_after at table (step ∷ steps) = table_after at (table_step at table step) steps

one-add : (n : ℕ) → 1 + n ≡ suc n
one-add n = omega arith

set_held : (table : Table) (p : AttributePath) (v : Value) → is_held table p ≡ true → set_value table (number_of table p) v ≡ (with_value table p v)
set_held [] p v h = absurd (cc)
set_held (e ∷ es) p v h = by (same_path p e.0) h (set_held es p v)
  where
    by : (b : Bool) → is_some (cond b (Some e.1) (lookup (same_path p) es)) ≡ true → (is_held es p ≡ true → set_value es (number_of es p) v ≡ (with_value es p v))
        → set_value (e ∷ es) (cond (not b) (1 + number_of es p) 0) v ≡ (if b then (e.0, v) ∷ es else e ∷ with_value es p v)
    by true h rest = refl
    by false h rest = rw one-add (ap (λ l. e ∷ l) (rest h))

add_new : (table : Table) (p : AttributePath) → is_held table p ≡ false → table ++ (p, Null) ∷ [] ≡ (with_value table p Null)
add_new [] p h = refl
add_new (e ∷ es) p h = by (same_path p e.0) h (add_new es p)
  where
    by : (b : Bool) → is_some (cond b (Some e.1) (lookup (same_path p) es)) ≡ false → (is_held es p ≡ false → es ++ (p, Null) ∷ [] ≡ (with_value es p Null))
        → e ∷ (es ++ (p, Null) ∷ []) ≡ (if b then (e.0, Null) ∷ es else e ∷ with_value es p Null)
    by true h rest = absurd (cc)
    by false h rest = ap (λ l. e ∷ l) (rest h)

-- the steps of an assignment at or before the instant
on_time : (at t : ℕ) (table : Table) (a : Assignment) (s : List Step) → nat_le t at ≡ true → table_after at table (assignment_steps t table a ++ s) ≡ table_after at (assigned table a) s
on_time at t table a s on = by (is_idle table a) (is_held table a.path) refl refl
  where
    by : (i h : Bool) → is_idle table a ≡ i → is_held table a.path ≡ h → table_after at table (assignment_steps t table a ++ s) ≡ table_after at (assigned table a) s
    by true h e g = rw e refl
    by false true e g = rw (e, g, on) (ap (λ r. table_after at r s) (set_held table a.path a.value g))
    by false false e g = rw (e, g, on) (ap (λ r. table_after at r s) (
        ap (λ r. set_value r (number_of table a.path) a.value) (add_new table a.path g)
        ∙ (ap (λ n. set_value ((with_value table a.path Null)) n a.value) (sym (number_of-with_value table a.path Null))
        ∙ (set_held (with_value table a.path Null) a.path a.value (ap is_some (lookup-with_value table a.path Null))
        ∙ (with_value-with_value table a.path Null a.value)))))

all_on_time : (at t : ℕ) (table : Table) (as' : List Assignment) (s : List Step) → nat_le t at ≡ true → table_after at table (all_assignment_steps t table as' ++ s) ≡ table_after at (all_assigned table as') s
all_on_time at t table [] s on = refl
all_on_time at t table (a ∷ more) s on = rw (append_assoc (assignment_steps t table a) (all_assignment_steps t (assigned table a) more) s) (on_time at t table a (all_assignment_steps t (assigned table a) more ++ s) on ∙ all_on_time at t (assigned table a) more s on)

-- ---- values
pub apart : (p q : AttributePath) → same_path p q ≡ false → same_path q p ≡ false
apart p q h = by (same_path q p) refl
  where
    by : (b : Bool) → same_path q p ≡ b → same_path q p ≡ false
    by true e = let same : q ≡ p = path_is q p e in let k : same_path p q ≡ true = subst (λ x. same_path p x ≡ true) (sym same) (path_itself p) in absurd (cc)
    by false e = e

other_value : (table : Table) (p q : AttributePath) (v : Value) → same_path p q ≡ false → lookup (same_path q) (with_value table p v) ≡ lookup (same_path q) table
other_value [] p q v h = rw (apart p q h) refl
other_value (e ∷ es) p q v h = by (same_path p e.0) refl (other_value es p q v h)
  where
    by : (b : Bool) → same_path p e.0 ≡ b → lookup (same_path q) (with_value es p v) ≡ lookup (same_path q) es
        → lookup (same_path q) (if b then (e.0, v) ∷ es else e ∷ with_value es p v) ≡ cond (same_path q e.0) (Some e.1) (lookup (same_path q) es)
    by true is rest = let other : same_path q e.0 ≡ false = subst (λ x. same_path q x ≡ false) (path_is p e.0 is) (apart p q h) in rw (other) refl
    by false is rest = ap (λ o. cond (same_path q e.0) (Some e.1) o) rest

assigned_value : (table : Table) (a : Assignment) (q : AttributePath) → value_in (assigned table a) q ≡ put (value_in table) a q
assigned_value table a q = by (is_idle table a) (same_path a.path q) refl refl
  where
    by : (i s : Bool) → is_idle table a ≡ i → same_path a.path q ≡ s → value_in (assigned table a) q ≡ put (value_in table) a q
    by true true e h = rw (e, h) (ap (value_in table) (sym (path_is a.path q h)) ∙ value_is (value_in table a.path) a.value e)
    by true false e h = rw (e, h) refl
    by false true e h = rw (e, h) (ap (λ (x : AttributePath). unwrap_or (lookup (same_path x) (with_value table a.path a.value)) Null) (sym (path_is a.path q h)) ∙ ap (λ o. unwrap_or o Null) (lookup-with_value table a.path a.value))
    by false false e h = rw (e, h) (ap (λ o. unwrap_or o Null) (other_value table a.path q a.value h))

all_assigned_value : (table : Table) (as' : List Assignment) → value_in (all_assigned table as') ≡ put_all (value_in table) as'
all_assigned_value table [] = refl
all_assigned_value table (a ∷ more) = all_assigned_value (assigned table a) more ∙ ap (λ f. put_all f more) (λ i q. assigned_value table a q i)

-- ---- after the instant
abbrev AreLate : ℕ → List Step → Type 0
AreLate at [] = Unit {0}
AreLate at (Advance t ∷ s) = AreLate at s
AreLate at (Add p ∷ s) = AreLate at s
AreLate at (Change t number value ∷ s) = (nat_le t at ≡ false) × AreLate at s
AreLate at (Finish ∷ s) = AreLate at s

late_both : (at : ℕ) (s u : List Step) → AreLate at s → AreLate at u → AreLate at (s ++ u)
late_both at [] u h g = g
late_both at (Advance t ∷ s) u h g = late_both at s u h g
late_both at (Add p ∷ s) u h g = late_both at s u h g
late_both at (Change t number value ∷ s) u h g = (h.0, late_both at s u h.1 g)
late_both at (Finish ∷ s) u h g = late_both at s u h g

no_value : (table : Table) (p q : AttributePath) → value_in (table ++ (p, Null) ∷ []) q ≡ value_in table q
no_value [] p q = by (same_path q p)
  where
    by : (b : Bool) → unwrap_or (cond b (Some Null) None) Null ≡ Null
    by true = refl
    by false = refl
no_value (r ∷ rs) p q = by (same_path q r.0) (no_value rs p q)
  where
    by : (b : Bool) → value_in (rs ++ (p, Null) ∷ []) q ≡ value_in rs q → unwrap_or (cond b (Some r.1) (lookup (same_path q) (rs ++ (p, Null) ∷ []))) Null ≡ unwrap_or (cond b (Some r.1) (lookup (same_path q) rs)) Null
    by true h = refl
    by false h = h

late : (at : ℕ) (table : Table) (s : List Step) (q : AttributePath) → AreLate at s → value_in (table_after at table s) q ≡ value_in table q
late at table [] q h = refl
late at table (Advance t ∷ s) q h = late at table s q h
late at table (Add p ∷ s) q h = late at (table ++ (p, Null) ∷ []) s q h ∙ no_value table p q
late at table (Change t number value ∷ s) q h = rw h.0 (late at table s q h.1)
late at table (Finish ∷ s) q h = late at table s q h

late_assignment : (at t : ℕ) (table : Table) (a : Assignment) → nat_le t at ≡ false → AreLate at (assignment_steps t table a)
late_assignment at t table a h = by (is_idle table a) (is_held table a.path)
  where
    by : (i g : Bool) → AreLate at (if i then [] else (if g then [] else Add a.path ∷ []) ++ Change t (number_of table a.path) a.value ∷ [])
    by true g = tt
    by false true = (h, tt)
    by false false = (h, tt)

late_assignments : (at t : ℕ) (table : Table) (as' : List Assignment) → nat_le t at ≡ false → AreLate at (all_assignment_steps t table as')
late_assignments at t table [] h = tt
late_assignments at t table (a ∷ more) h = late_both at (assignment_steps t table a) _ (late_assignment at t table a h) (late_assignments at t (assigned table a) more h)

late_advance : (at built key : ℕ) → AreLate at (advance built key)
late_advance at built key = by (nat_lt built key)
  where
    by : (b : Bool) → AreLate at (if b then Advance key ∷ [] else [])
    by true = tt
    by false = tt

past : (at k t : ℕ) → at < k → k ≤ t → nat_le t at ≡ false
past at k t h g = lt-leb t at (omega arith)

late_steps : (at built k : ℕ) (table : Table) (ms : List Merged) → at < k → RiseFrom k ms → AreLate at (steps_from built table ms)
late_steps at built k table [] h rise = tt
late_steps at built k table (m ∷ ms) h rise =
    late_both at (advance built m.key) _ (late_advance at built m.key)
    (late_both at (all_assignment_steps m.key table (assignments (value_in table) m.event)) _ (late_assignments at m.key table _ (past at k m.key h rise.0))
    (late_steps at (max built m.key) m.key _ ms (omega (arith, h, rise.0)) rise.1))

none_left : (at k : ℕ) (ms : List Merged) → at < k → RiseFrom k ms → filter (λ m. nat_le m.key at) ms ≡ []
none_left at k [] h rise = refl
none_left at k (m ∷ ms) h rise = rw (past at k m.key h rise.0) (none_left at m.key ms (omega (arith, h, rise.0)) rise.1)

-- an advance changes no value
pub advanced : (at built key : ℕ) (table : Table) (s : List Step) → table_after at table (advance built key ++ s) ≡ table_after at table s
advanced at built key table s = by (nat_lt built key)
  where
    by : (b : Bool) → table_after at table ((if b then Advance key ∷ [] else []) ++ s) ≡ table_after at table s
    by true = refl
    by false = refl

-- ---- the table after all steps has the values of the replay
pub agree : (at built k : ℕ) (table : Table) (ms : List Merged) (q : AttributePath) → RiseFrom k ms → value_in (table_after at table (steps_from built table ms)) q ≡ replay (value_in table) (filter (λ m. nat_le m.key at) ms) q
agree at built k table [] q rise = refl
agree at built k table (m ∷ ms) q rise = by (nat_le m.key at) refl (agree at (max built m.key) m.key (all_assigned table (assignments (value_in table) m.event)) ms q rise.1)
  where
    by : (b : Bool) → nat_le m.key at ≡ b
        → value_in (table_after at (all_assigned table (assignments (value_in table) m.event)) (steps_from (max built m.key) (all_assigned table (assignments (value_in table) m.event)) ms)) q ≡ replay (value_in (all_assigned table (assignments (value_in table) m.event))) (filter (λ m. nat_le m.key at) ms) q
        → value_in (table_after at table (steps_from built table (m ∷ ms))) q ≡ replay (value_in table) (if b then m ∷ filter (λ m. nat_le m.key at) ms else filter (λ m. nat_le m.key at) ms) q
    by true is rest =
        ap (λ r. value_in r q) (advanced at built m.key table _ ∙ all_on_time at m.key table (assignments (value_in table) m.event) _ is)
        ∙ (rest ∙ ap (λ f. replay f (filter (λ m. nat_le m.key at) ms) q) (all_assigned_value table (assignments (value_in table) m.event)))
    by false is rest =
        late at table (steps_from built table (m ∷ ms)) q (late_steps at built m.key table (m ∷ ms) (omega (arith, leb-false _ _ is)) (omega arith, rise.1))
        ∙ ap (λ l. replay (value_in table) l q) (sym (none_left at m.key ms (omega (arith, leb-false _ _ is)) rise.1))

-- of a whole merge
pub state_values : (events : List Merged) (at : ℕ) (q : AttributePath) → RiseFrom 0 events → value_in (table_after at [] (steps_of events)) q ≡ state_at events at q
state_values events at q rise = agree at 0 0 [] events q rise
