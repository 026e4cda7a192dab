-- Each step of a merge can follow those before it.
use Rattle.std.proofs.Common.{◌≡◌, ℕ, suc, ◌+◌, ◌-◌, ◌*◌, ◌^◌, ◌<◌, max, Bool, true, false, not, cond, if◌then◌else◌, nat_lt, List, [], ◌∷◌, ◌++◌, length, Some, is_some, refl, sym, ap, ◌∙◌, subst, arith, append_assoc, append-nil, length-append}
use Rattle.std.specs.List.{AllByRecursion}
use Rattle.std.specs.Map.{lookup, keys_of}
use Rattle.std.proofs.lemmas.Bool.{ltb-true, ltb-false}
use Rattle.trace_types.specs.declared.path.Path.{Path as AttributePath}
use Rattle.trace_types.specs.declared.event.Merged.{Merged}
use Rattle.trace_types.specs.Same.{same_path}
use Rattle.trace_types.specs.Order.{RiseFrom}
use Rattle.attribute_tree.proofs.Numbers.{end_number}
use Rattle.kernel_provider.specs.declared.rules.Assignment.{Assignment}
use Rattle.kernel_provider.specs.declared.step.Step.{Step}
use Rattle.kernel_provider.specs.declared.step.Step.TheVariants.{Advance}
use Rattle.kernel_provider.specs.Rules.{assignments}
use Rattle.kernel_provider.specs.Steps.{Table, value_in, is_held, number_of, is_idle, assigned, all_assigned, assignment_steps, all_assignment_steps, advance, steps_from, steps_of}
use Rattle.kernel_provider.proofs.Counts.{few_steps}
use Rattle.kernel_provider.proofs.Keys.{held_keys, new_keys}
use Rattle.history_core.specs.Agreement.{IsMerge}
use Rattle.history_core.specs.Changes.{END, built_from}
use Rattle.history_core.specs.Stands.{HistoryModel, CanFollow, AreSteps, Stands}
use Rattle.history_core.proofs.Pushed.{built_both, steps_rest}

place_held : (table : Table) (p : AttributePath) → is_held table p ≡ true → number_of table p < length (keys_of table)
place_held [] p h = absurd (cc)
place_held (e ∷ es) p h = by (same_path p e.0) h (place_held es p)
  where
    by : (b : Bool) → is_some (cond b (Some e.1) (lookup (same_path p) es)) ≡ true → (is_held es p ≡ true → number_of es p < length (keys_of es)) → cond (not b) (1 + number_of es p) 0 < suc (length (keys_of es))
    by true h rest = omega arith
    by false h rest = omega (arith, rest h)

place_new : (table : Table) (p : AttributePath) → is_held table p ≡ false → number_of table p ≡ length (keys_of table)
place_new [] p h = refl
place_new (e ∷ es) p h = by (same_path p e.0) h (place_new es p)
  where
    by : (b : Bool) → is_some (cond b (Some e.1) (lookup (same_path p) es)) ≡ false → (is_held es p ≡ false → number_of es p ≡ length (keys_of es)) → cond (not b) (1 + number_of es p) 0 ≡ suc (length (keys_of es))
    by true h rest = absurd (cc)
    by false h rest = omega (arith, rest h)

assignment_lawful : (t : ℕ) (table : Table) (a : Assignment) (rest : List Step) → t < END → AreSteps (keys_of (assigned table a)) t rest → AreSteps (keys_of table) t (assignment_steps t table a ++ rest)
assignment_lawful t table a rest below h = by (is_idle table a) (is_held table a.path) refl refl
  where
    by : (i g : Bool) → is_idle table a ≡ i → is_held table a.path ≡ g → AreSteps (keys_of table) t (assignment_steps t table a ++ rest)
    by true g e k = let same : assigned table a ≡ table = rw e refl in rw e (subst (λ l. AreSteps (keys_of l) t rest) same h)
    by false true e k =
        let same : keys_of (assigned table a) ≡ keys_of table ++ [] = rw e (held_keys table a.path a.value k ∙ sym (append-nil (keys_of table))) in
        rw (e, k) ((below, (refl, place_held table a.path k)), subst (λ l. AreSteps l t rest) same h)
    by false false e k =
        let same : keys_of (assigned table a) ≡ (keys_of table ++ a.path ∷ []) ++ [] = rw e (new_keys table a.path a.value k ∙ sym (append-nil (keys_of table ++ a.path ∷ []))) in
        rw (e, k) (
          (below, end_number (keys_of table) a.path (place_new table a.path k)),
          (
            (below, (refl, omega (arith, place_new table a.path k, length-append (keys_of table) (a.path ∷ [])))),
            subst (λ l. AreSteps l t rest) same h,
          ),
        )

all_lawful : (t : ℕ) (table : Table) (as' : List Assignment) (rest : List Step) → t < END → AreSteps (keys_of (all_assigned table as')) t rest → AreSteps (keys_of table) t (all_assignment_steps t table as' ++ rest)
all_lawful t table [] rest below h = h
all_lawful t table (a ∷ more) rest below h =
    subst (λ l. AreSteps (keys_of table) t l) (sym (append_assoc (assignment_steps t table a) (all_assignment_steps t (assigned table a) more) rest))
    (assignment_lawful t table a (all_assignment_steps t (assigned table a) more ++ rest) below (all_lawful t (assigned table a) more rest below h))

from_lawful : (built : ℕ) (table : Table) (ms : List Merged) → built < END → RiseFrom built ms → AllByRecursion (λ m. m.key < END) ms → AreSteps (keys_of table) built (steps_from built table ms)
from_lawful built table [] below rise all = ((below, tt), tt)
from_lawful built table (m ∷ ms) below rise all = by (nat_lt built m.key) refl _ (rest (from_lawful m.key (all_assigned table (assignments (value_in table) m.event)) ms all.0 rise.1 all.1))
  where
    latest : max built m.key ≡ m.key
    latest = omega (arith, rise.0)

    rest : AreSteps (keys_of (all_assigned table (assignments (value_in table) m.event))) m.key (steps_from m.key (all_assigned table (assignments (value_in table) m.event)) ms)
        → AreSteps (keys_of table) m.key (all_assignment_steps m.key table (assignments (value_in table) m.event) ++ steps_from (max built m.key) (all_assigned table (assignments (value_in table) m.event)) ms)
    rest h = all_lawful m.key table (assignments (value_in table) m.event) _ all.0
        (subst (λ b. AreSteps (keys_of (all_assigned table (assignments (value_in table) m.event))) m.key (steps_from b (all_assigned table (assignments (value_in table) m.event)) ms)) (sym latest) h)

    by : (b : Bool) → nat_lt built m.key ≡ b → (later : List Step) → AreSteps (keys_of table) m.key later → AreSteps (keys_of table) built ((if b then Advance m.key ∷ [] else []) ++ later)
    by true e later h = ((below, (ltb-true built m.key e, all.0)), subst (λ l. AreSteps l m.key later) (sym (append-nil (keys_of table))) h)
    by false e later h = let same : m.key ≡ built = omega (arith, ltb-false built m.key e, rise.0) in subst (λ b. AreSteps (keys_of table) b later) same h

pub steps_lawful : (merge : List Merged) → IsMerge merge → AreSteps [] 0 (steps_of merge)
steps_lawful merge is = from_lawful 0 [] merge (omega arith) is.rises is.below

-- all steps build the history to the end of all times
from_built : (ms : List Merged) (b built : ℕ) (table : Table) → built_from b (steps_from built table ms) ≡ END
from_built [] b built table = refl
from_built (m ∷ ms) b built table =
    built_both b (advance built m.key) _ ∙ (built_both _ (all_assignment_steps m.key table (assignments (value_in table) m.event)) _ ∙ from_built ms _ (max built m.key) (all_assigned table (assignments (value_in table) m.event)))

pub steps_built : (merge : List Merged) → built_from 0 (steps_of merge) ≡ END
steps_built merge = from_built merge 0 0 []

-- the next step of a merge can follow where a history stands for those before it
pub next_follows : (merge : List Merged) → IsMerge merge → (given rest : List Step) (step : Step) → steps_of merge ≡ given ++ step ∷ rest → (h : HistoryModel) → Stands given h → CanFollow h.paths h.built step
next_follows merge is given rest step same h stands =
    let follows = (steps_rest [] 0 given (step ∷ rest) (subst (AreSteps [] 0) same (steps_lawful merge is))).0 in
    subst (λ b. CanFollow h.paths b step) (sym stands.built) (subst (λ l. CanFollow l (built_from 0 given) step) (sym stands.paths) follows)

-- before the next step of a merge there are fewer steps than can be counted
pub next_few : (merge : List Merged) → length merge * 17 + 1 < 2 ^ 64 → (given rest : List Step) (step : Step) → steps_of merge ≡ given ++ step ∷ rest → (h : HistoryModel) → Stands given h → h.count < 2 ^ 64 - 1
next_few merge small given rest step same h stands = omega (arith, small, few_steps merge, ap length same, length-append given (step ∷ rest), stands.count)
