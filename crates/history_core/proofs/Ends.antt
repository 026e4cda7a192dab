-- Where the built end of a merge's first steps can be, and that it rises.
use Rattle.std.proofs.Common.{◌≡◌, inl, inr, ℕ, ◌≤◌, max, Bool, true, false, nat_lt, List, [], ◌∷◌, ◌++◌, refl, sym, subst}
use Rattle.trace_types.specs.declared.event.Merged.{Merged}
use Rattle.kernel_provider.specs.declared.rules.Assignment.{Assignment}
use Rattle.kernel_provider.specs.declared.step.Step.{Step}
use Rattle.kernel_provider.specs.declared.step.Step.TheVariants.{Advance, Add, Change, Finish}
use Rattle.kernel_provider.specs.Rules.{assignments}
use Rattle.kernel_provider.specs.Steps.{Table, value_in, is_held, is_idle, number_of, assigned, all_assigned, assignment_steps, all_assignment_steps, advance, steps_from, steps_of}
use Rattle.history_core.specs.Agreement.{IsMerge}
use Rattle.history_core.specs.Changes.{END, paths_of, built_from, built_of}
use Rattle.history_core.specs.Growth.{IsKey, IsBuiltEnd, EndsRise}
use Rattle.history_core.specs.Stands.{AreSteps}
use Rattle.history_core.proofs.Lawful.{steps_lawful}
use Rattle.history_core.proofs.Pushed.{built_both, steps_front, steps_rest}
use Rattle.history_core.proofs.Times.{built_grows}

-- the steps advance to times of which P holds
abbrev AdvanceTo : (ℕ → Type 0) → List Step → Type 0
AdvanceTo P [] = Unit {0}
AdvanceTo P (Advance t ∷ s) = P t × AdvanceTo P s
AdvanceTo P (Add p ∷ s) = AdvanceTo P s
AdvanceTo P (Change t number value ∷ s) = AdvanceTo P s
AdvanceTo P (Finish ∷ s) = AdvanceTo P s

both_advance : (P : ℕ → Type 0) (s u : List Step) → AdvanceTo P s → AdvanceTo P u → AdvanceTo P (s ++ u)
both_advance P [] u a b = b
both_advance P (Advance t ∷ s) u a b = (a.0, both_advance P s u a.1 b)
both_advance P (Add p ∷ s) u a b = both_advance P s u a b
both_advance P (Change t number value ∷ s) u a b = both_advance P s u a b
both_advance P (Finish ∷ s) u a b = both_advance P s u a b

front_advances : (P : ℕ → Type 0) (s u : List Step) → AdvanceTo P (s ++ u) → AdvanceTo P s
front_advances P [] u a = tt
front_advances P (Advance t ∷ s) u a = (a.0, front_advances P s u a.1)
front_advances P (Add p ∷ s) u a = front_advances P s u a
front_advances P (Change t number value ∷ s) u a = front_advances P s u a
front_advances P (Finish ∷ s) u a = front_advances P s u a

assignment_advances : (P : ℕ → Type 0) (t : ℕ) (table : Table) (a : Assignment) → AdvanceTo P (assignment_steps t table a)
assignment_advances P t table a = by (is_idle table a) (is_held table a.path)
  where
    by : (i g : Bool) → AdvanceTo P (Rattle.std.specs.Prelude.cond i [] (Rattle.std.specs.Prelude.cond g [] (Add a.path ∷ []) ++ Change t (number_of table a.path) a.value ∷ []))
    by true g = tt
    by false true = tt
    by false false = tt

all_advance : (P : ℕ → Type 0) (t : ℕ) (table : Table) (as' : List Assignment) → AdvanceTo P (all_assignment_steps t table as')
all_advance P t table [] = tt
all_advance P t table (a ∷ more) = both_advance P (assignment_steps t table a) (all_assignment_steps t (assigned table a) more) (assignment_advances P t table a) (all_advance P t (assigned table a) more)

from_advances : (P : ℕ → Type 0) (built : ℕ) (table : Table) (ms : List Merged) → ((t : ℕ) → IsKey ms t → P t) → AdvanceTo P (steps_from built table ms)
from_advances P built table [] keys = tt
from_advances P built table (m ∷ ms) keys =
    both_advance P (advance built m.key) _ (by (nat_lt built m.key))
    (both_advance P (all_assignment_steps m.key table (assignments (value_in table) m.event)) _ (all_advance P m.key table (assignments (value_in table) m.event))
    (from_advances P (max built m.key) (all_assigned table (assignments (value_in table) m.event)) ms (λ t k. keys t (inr k))))
  where
    by : (b : Bool) → AdvanceTo P (Rattle.std.specs.Prelude.cond b (Advance m.key ∷ []) [])
    by true = (keys m.key (inl refl), tt)
    by false = tt

-- the built end is where it was, at the time of an advance, or the end of all times
built_among : (P : ℕ → Type 0) (built : ℕ) (s : List Step) → AdvanceTo P s → P built → P END → P (built_from built s)
built_among P built [] a was end = was
built_among P built (Advance t ∷ s) a was end = built_among P t s a.1 a.0 end
built_among P built (Add p ∷ s) a was end = built_among P built s a was end
built_among P built (Change t number value ∷ s) a was end = built_among P built s a was end
built_among P built (Finish ∷ s) a was end = built_among P END s a end end

pub ends_at_keys : (merge : List Merged) (front back : List Step) → steps_of merge ≡ front ++ back → IsBuiltEnd merge (built_of front)
ends_at_keys merge front back same =
    let all = from_advances (IsBuiltEnd merge) 0 [] merge (λ t k. inr (inl k)) in
    built_among (IsBuiltEnd merge) 0 front (front_advances (IsBuiltEnd merge) front back (subst (AdvanceTo (IsBuiltEnd merge)) same all)) (inl refl) (inr (inr refl))

pub ends_rise : (merge : List Merged) → IsMerge merge → EndsRise merge
ends_rise merge is front more back same =
    let rest = steps_rest [] 0 front (more ++ back) (subst (AreSteps [] 0) same (steps_lawful merge is)) in
    let grows = built_grows (paths_of front) (built_of front) more (steps_front (paths_of front) (built_of front) more back rest) in
    subst (λ n. built_of front ≤ n) (sym (built_both 0 front more)) grows
