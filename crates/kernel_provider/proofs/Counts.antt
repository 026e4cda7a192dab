-- How many steps a merge has at most: for each event one to its key and two for each of eight assignments, and one at the end.
use Rattle.std.proofs.Common.{ℕ, ◌+◌, ◌*◌, ◌≤◌, ◌==◌, Bool, true, false, if◌then◌else◌, max, List, [], ◌∷◌, ◌++◌, length, Option, Some, None, arith, length-append}
use Rattle.std.specs.Prelude.{ℤ, nat_lt, pos}
use Rattle.trace_types.specs.Same.{same_value}
use Rattle.trace_types.specs.declared.value.Value.{Value}
use Rattle.trace_types.specs.declared.value.Value.TheVariants.{Null, Call, Int}
use Rattle.trace_types.specs.declared.path.Path.{Path as AttributePath}
use Rattle.trace_types.specs.declared.path.Path.TheVariants as path
use Rattle.trace_types.specs.declared.path.ThreadKey.{ThreadKey}
use Rattle.trace_types.specs.declared.path.ThreadKey.TheVariants.{Tid}
use Rattle.trace_types.specs.declared.path.CpuLeaf.TheVariants as cpu_leaf
use Rattle.trace_types.specs.declared.path.ThreadLeaf.TheVariants as thread_leaf
use Rattle.trace_types.specs.declared.event.KernelEvent.{KernelEvent}
use Rattle.trace_types.specs.declared.event.KernelEvent.TheVariants as kind
use Rattle.trace_types.specs.declared.event.Merged.{Merged}
use Rattle.kernel_provider.specs.declared.rules.Assignment.{Assignment}
use Rattle.kernel_provider.specs.declared.step.Step.TheVariants.{Add, Advance}
use Rattle.kernel_provider.specs.Rules.{Values, READY, RUNNING, ENDED, assignments, call_assignments, found_status, gives, kind_assignments, leaving_assignments, left_status, lost_assignments, process_assignments, running, thread_of, unless_idle, woken_assignments}
use Rattle.kernel_provider.specs.Steps.{Table, advance, all_assigned, all_assignment_steps, assigned, assignment_steps, is_held, is_idle, steps_from, steps_of, value_in}

few_either : {X : Type 0} (b : Bool) (xs ys : List X) (n : ℕ) → length xs ≤ n → length ys ≤ n → length (if b then xs else ys) ≤ n
few_either true xs ys n h k = h
few_either false xs ys n h k = k

few_both : {X : Type 0} (xs ys : List X) (m n : ℕ) → length xs ≤ m → length ys ≤ n → length (xs ++ ys) ≤ m + n
few_both xs ys m n h k = omega (arith, h, k, length-append xs ys)

few_unless_idle : (tid : ℕ) (given : List Assignment) → length given ≤ 8 → length (unless_idle tid given) ≤ 8
few_unless_idle tid given h = few_either (tid == 0) [] given 8 (omega arith) h

-- ---- an event assigns at most eight values
few_leaving : (values : Values) (host : ℕ) (thread : ThreadKey) (state prio : ℤ) (comm : List ℕ) → length (leaving_assignments values host thread state prio comm) ≤ 3
few_leaving values host thread state prio comm =
    few_both _ _ 1 2 (few_either (same_value (values (path.Thread host thread thread_leaf.Status)) ENDED) [] (gives (path.Thread host thread thread_leaf.Status) (left_status state) ∷ []) 1 (omega arith) (omega arith)) (omega arith)

few_woken : (values : Values) (host : ℕ) (thread : ThreadKey) (comm : List ℕ) (prio : ℤ) (cpu : ℕ) → length (woken_assignments values host thread comm prio cpu) ≤ 8
few_woken values host thread comm prio cpu =
    let few = few_either (same_value (values (path.Thread host thread thread_leaf.Status)) RUNNING) [] (gives (path.Thread host thread thread_leaf.Status) READY ∷ gives (path.Thread host thread thread_leaf.Cpu) (Int (pos cpu)) ∷ []) 2 (omega arith) (omega arith) in
    omega (arith, few)

few_found : (status : AttributePath) (found : ℕ) → length (found_status status found) ≤ 1
few_found status found = few_either (found == 2) _ _ 1 (omega arith) (few_either (found == 5) _ _ 1 (omega arith) (omega arith))

few_process : (values : Values) (host : ℕ) (thread : ThreadKey) (ppid : ℕ) (name : List ℕ) (status : ℕ) → length (process_assignments values host thread ppid name status) ≤ 8
few_process values host thread ppid name status =
    let few = few_either (same_value (values (path.Thread host thread thread_leaf.Status)) Null) (found_status (path.Thread host thread thread_leaf.Status) status) [] 1 (few_found _ status) (omega arith) in
    omega (arith, few)

few_call : (thread : Option ThreadKey) (host : ℕ) (call : Value) → length (call_assignments thread host call) ≤ 8
few_call None host call = omega arith
few_call (Some thread) host call = omega arith

few_lost : (thread : Option ThreadKey) (host cpu : ℕ) → length (lost_assignments thread host cpu) ≤ 8
few_lost None host cpu = omega arith
few_lost (Some thread) host cpu = omega arith

few_of_kind : (values : Values) (host cpu : ℕ) (k : KernelEvent) → length (kind_assignments values host cpu k) ≤ 8
few_of_kind values host cpu (kind.Switch state prev next prev_prio next_prio prev_comm next_comm) = few_both _ _ 3 5 (few_leaving values host (thread_of prev cpu) state prev_prio prev_comm) (omega arith)
few_of_kind values host cpu (kind.Wakeup tid comm prio target) = few_unless_idle tid _ (few_woken values host (Tid tid) comm prio target)
few_of_kind values host cpu (kind.WakeupNew tid comm prio target) = few_unless_idle tid _ (few_woken values host (Tid tid) comm prio target)
few_of_kind values host cpu (kind.Waking tid comm prio target) = few_unless_idle tid _ (few_woken values host (Tid tid) comm prio target)
few_of_kind values host cpu (kind.Fork parent child comm) = omega arith
few_of_kind values host cpu (kind.Exit tid) = omega arith
few_of_kind values host cpu (kind.Free tid) = omega arith
few_of_kind values host cpu (kind.Migrate tid dest) = few_unless_idle tid _ (omega arith)
few_of_kind values host cpu (kind.IrqIn irq) = omega arith
few_of_kind values host cpu (kind.IrqOut irq) = omega arith
few_of_kind values host cpu (kind.SoftIn vec) = omega arith
few_of_kind values host cpu (kind.SoftOut vec) = omega arith
few_of_kind values host cpu (kind.Process tid ppid name status) = few_unless_idle tid _ (few_process values host (Tid tid) ppid name status)
few_of_kind values host cpu (kind.CallIn name) = few_call (running (values (path.Cpu host cpu cpu_leaf.Thread)) cpu) host (Call name)
few_of_kind values host cpu (kind.CallOut name) = few_call (running (values (path.Cpu host cpu cpu_leaf.Thread)) cpu) host Null
few_of_kind values host cpu (kind.Send key) = omega arith
few_of_kind values host cpu (kind.Receive key) = omega arith
few_of_kind values host cpu (kind.DiskIssue sector dev count) = omega arith
few_of_kind values host cpu (kind.DiskDone sector dev count) = omega arith
few_of_kind values host cpu (kind.Lost events gap) = few_lost (running (values (path.Cpu host cpu cpu_leaf.Thread)) cpu) host cpu
few_of_kind values host cpu (kind.Other name) = omega arith

-- ---- the steps of assignments, and those of events
few_a_step : (t : ℕ) (table : Table) (a : Assignment) → length (assignment_steps t table a) ≤ 2
few_a_step t table a = few_either (is_idle table a) [] _ 2 (omega arith) (few_both _ _ 1 1 (few_either (is_held table a.path) [] (Add a.path ∷ []) 1 (omega arith) (omega arith)) (omega arith))

few_assigned : (t : ℕ) (table : Table) (given : List Assignment) → length (all_assignment_steps t table given) ≤ 2 * length given
few_assigned t table [] = omega arith
few_assigned t table (a ∷ more) = omega (arith, few_a_step t table a, few_assigned t (assigned table a) more, length-append (assignment_steps t table a) (all_assignment_steps t (assigned table a) more))

few_advance : (built key : ℕ) → length (advance built key) ≤ 1
few_advance built key = few_either (nat_lt built key) (Advance key ∷ []) [] 1 (omega arith) (omega arith)

few_from : (built : ℕ) (table : Table) (ms : List Merged) → length (steps_from built table ms) ≤ 17 * length ms + 1
few_from built table [] = omega arith
few_from built table (m ∷ ms) =
    let given = assignments (value_in table) m.event in
    let rest = steps_from (max built m.key) (all_assigned table given) ms in
    omega (
      arith,
      few_advance built m.key,
      few_assigned m.key table given,
      few_of_kind (value_in table) m.event.host m.event.cpu m.event.kind,
      few_from (max built m.key) (all_assigned table given) ms,
      length-append (advance built m.key) (all_assignment_steps m.key table given ++ rest),
      length-append (all_assignment_steps m.key table given) rest,
    )

pub few_steps : (merge : List Merged) → length (steps_of merge) ≤ 17 * length merge + 1
few_steps merge = few_from 0 [] merge
