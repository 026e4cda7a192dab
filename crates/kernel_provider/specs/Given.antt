-- What a provider of steps has given, and what it has still to give.
use Rattle.std.specs.Prelude.{ℕ, Bool, if◌then◌else◌, ◌+◌, ◌-◌, ◌*◌, List, [], ◌++◌, drop, length, ◌≡◌, Option, option_to_list}
use Rattle.trace_types.specs.declared.event.Merged.{Merged}
use Rattle.kernel_provider.specs.declared.rules.Assignment.{Assignment}
use Rattle.kernel_provider.specs.declared.step.Step.{Step}
use Rattle.kernel_provider.specs.declared.queue.Queue.{Queue}
use Rattle.kernel_provider.specs.Steps.{Table, all_assigned, all_assignment_steps, steps_from}

-- the table of paths, and whether one more can be added without memory
pub record Entries : Type 0 where
  pub table : Table
  pub has_room : Bool

-- the table of paths, the assignments that wait for their steps with the key of their event, the built end, the number of events begun, and whether Finish was given
pub record Given : Type 0 where
  pub table : Table
  pub waiting : List Assignment
  pub key : ℕ
  pub built : ℕ
  pub place : ℕ
  pub is_finished : Bool

-- the steps still to give of these events
abbrev pub left : Given → List Merged → List Step
left given events =
    if given.is_finished then [] else all_assignment_steps given.key given.table given.waiting ++ steps_from given.built (all_assigned given.table given.waiting) (drop given.place events)

-- what the fields of a provider stand for
abbrev pub given_of : Table → Queue → Given
given_of table queue = record {
  table = table;
  waiting = drop queue.next queue.assignments.items;
  key = queue.key;
  built = queue.built;
  place = queue.place;
  is_finished = queue.is_finished;
}

-- how much is still to look at: it falls at each turn that gives no step
abbrev pub work : Queue → List Merged → ℕ
work queue events = 9 * (length events - queue.place) + length (drop queue.next queue.assignments.items)

-- a turn of an assignment that waits gave at most one step, and leaves the steps of the others
abbrev pub GivesStep : Table → Queue → Table → Queue → Option Step → Type 0
GivesStep table queue table' queue' step =
    (all_assignment_steps queue.key table (drop queue.next queue.assignments.items) ≡ option_to_list step ++ all_assignment_steps queue.key table' (drop queue'.next queue.assignments.items))
    × (all_assigned table (drop queue.next queue.assignments.items) ≡ all_assigned table' (drop queue'.next queue.assignments.items))
    × (queue' ≡ record queue { next = queue'.next })
