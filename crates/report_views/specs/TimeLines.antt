-- How busy each processor was, and how long each thread ran: lines of a report (this project's own).
use Rattle.std.specs.Prelude.{◌≡◌, ℕ, ◌-◌, Bool, true, false, List, [], ◌∷◌, ◌++◌, codes, filter, flat_map}
use Rattle.std.specs.Fmt.{decimal}
use Rattle.std.specs.Ordering.{is_lt, nat_cmp}
use Rattle.std.specs.Cmp.Lexicographic.{slice_cmp}
use Rattle.std.specs.declared.cmp.Ordering.{Ordering}
use Rattle.trace_types.specs.ByteTexts.{byte_text}
use Rattle.trace_types.specs.Paths.{rank_of, thread_text}
use Rattle.trace_types.specs.declared.event.Merged.{Merged}
use Rattle.trace_types.specs.declared.path.Path.{Path as AttributePath}
use Rattle.trace_types.specs.declared.path.Path.TheVariants as path
use Rattle.trace_types.specs.declared.path.ThreadKey.{ThreadKey}
use Rattle.trace_types.specs.declared.path.CpuLeaf.TheVariants as cpu_leaf
use Rattle.trace_types.specs.declared.path.ThreadLeaf.TheVariants as thread_leaf
use Rattle.trace_types.specs.declared.value.Value.{Value}
use Rattle.trace_types.specs.declared.value.Value.TheVariants.{Comm}
use Rattle.kernel_provider.specs.Replay.{state_at}
use Rattle.kernel_provider.specs.Steps.{steps_of}
use Rattle.state_times.specs.Rows.{Times}
use Rattle.state_times.specs.StandsFor.{times_at}
use Rattle.state_times.specs.Times.{added, is_busy, is_one, is_set, is_unset, is_zero, last_key, time_with}
use Rattle.report_views.specs.Ordered.{ordered}

-- what a line tells of: a processor by its Thread, a thread by its Status
abbrev pub has_line : AttributePath → Bool
has_line (path.Cpu host cpu cpu_leaf.Thread) = true
has_line (path.Thread host thread thread_leaf.Status) = true
has_line p = false

-- paths as they are listed: by hosts, processors before idle threads before tids, by numbers
abbrev pub compare_paths : AttributePath → AttributePath → Ordering
compare_paths p q = slice_cmp nat_cmp (rank_of p) (rank_of q)

-- the second path isn't listed before the first
abbrev pub IsNotBelow : AttributePath → AttributePath → Type 0
IsNotBelow p q = is_lt (compare_paths q p) ≡ false

-- the processors and threads of a merge that have a value at some time, as they are listed
abbrev pub lined : List Merged → List AttributePath
lined merged = ordered compare_paths (filter has_line (added (steps_of merged)))

-- a processor: how long a thread, its idle thread and an unknown one ran on it, and how long it ran interrupts and soft interrupts, in ns
abbrev pub cpu_words : ℕ → ℕ → ℕ → ℕ → ℕ → ℕ → ℕ → List ℕ
cpu_words host cpu busy idle unknown irq softirq =
    codes "cpu " ++ decimal host ++ 32 ∷ decimal cpu ++ codes " busy " ++ decimal busy ++ codes " idle " ++ decimal idle ++ codes " unknown " ++ decimal unknown
    ++ codes " irq " ++ decimal irq ++ codes " softirq " ++ decimal softirq ++ 10 ∷ []

-- the line of a processor; a thread has none here
abbrev pub cpu_line : List Merged → AttributePath → List ℕ
cpu_line merged (path.Cpu host cpu leaf) =
    cpu_words host cpu
    (time_with is_busy merged (path.Cpu host cpu cpu_leaf.Thread))
    (time_with is_zero merged (path.Cpu host cpu cpu_leaf.Thread))
    (time_with is_unset merged (path.Cpu host cpu cpu_leaf.Thread))
    (time_with is_set merged (path.Cpu host cpu cpu_leaf.Irq))
    (time_with is_set merged (path.Cpu host cpu cpu_leaf.Softirq))
cpu_line merged (path.Thread host thread leaf) = []

-- a thread's name; a percent sign and a dash where none is known, which no name gives
abbrev pub name_text : Value → List ℕ
name_text (Comm name) = byte_text name
name_text value = codes "%-"

-- a thread: its name, and how long it ran, in ns
abbrev pub thread_words : ℕ → ThreadKey → Value → ℕ → List ℕ
thread_words host thread name running = codes "thread " ++ decimal host ++ 32 ∷ thread_text thread ++ 32 ∷ name_text name ++ codes " running " ++ decimal running ++ 10 ∷ []

-- the line of a thread, by its name after all events; a processor has none here
abbrev pub thread_line : List Merged → AttributePath → List ℕ
thread_line merged (path.Cpu host cpu leaf) = []
thread_line merged (path.Thread host thread leaf) =
    thread_words host thread
    (state_at merged (last_key merged) (path.Thread host thread thread_leaf.Name))
    (time_with is_one merged (path.Thread host thread thread_leaf.Status))

-- the lines of processors and then those of threads
abbrev pub time_lines : List Merged → List ℕ
time_lines merged = flat_map (cpu_line merged) (lined merged) ++ flat_map (thread_line merged) (lined merged)

-- ---- the same by times that stand for a merge

-- how long an attribute has a value other than none
abbrev pub set_time : Times → AttributePath → ℕ
set_time times p = times.last - times.first - (times_at times p).unset

-- the line of a processor, as times tell it
abbrev pub cpu_told : Times → AttributePath → List ℕ
cpu_told times (path.Cpu host cpu leaf) =
    cpu_words host cpu
    (set_time times (path.Cpu host cpu cpu_leaf.Thread) - (times_at times (path.Cpu host cpu cpu_leaf.Thread)).zero)
    (times_at times (path.Cpu host cpu cpu_leaf.Thread)).zero
    (times_at times (path.Cpu host cpu cpu_leaf.Thread)).unset
    (set_time times (path.Cpu host cpu cpu_leaf.Irq))
    (set_time times (path.Cpu host cpu cpu_leaf.Softirq))
cpu_told times (path.Thread host thread leaf) = []

-- the line of a thread, as times tell it
abbrev pub thread_told : Times → AttributePath → List ℕ
thread_told times (path.Cpu host cpu leaf) = []
thread_told times (path.Thread host thread leaf) =
    thread_words host thread (times_at times (path.Thread host thread thread_leaf.Name)).last (times_at times (path.Thread host thread thread_leaf.Status)).one
