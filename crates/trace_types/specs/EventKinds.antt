-- The kinds of kernel events, and the words that event lists have for them (this project's own).
use Rattle.std.specs.Prelude.{ℕ, List, codes}
use Rattle.trace_types.specs.declared.event_kind.EventKind.{EventKind}
use Rattle.trace_types.specs.declared.event_kind.EventKind.TheVariants.{Switch, Wakeup, WakeupNew, Waking, Fork, Exit, Free, Migrate, IrqIn, IrqOut, SoftIn, SoftOut, Process, CallIn, CallOut, Send, Receive, DiskIssue, DiskDone, Lost, Other}
use Rattle.trace_types.specs.declared.event.KernelEvent.{KernelEvent}
use Rattle.trace_types.specs.declared.event.KernelEvent.TheVariants as event

-- the word of a kind (this project's own)
abbrev pub word_of : EventKind → List ℕ
word_of Switch = codes "switch"
word_of Wakeup = codes "wakeup"
word_of WakeupNew = codes "wakeup-new"
word_of Waking = codes "waking"
word_of Fork = codes "fork"
word_of Exit = codes "exit"
word_of Free = codes "free"
word_of Migrate = codes "migrate"
word_of IrqIn = codes "irq-in"
word_of IrqOut = codes "irq-out"
word_of SoftIn = codes "soft-in"
word_of SoftOut = codes "soft-out"
word_of Process = codes "process"
word_of CallIn = codes "call-in"
word_of CallOut = codes "call-out"
word_of Send = codes "send"
word_of Receive = codes "receive"
word_of DiskIssue = codes "disk-issue"
word_of DiskDone = codes "disk-done"
word_of Lost = codes "lost"
word_of Other = codes "other"

-- the kind of an event (this project's own)
abbrev pub kind_of_event : KernelEvent → EventKind
kind_of_event (event.Switch prev_state prev_tid next_tid prev_prio next_prio prev_comm next_comm) = Switch
kind_of_event (event.Wakeup tid comm prio target_cpu) = Wakeup
kind_of_event (event.WakeupNew tid comm prio target_cpu) = WakeupNew
kind_of_event (event.Waking tid comm prio target_cpu) = Waking
kind_of_event (event.Fork parent_tid child_tid child_comm) = Fork
kind_of_event (event.Exit tid) = Exit
kind_of_event (event.Free tid) = Free
kind_of_event (event.Migrate tid dest_cpu) = Migrate
kind_of_event (event.IrqIn irq) = IrqIn
kind_of_event (event.IrqOut irq) = IrqOut
kind_of_event (event.SoftIn vec) = SoftIn
kind_of_event (event.SoftOut vec) = SoftOut
kind_of_event (event.Process tid ppid name status) = Process
kind_of_event (event.CallIn name) = CallIn
kind_of_event (event.CallOut name) = CallOut
kind_of_event (event.Send key) = Send
kind_of_event (event.Receive key) = Receive
kind_of_event (event.DiskIssue sector dev nr_sector) = DiskIssue
kind_of_event (event.DiskDone sector dev nr_sector) = DiskDone
kind_of_event (event.Lost events gap) = Lost
kind_of_event (event.Other name) = Other
