-- The kinds of events by the names of their tracepoints (the names are those of LTTng's kernel tracer; that these are told apart is this project's own).
use Rattle.std.specs.Prelude.{ℕ, ◌||◌, Bool, List, codes, map, Option, Some, None, if◌then◌else◌}
use Rattle.trace_types.specs.CallNames.{is_call_in, is_call_out}
use Rattle.trace_types.specs.Texts.{is_text}
use Rattle.type_table.specs.Types.{Text}
use Rattle.type_table.specs.TraceMetas.{TraceMetaModel}
use Rattle.read_plan.specs.Contexts.{context_plans}
use Rattle.read_plan.specs.FixedSizes.{sizes_of}
use Rattle.read_plan.specs.Lone.{contexts_are_lone, headers_are_lone}
use Rattle.read_plan.specs.declared.context.ContextPlan.{ContextPlan}
use Rattle.kernel_layout.specs.Plans.{plan_of}
use Rattle.kernel_layout.specs.Skips.{skip_of}
use Rattle.kernel_layout.specs.Sought.{known_of}
use Rattle.kernel_layout.specs.declared.plan.EventPlan.{EventPlan}
use Rattle.kernel_layout.specs.declared.sought.Sought.{Sought}
use Rattle.trace_types.specs.declared.event_kind.EventKind.{EventKind}
use Rattle.trace_types.specs.declared.event_kind.EventKind.TheVariants as event_kind

-- what the scheduler does, and the threads that the tracer found when it began
unfoldable pub scheduler_kind : Text → Option EventKind
scheduler_kind name =
    if is_text name (codes "sched_switch") then Some event_kind.Switch
    else if is_text name (codes "sched_wakeup") then Some event_kind.Wakeup
    else if is_text name (codes "sched_wakeup_new") then Some event_kind.WakeupNew
    else if is_text name (codes "sched_waking") then Some event_kind.Waking
    else if is_text name (codes "sched_process_fork") then Some event_kind.Fork
    else if is_text name (codes "sched_process_exit") then Some event_kind.Exit
    else if is_text name (codes "sched_process_free") then Some event_kind.Free
    else if is_text name (codes "sched_migrate_task") then Some event_kind.Migrate
    else if is_text name (codes "lttng_statedump_process_state") then Some event_kind.Process
    else None

unfoldable pub interrupt_kind : Text → Option EventKind
interrupt_kind name =
    if is_text name (codes "irq_handler_entry") then Some event_kind.IrqIn
    else if is_text name (codes "irq_handler_exit") then Some event_kind.IrqOut
    else if is_text name (codes "irq_softirq_entry") then Some event_kind.SoftIn
    else if is_text name (codes "irq_softirq_exit") then Some event_kind.SoftOut
    else None

-- segments on the network and requests of disks
unfoldable pub device_kind : Text → Option EventKind
device_kind name =
    if is_text name (codes "net_dev_queue") then Some event_kind.Send
    else if is_text name (codes "netif_receive_skb") || is_text name (codes "net_if_receive_skb") then Some event_kind.Receive
    else if is_text name (codes "block_rq_issue") then Some event_kind.DiskIssue
    else if is_text name (codes "block_rq_complete") then Some event_kind.DiskDone
    else None

-- system calls, and any other event (LTTng's kernel tracer)
abbrev pub call_kind : Text → EventKind
call_kind name =
    if is_call_in name then event_kind.CallIn
    else if is_call_out name then event_kind.CallOut
    else event_kind.Other

abbrev pub first_of : Option EventKind → EventKind → EventKind
first_of (Some found) next = found
first_of None next = next

abbrev pub kind_named : Text → EventKind
kind_named name = first_of (scheduler_kind name) (first_of (interrupt_kind name) (first_of (device_kind name) (call_kind name)))

-- the kinds of all event names of a trace
abbrev pub kinds_of : TraceMetaModel → List EventKind
kinds_of meta = map kind_named meta.declared.event_names

-- the kind of each event name, for each event how many bits of it may be passed over, whether no type looks into the headers of events, which names of fields are those that kinds are told by, for each event the plan by which its fields are read, for each type the plan by which contexts of it are read, and whether no type looks into packets' contexts
pub record LayoutModel : Type 0 where
  pub kinds : List EventKind
  pub skips : List (Option ℕ)
  pub lone : Bool
  pub known : List (Option Sought)
  pub plans : List (Option EventPlan)
  pub contexts : List (Option ContextPlan)
  pub lone_contexts : Bool

abbrev pub plans_of : TraceMetaModel → List (Option EventPlan)
plans_of meta = map (λ e. plan_of meta.table (kinds_of meta) e.1) meta.declared.events

abbrev pub skips_of : TraceMetaModel → List (Option ℕ)
skips_of meta = map (λ e. skip_of (kinds_of meta) (sizes_of meta.table) (plan_of meta.table (kinds_of meta) e.1) e.1) meta.declared.events

-- what is decided once for all events of a trace
abbrev pub layout_of : TraceMetaModel → LayoutModel
layout_of meta = record { kinds = kinds_of meta; skips = skips_of meta; lone = headers_are_lone meta.table; known = known_of meta.table.names; plans = plans_of meta; contexts = context_plans meta.table; lone_contexts = contexts_are_lone meta.table }
