-- The kind of a decoded event lies in the ranges that a line of an event list has, where its texts are bytes.
use Rattle.std.proofs.Common.{◌≡◌, ◌≢◌, ◌⊎◌, inl, inr, zero, suc, ℕ, ℤ, ◌<◌, ◌^◌, Bool, true, false, if◌then◌else◌, List, [], ◌∷◌, map, Option, Some, None, refl, subst, sym, ◌∙◌, codes, pos, FitsSigned}
use Rattle.std.specs.Int.{w32, w64}
use Rattle.std.specs.Prelude.{neg_ℤ, option_map, slice_get, unwrap_or, ◌||◌}
use Rattle.std.specs.List.{AllByRecursion}
use Rattle.type_table.specs.Table.{Table}
use Rattle.type_table.specs.Types.{Text}
use Rattle.type_table.specs.TraceMetas.{TraceMetaModel}
use Rattle.ctf_fields.specs.declared.field.Field.{Field}
use Rattle.ctf_fields.specs.declared.raw.RawEvent.{RawEvent}
use Rattle.trace_types.specs.declared.event.KernelEvent.{KernelEvent}
use Rattle.trace_types.specs.declared.event.KernelEvent.TheVariants as kind
use Rattle.trace_types.specs.declared.segment.SegKey.{SegKey}
use Rattle.trace_types.specs.declared.woken.Woken.{Woken}
use Rattle.trace_types.specs.declared.request.Request.{Request}
use Rattle.trace_types.specs.CallNames.{is_call_in, is_call_out}
use Rattle.trace_types.specs.Ranges.{AreBytes, IsKind, IsRequested, IsSegKey, IsWoken}
use Rattle.event_list.specs.Lines.{name_at}
use Rattle.event_list.specs.Names.{with_number}
use Rattle.event_list.specs.Written.{name_parsed, texts_in}
use Rattle.trace_types.specs.Texts.{is_text}
use Rattle.trace_types.specs.declared.event_kind.EventKind.{EventKind}
use Rattle.trace_types.specs.declared.event_kind.EventKind.TheVariants as event_kind
use Rattle.kernel_layout.specs.Tracepoints.{call_kind, device_kind, first_of, interrupt_kind, kinds_of, scheduler_kind, kind_named}
use Rattle.kernel_layout.specs.Needed.{address, comm, number, of_16, of_32, of_64, small}
use Rattle.kernel_layout.specs.Kinds.{disk_request, event_of, fork, kind_of, migrate, name_of, or_other, other_event_of, ports, priority, process, segment, state, switch, wakeup_fields}
use Rattle.host_sync.proofs.Ranges.{found, from_some, is_address, is_name, is_priority, is_state, lies, lies_between, mapped}

-- the kind fits a line, where its texts are bytes
abbrev pub Fits : List (List ℕ) → KernelEvent → Type 0
Fits names k = AllByRecursion AreBytes (texts_in names k) → IsKind (name_parsed names k) (with_number 0 k)

-- what was found fits
abbrev FoundFits : List (List ℕ) → Option KernelEvent → Type 0
FoundFits names o = (k : KernelEvent) → o ≡ Some k → Fits names k

small_lies : (t : Table) (f : Field) (name : Text) (n : ℕ) → small t f name ≡ Some n → n < 2 ^ 31
small_lies t f name n e = lies 2147483648 (number t f name) n e

priority_lies : (t : Table) (f : Field) (name : Text) (z : ℤ) → priority t f name ≡ Some z → FitsSigned w32 z
priority_lies t f name z e = let h = lies_between (neg_ℤ (pos 2147483648)) (pos 2147483647) (number t f name) z e in is_priority z h.0 h.1

state_lies : (t : Table) (f : Field) (name : Text) (z : ℤ) → state t f name ≡ Some z → FitsSigned w64 z
state_lies t f name z e = let h = lies_between (neg_ℤ (pos 9223372036854775808)) (pos 9223372036854775807) (number t f name) z e in is_state z h.0 h.1

short_lies : (t : Table) (f : Field) (name : Text) (n : ℕ) → of_16 t f name ≡ Some n → n < 2 ^ 16
short_lies t f name n e = lies 65536 (number t f name) n e

word_lies : (t : Table) (f : Field) (name : Text) (n : ℕ) → of_32 t f name ≡ Some n → n < 2 ^ 32
word_lies t f name n e = lies 4294967296 (number t f name) n e

long_lies : (t : Table) (f : Field) (name : Text) (n : ℕ) → of_64 t f name ≡ Some n → n < 2 ^ 64
long_lies t f name n e = lies (2 ^ 64) (number t f name) n e

switch_fits : (names : List (List ℕ)) (t : Table) (f : Field) → FoundFits names (switch t f)
switch_fits names t f k e bytes =
    let s = found (state t f (codes "prev_state")) _ k e in
    let pt = found (small t f (codes "prev_tid")) _ k s.2 in
    let nt = found (small t f (codes "next_tid")) _ k pt.2 in
    let pp = found (priority t f (codes "prev_prio")) _ k nt.2 in
    let np = found (priority t f (codes "next_prio")) _ k pp.2 in
    let pc = found (comm t f (codes "prev_comm")) _ k np.2 in
    let nc = found (comm t f (codes "next_comm")) _ k pc.2 in
    let is : kind.Switch s.0 pt.0 nt.0 pp.0 np.0 pc.0 nc.0 ≡ k = from_some _ k nc.2 in
    let are = subst (λ k. AllByRecursion AreBytes (texts_in names k)) (sym is) bytes in
    subst (λ k. IsKind (name_parsed names k) (with_number 0 k)) is
    (refl, (small_lies t f (codes "prev_tid") pt.0 pt.1, is_name t f (codes "prev_comm") pc.0 pc.1 are.0, priority_lies t f (codes "prev_prio") pp.0 pp.1, state_lies t f (codes "prev_state") s.0 s.1, small_lies t f (codes "next_tid") nt.0 nt.1, is_name t f (codes "next_comm") nc.0 nc.1 are.1.0, priority_lies t f (codes "next_prio") np.0 np.1))

woken_lies : (t : Table) (f : Field) (w : Woken) → wakeup_fields t f ≡ Some w → AreBytes w.comm → IsWoken w.tid w.comm w.prio w.target_cpu
woken_lies t f w e bytes =
    let tid = found (small t f (codes "tid")) _ w e in
    let c = found (comm t f (codes "comm")) _ w tid.2 in
    let p = found (priority t f (codes "prio")) _ w c.2 in
    let cpu = found (small t f (codes "target_cpu")) _ w p.2 in
    let is : record { tid = tid.0; comm = c.0; prio = p.0; target_cpu = cpu.0 } ≡ w = from_some _ w cpu.2 in
    subst (λ (w : Woken). IsWoken w.tid w.comm w.prio w.target_cpu) is
    (small_lies t f (codes "tid") tid.0 tid.1, is_name t f (codes "comm") c.0 c.1 (subst (λ (w : Woken). AreBytes w.comm) (sym is) bytes), priority_lies t f (codes "prio") p.0 p.1, small_lies t f (codes "target_cpu") cpu.0 cpu.1)

woken_fits : (names : List (List ℕ)) (t : Table) (f : Field) (make : Woken → KernelEvent)
    → ((w : Woken) → texts_in names (make w) ≡ w.comm ∷ []) → ((w : Woken) → IsWoken w.tid w.comm w.prio w.target_cpu → IsKind (name_parsed names (make w)) (with_number 0 (make w)))
    → FoundFits names (option_map make (wakeup_fields t f))
woken_fits names t f make texts fits k e bytes =
    let w = mapped make (wakeup_fields t f) k e in
    let are : AllByRecursion AreBytes (w.0.comm ∷ []) = subst (AllByRecursion AreBytes) (texts w.0) (subst (λ k. AllByRecursion AreBytes (texts_in names k)) w.2 bytes) in
    subst (λ k. IsKind (name_parsed names k) (with_number 0 k)) (sym w.2) (fits w.0 (woken_lies t f w.0 w.1 are.0))

fork_fits : (names : List (List ℕ)) (t : Table) (f : Field) → FoundFits names (fork t f)
fork_fits names t f k e bytes =
    let p = found (small t f (codes "parent_tid")) _ k e in
    let c = found (small t f (codes "child_tid")) _ k p.2 in
    let n = found (comm t f (codes "child_comm")) _ k c.2 in
    let is : kind.Fork p.0 c.0 n.0 ≡ k = from_some _ k n.2 in
    let are = subst (λ k. AllByRecursion AreBytes (texts_in names k)) (sym is) bytes in
    subst (λ k. IsKind (name_parsed names k) (with_number 0 k)) is (refl, (small_lies t f (codes "parent_tid") p.0 p.1, small_lies t f (codes "child_tid") c.0 c.1, is_name t f (codes "child_comm") n.0 n.1 are.0))

migrate_fits : (names : List (List ℕ)) (t : Table) (f : Field) → FoundFits names (migrate t f)
migrate_fits names t f k e bytes =
    let tid = found (small t f (codes "tid")) _ k e in
    let cpu = found (small t f (codes "dest_cpu")) _ k tid.2 in
    subst (λ k. IsKind (name_parsed names k) (with_number 0 k)) (from_some _ k cpu.2) (refl, (small_lies t f (codes "tid") tid.0 tid.1, small_lies t f (codes "dest_cpu") cpu.0 cpu.1))

process_fits : (names : List (List ℕ)) (t : Table) (f : Field) → FoundFits names (process t f)
process_fits names t f k e bytes =
    let tid = found (small t f (codes "tid")) _ k e in
    let p = found (small t f (codes "ppid")) _ k tid.2 in
    let n = found (comm t f (codes "name")) _ k p.2 in
    let s = found (small t f (codes "status")) _ k n.2 in
    let is : kind.Process tid.0 p.0 n.0 s.0 ≡ k = from_some _ k s.2 in
    let are = subst (λ k. AllByRecursion AreBytes (texts_in names k)) (sym is) bytes in
    subst (λ k. IsKind (name_parsed names k) (with_number 0 k)) is (refl, (small_lies t f (codes "tid") tid.0 tid.1, small_lies t f (codes "ppid") p.0 p.1, is_name t f (codes "name") n.0 n.1 are.0, small_lies t f (codes "status") s.0 s.1))

segment_lies : (t : Table) (f : Field) (key : SegKey) → segment t f ≡ Some key → IsSegKey key
segment_lies t f key e =
    let s = found (address t f (codes "saddr")) _ key e in
    let d = found (address t f (codes "daddr")) _ key s.2 in
    let p = found (ports t f) _ key d.2 in
    let q = found (of_32 t f (codes "seq")) _ key p.2 in
    let a = found (of_32 t f (codes "ack_seq")) _ key q.2 in
    let g = found (of_16 t f (codes "flags")) _ key a.2 in
    let source = found (of_16 t f (codes "source_port")) _ p.0 p.1 in
    let dest = found (of_16 t f (codes "dest_port")) _ p.0 source.2 in
    let both : (source.0, dest.0) ≡ p.0 = from_some _ p.0 dest.2 in
    subst IsSegKey (from_some _ key g.2)
    (is_address t f (codes "saddr") s.0 s.1, is_address t f (codes "daddr") d.0 d.1, subst (λ (p : ℕ × ℕ). p.0 < 2 ^ 16) both (short_lies t f (codes "source_port") source.0 source.1), subst (λ (p : ℕ × ℕ). p.1 < 2 ^ 16) both (short_lies t f (codes "dest_port") dest.0 dest.1), word_lies t f (codes "seq") q.0 q.1, word_lies t f (codes "ack_seq") a.0 a.1, short_lies t f (codes "flags") g.0 g.1)

request_lies : (t : Table) (f : Field) (r : Request) → disk_request t f ≡ Some r → IsRequested r.sector r.dev r.nr_sector
request_lies t f r e =
    let s = found (of_64 t f (codes "sector")) _ r e in
    let d = found (of_32 t f (codes "dev")) _ r s.2 in
    let n = found (of_32 t f (codes "nr_sector")) _ r d.2 in
    subst (λ (r : Request). IsRequested r.sector r.dev r.nr_sector) (from_some _ r n.2) (long_lies t f (codes "sector") s.0 s.1, word_lies t f (codes "dev") d.0 d.1, word_lies t f (codes "nr_sector") n.0 n.1)

-- a kind that is made of one thing that was found
made_fits : {A : Type 0} (names : List (List ℕ)) (make : A → KernelEvent) (o : Option A)
    → ((a : A) → o ≡ Some a → IsKind (name_parsed names (make a)) (with_number 0 (make a))) → FoundFits names (option_map make o)
made_fits names make o fits k e bytes = let a = mapped make o k e in subst (λ k. IsKind (name_parsed names k) (with_number 0 k)) (sym a.2) (fits a.0 a.1)

-- the name of a call is one
abbrev IsNamed : List (List ℕ) → EventKind → ℕ → Type 0
IsNamed names p name = (p ≡ event_kind.CallIn → is_call_in (name_at names name) ≡ true) × (p ≡ event_kind.CallOut → is_call_out (name_at names name) ≡ true)

other_fits : (names : List (List ℕ)) (name : ℕ) → FoundFits names (Some (kind.Other name))
other_fits names name k e = subst (Fits names) (from_some _ k e) (λ bytes. (refl, bytes.0))

other_event_fits : (names : List (List ℕ)) (p : EventKind) (name : ℕ) (t : Table) (f : Field) → IsNamed names p name → FoundFits names (other_event_of p name t f)
other_event_fits names event_kind.Exit name t f h = made_fits names kind.Exit (small t f (codes "tid")) (λ n e. (refl, small_lies t f (codes "tid") n e))
other_event_fits names event_kind.Free name t f h = made_fits names kind.Free (small t f (codes "tid")) (λ n e. (refl, small_lies t f (codes "tid") n e))
other_event_fits names event_kind.IrqIn name t f h = made_fits names kind.IrqIn (small t f (codes "irq")) (λ n e. (refl, small_lies t f (codes "irq") n e))
other_event_fits names event_kind.IrqOut name t f h = made_fits names kind.IrqOut (small t f (codes "irq")) (λ n e. (refl, small_lies t f (codes "irq") n e))
other_event_fits names event_kind.SoftIn name t f h = made_fits names kind.SoftIn (small t f (codes "vec")) (λ n e. (refl, small_lies t f (codes "vec") n e))
other_event_fits names event_kind.SoftOut name t f h = made_fits names kind.SoftOut (small t f (codes "vec")) (λ n e. (refl, small_lies t f (codes "vec") n e))
other_event_fits names event_kind.CallIn name t f h = λ k e. subst (Fits names) (from_some _ k e) (λ bytes. (refl, h.0 refl, bytes.0))
other_event_fits names event_kind.CallOut name t f h = λ k e. subst (Fits names) (from_some _ k e) (λ bytes. (refl, h.1 refl, bytes.0))
other_event_fits names event_kind.Send name t f h = made_fits names kind.Send (segment t f) (λ key e. (refl, segment_lies t f key e))
other_event_fits names event_kind.Receive name t f h = made_fits names kind.Receive (segment t f) (λ key e. (refl, segment_lies t f key e))
other_event_fits names event_kind.DiskIssue name t f h = made_fits names (λ (r : Request). kind.DiskIssue r.sector r.dev r.nr_sector) (disk_request t f) (λ r e. (refl, request_lies t f r e))
other_event_fits names event_kind.DiskDone name t f h = made_fits names (λ (r : Request). kind.DiskDone r.sector r.dev r.nr_sector) (disk_request t f) (λ r e. (refl, request_lies t f r e))
other_event_fits names event_kind.Other name t f h = other_fits names name
other_event_fits names event_kind.Switch name t f h = other_fits names name
other_event_fits names event_kind.Wakeup name t f h = other_fits names name
other_event_fits names event_kind.WakeupNew name t f h = other_fits names name
other_event_fits names event_kind.Waking name t f h = other_fits names name
other_event_fits names event_kind.Fork name t f h = other_fits names name
other_event_fits names event_kind.Migrate name t f h = other_fits names name
other_event_fits names event_kind.Process name t f h = other_fits names name
other_event_fits names event_kind.Lost name t f h = other_fits names name

event_fits : (names : List (List ℕ)) (p : EventKind) (name : ℕ) (t : Table) (f : Field) → IsNamed names p name → FoundFits names (event_of p name t f)
event_fits names event_kind.Switch name t f h = switch_fits names t f
event_fits names event_kind.Wakeup name t f h = woken_fits names t f (λ w. kind.Wakeup w.tid w.comm w.prio w.target_cpu) (λ w. refl) (λ w is. (refl, is))
event_fits names event_kind.WakeupNew name t f h = woken_fits names t f (λ w. kind.WakeupNew w.tid w.comm w.prio w.target_cpu) (λ w. refl) (λ w is. (refl, is))
event_fits names event_kind.Waking name t f h = woken_fits names t f (λ w. kind.Waking w.tid w.comm w.prio w.target_cpu) (λ w. refl) (λ w is. (refl, is))
event_fits names event_kind.Fork name t f h = fork_fits names t f
event_fits names event_kind.Migrate name t f h = migrate_fits names t f
event_fits names event_kind.Process name t f h = process_fits names t f
event_fits names event_kind.Exit name t f h = other_event_fits names event_kind.Exit name t f h
event_fits names event_kind.Free name t f h = other_event_fits names event_kind.Free name t f h
event_fits names event_kind.IrqIn name t f h = other_event_fits names event_kind.IrqIn name t f h
event_fits names event_kind.IrqOut name t f h = other_event_fits names event_kind.IrqOut name t f h
event_fits names event_kind.SoftIn name t f h = other_event_fits names event_kind.SoftIn name t f h
event_fits names event_kind.SoftOut name t f h = other_event_fits names event_kind.SoftOut name t f h
event_fits names event_kind.CallIn name t f h = other_event_fits names event_kind.CallIn name t f h
event_fits names event_kind.CallOut name t f h = other_event_fits names event_kind.CallOut name t f h
event_fits names event_kind.Send name t f h = other_event_fits names event_kind.Send name t f h
event_fits names event_kind.Receive name t f h = other_event_fits names event_kind.Receive name t f h
event_fits names event_kind.DiskIssue name t f h = other_event_fits names event_kind.DiskIssue name t f h
event_fits names event_kind.DiskDone name t f h = other_event_fits names event_kind.DiskDone name t f h
event_fits names event_kind.Lost name t f h = other_event_fits names event_kind.Lost name t f h
event_fits names event_kind.Other name t f h = other_event_fits names event_kind.Other name t f h

or_other_fits : (names : List (List ℕ)) (name : ℕ) (o : Option KernelEvent) → FoundFits names o → Fits names (or_other name o).0
or_other_fits names name (Some k) h = h k refl
or_other_fits names name None h = λ bytes. (refl, bytes.0)

-- ---- the names of calls

-- no kind of a system call
abbrev NoCall : Option EventKind → Type 0
NoCall (Some event_kind.CallIn) = ⊥
NoCall (Some event_kind.CallOut) = ⊥
NoCall _ = Unit {0}

of_scheduler : (name : List ℕ) → NoCall (scheduler_kind name)
unfolding scheduler_kind
of_scheduler name = by (is_text name (codes "sched_switch")) (is_text name (codes "sched_wakeup")) (is_text name (codes "sched_wakeup_new")) (is_text name (codes "sched_waking")) (is_text name (codes "sched_process_fork")) (is_text name (codes "sched_process_exit")) (is_text name (codes "sched_process_free")) (is_text name (codes "sched_migrate_task")) (is_text name (codes "lttng_statedump_process_state"))
  where
    by : (a b c d e f g h i : Bool) → NoCall (if a then Some event_kind.Switch else if b then Some event_kind.Wakeup else if c then Some event_kind.WakeupNew else if d then Some event_kind.Waking else if e then Some event_kind.Fork else if f then Some event_kind.Exit else if g then Some event_kind.Free else if h then Some event_kind.Migrate else if i then Some event_kind.Process else None)
    by true b c d e f g h i = tt
    by false true c d e f g h i = tt
    by false false true d e f g h i = tt
    by false false false true e f g h i = tt
    by false false false false true f g h i = tt
    by false false false false false true g h i = tt
    by false false false false false false true h i = tt
    by false false false false false false false true i = tt
    by false false false false false false false false true = tt
    by false false false false false false false false false = tt

of_interrupt : (name : List ℕ) → NoCall (interrupt_kind name)
unfolding interrupt_kind
of_interrupt name = by (is_text name (codes "irq_handler_entry")) (is_text name (codes "irq_handler_exit")) (is_text name (codes "irq_softirq_entry")) (is_text name (codes "irq_softirq_exit"))
  where
    by : (a b c d : Bool) → NoCall (if a then Some event_kind.IrqIn else if b then Some event_kind.IrqOut else if c then Some event_kind.SoftIn else if d then Some event_kind.SoftOut else None)
    by true b c d = tt
    by false true c d = tt
    by false false true d = tt
    by false false false true = tt
    by false false false false = tt

of_device : (name : List ℕ) → NoCall (device_kind name)
unfolding device_kind
of_device name = by (is_text name (codes "net_dev_queue")) (is_text name (codes "netif_receive_skb") || is_text name (codes "net_if_receive_skb")) (is_text name (codes "block_rq_issue")) (is_text name (codes "block_rq_complete"))
  where
    by : (a b c d : Bool) → NoCall (if a then Some event_kind.Send else if b then Some event_kind.Receive else if c then Some event_kind.DiskIssue else if d then Some event_kind.DiskDone else None)
    by true b c d = tt
    by false true c d = tt
    by false false true d = tt
    by false false false true = tt
    by false false false false = tt

no_call : (p : EventKind) → (p ≡ event_kind.CallIn) ⊎ (p ≡ event_kind.CallOut) → NoCall (Some p) → ⊥
no_call p (inl e) h = subst (λ p. NoCall (Some p)) e h
no_call p (inr e) h = subst (λ p. NoCall (Some p)) e h

follows : (o : Option EventKind) (next : EventKind) → NoCall o → (first_of o next ≡ event_kind.CallIn) ⊎ (first_of o next ≡ event_kind.CallOut) → first_of o next ≡ next
follows (Some p) next h e = absurd (no_call p e h)
follows None next h e = refl

is_call : (name : List ℕ) → (kind_named name ≡ event_kind.CallIn) ⊎ (kind_named name ≡ event_kind.CallOut) → kind_named name ≡ call_kind name
is_call name e =
    let a = follows (scheduler_kind name) _ (of_scheduler name) e in
    let e2 = subst (λ p. (p ≡ event_kind.CallIn) ⊎ (p ≡ event_kind.CallOut)) a e in
    let b = follows (interrupt_kind name) _ (of_interrupt name) e2 in
    let e3 = subst (λ p. (p ≡ event_kind.CallIn) ⊎ (p ≡ event_kind.CallOut)) b e2 in
    a ∙ (b ∙ follows (device_kind name) _ (of_device name) e3)

call_in : (name : List ℕ) → call_kind name ≡ event_kind.CallIn → is_call_in name ≡ true
call_in name e = by (is_call_in name) (is_call_out name) refl e
  where
    by : (a b : Bool) → is_call_in name ≡ a → (if a then event_kind.CallIn else if b then event_kind.CallOut else event_kind.Other) ≡ event_kind.CallIn → is_call_in name ≡ true
    by true b is e = is
    by false true is e = absurd (cc)
    by false false is e = absurd (cc)

call_out : (name : List ℕ) → call_kind name ≡ event_kind.CallOut → is_call_out name ≡ true
call_out name e = by (is_call_in name) (is_call_out name) refl e
  where
    by : (a b : Bool) → is_call_out name ≡ b → (if a then event_kind.CallIn else if b then event_kind.CallOut else event_kind.Other) ≡ event_kind.CallOut → is_call_out name ≡ true
    by a true is e = is
    by true false is e = absurd (cc)
    by false false is e = absurd (cc)

-- a kind that isn't that of any other event is its name's
at_name : (names : List (List ℕ)) (n : ℕ) (p : EventKind) → p ≢ event_kind.Other → unwrap_or (slice_get (map kind_named names) n) event_kind.Other ≡ p → kind_named (name_at names n) ≡ p
at_name [] n p other e = absurd (other (sym e))
at_name (x ∷ xs) zero p other e = e
at_name (x ∷ xs) (suc n) p other e = at_name xs n p other e

are_named : (meta : TraceMetaModel) (name : ℕ) → IsNamed meta.declared.event_names (unwrap_or (slice_get (kinds_of meta) name) event_kind.Other) name
are_named meta name = (
  (λ e. let is = at_name meta.declared.event_names name event_kind.CallIn (λ c. absurd (cc)) e in call_in (name_at meta.declared.event_names name) (sym (is_call (name_at meta.declared.event_names name) (inl is)) ∙ is)),
  (λ e. let is = at_name meta.declared.event_names name event_kind.CallOut (λ c. absurd (cc)) e in call_out (name_at meta.declared.event_names name) (sym (is_call (name_at meta.declared.event_names name) (inr is)) ∙ is)),
)

-- a decoded event's kind fits
pub kind_fits : (meta : TraceMetaModel) (raw : RawEvent) → Fits meta.declared.event_names (kind_of meta raw).0
kind_fits meta raw =
    let name = name_of meta raw.event in
    or_other_fits meta.declared.event_names name _ (event_fits meta.declared.event_names (unwrap_or (slice_get (kinds_of meta) name) event_kind.Other) name meta.table raw.fields (are_named meta name))
