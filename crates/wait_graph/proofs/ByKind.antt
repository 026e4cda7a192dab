-- What each kind of event does to threads and processors.
use Rattle.std.proofs.Common.{◌≡◌, ◌≢◌, ◌∙◌, ℕ, ℤ, pos, Bool, true, false, List, [], ◌∷◌, ◌++◌, Option, None, Some, refl, sym, ap, nat_eq, ne_eqb, ◌&&◌, if◌then◌else◌}
use Rattle.trace_types.specs.declared.event.KernelEvent.{KernelEvent}
use Rattle.trace_types.specs.declared.event.KernelEvent.TheVariants.{Switch, Wakeup, WakeupNew, Waking, Fork, Exit, Free, Migrate, IrqIn, IrqOut, SoftIn, SoftOut, Process, CallIn, CallOut, Send, Receive, DiskIssue, DiskDone, Lost, Other}
use Rattle.trace_types.specs.declared.path.Path.TheVariants as path
use Rattle.trace_types.specs.declared.path.CpuLeaf.{CpuLeaf}
use Rattle.trace_types.specs.declared.path.CpuLeaf.TheVariants as cpu_leaf
use Rattle.trace_types.specs.declared.value.Value.{Value}
use Rattle.trace_types.specs.declared.value.Value.TheVariants.{Null, Int, Comm, Call}
use Rattle.trace_types.specs.Same.{same_path, same_value}
use Rattle.trace_types.specs.declared.path.ThreadKey.{ThreadKey}
use Rattle.trace_types.specs.declared.path.ThreadKey.TheVariants.{Tid}
use Rattle.trace_types.specs.declared.path.ThreadLeaf.TheVariants as thread_leaf
use Rattle.kernel_provider.specs.declared.rules.Assignment.{Assignment}
use Rattle.kernel_provider.specs.Rules.{Values, gives, READY, BLOCKED, RUNNING, ENDED, left_status, thread_of, running, leaving_assignments, coming_assignments, woken_assignments, process_assignments, call_assignments, forgotten_thread, unless_idle, kind_assignments}
use Rattle.kernel_provider.specs.Replay.{put, put_all}
use Rattle.wait_graph.specs.declared.vertex.ThreadState.{ThreadState}
use Rattle.wait_graph.specs.States.{state_by}
use Rattle.wait_graph.specs.Changes.{touched}

-- only the threads that an event may change are changed
pub untouched : (current : Option ℕ) (tid : ℕ) (old : ThreadState) (kind : KernelEvent) → tid ≢ (touched current kind).0 → tid ≢ (touched current kind).1 → state_by current tid old kind ≡ old
untouched current tid old (Switch prev_state prev_tid next_tid prev_prio next_prio prev_comm next_comm) f s = rw (ne_eqb next_tid tid (λ e. f (sym e)), ne_eqb prev_tid tid (λ e. s (sym e))) refl
untouched current tid old (Wakeup woken comm prio target_cpu) f s = rw (ne_eqb woken tid (λ e. f (sym e))) refl
untouched current tid old (WakeupNew woken comm prio target_cpu) f s = rw (ne_eqb woken tid (λ e. f (sym e))) refl
untouched current tid old (Waking woken comm prio target_cpu) f s = rw (ne_eqb woken tid (λ e. f (sym e))) refl
untouched current tid old (Fork parent_tid child_tid child_comm) f s = rw (ne_eqb child_tid tid (λ e. f (sym e))) refl
untouched current tid old (Process found ppid name status) f s = rw (ne_eqb found tid (λ e. f (sym e))) refl
untouched current tid old (Free freed) f s = rw (ne_eqb freed tid (λ e. f (sym e))) refl
untouched (Some running) tid old (Lost events gap) f s = rw (ne_eqb running tid (λ e. f (sym e))) refl
untouched None tid old (Lost events gap) f s = refl
untouched current tid old (Exit ended) f s = refl
untouched current tid old (Migrate moved dest_cpu) f s = refl
untouched current tid old (IrqIn irq) f s = refl
untouched current tid old (IrqOut irq) f s = refl
untouched current tid old (SoftIn vec) f s = refl
untouched current tid old (SoftOut vec) f s = refl
untouched current tid old (CallIn name) f s = refl
untouched current tid old (CallOut name) f s = refl
untouched current tid old (Send key) f s = refl
untouched current tid old (Receive key) f s = refl
untouched current tid old (DiskIssue sector dev nr_sector) f s = refl
untouched current tid old (DiskDone sector dev nr_sector) f s = refl
untouched current tid old (Other name) f s = refl

-- ---- what a processor has after an event

module _ (h c : ℕ) (leaf : CpuLeaf) where
  -- none of them gives the processor anything
  abbrev AreOthers : List Assignment → Type 0
  AreOthers [] = Unit {0}
  AreOthers (a ∷ more) = (same_path a.path (path.Cpu h c leaf) ≡ false) × AreOthers more

  others_stay : (given : List Assignment) (values : Values) → AreOthers given → put_all values given (path.Cpu h c leaf) ≡ values (path.Cpu h c leaf)
  others_stay [] values h = refl
  others_stay (a ∷ more) values h = others_stay more (put values a) h.1 ∙ rw h.0 refl

  put_joined : (xs ys : List Assignment) (values : Values) → put_all values (xs ++ ys) ≡ put_all (put_all values xs) ys
  put_joined [] ys values = refl
  put_joined (x ∷ xs) ys values = put_joined xs ys (put values x)

  leaving : (values : Values) (host : ℕ) (thread : ThreadKey) (state prio : ℤ) (comm : List ℕ) → AreOthers (leaving_assignments values host thread state prio comm)
  leaving values host thread state prio comm = by (same_value (values (path.Thread host thread thread_leaf.Status)) ENDED)
    where
      by : (b : Bool) → AreOthers ((if b then [] else gives (path.Thread host thread thread_leaf.Status) (left_status state) ∷ [])
          ++ gives (path.Thread host thread thread_leaf.Name) (Comm comm) ∷ gives (path.Thread host thread thread_leaf.Prio) (Int prio) ∷ [])
      by true = (refl, (refl, tt))
      by false = (refl, (refl, (refl, tt)))

  woken : (values : Values) (host tid : ℕ) (comm : List ℕ) (prio : ℤ) (target : ℕ) → AreOthers (unless_idle tid (woken_assignments values host (Tid tid) comm prio target))
  woken values host tid comm prio target = by (nat_eq tid 0) (same_value (values (path.Thread host (Tid tid) thread_leaf.Status)) RUNNING)
    where
      by : (a b : Bool) → AreOthers (if a then [] else (gives (path.Thread host (Tid tid) thread_leaf.Name) (Comm comm)
          ∷ gives (path.Thread host (Tid tid) thread_leaf.Prio) (Int prio)
          ∷ (if b then [] else gives (path.Thread host (Tid tid) thread_leaf.Status) READY ∷ gives (path.Thread host (Tid tid) thread_leaf.Cpu) (Int (pos target)) ∷ [])))
      by true b = tt
      by false true = (refl, (refl, tt))
      by false false = (refl, (refl, (refl, (refl, tt))))

  moved : (host tid cpu : ℕ) → AreOthers (unless_idle tid (gives (path.Thread host (Tid tid) thread_leaf.Cpu) (Int (pos cpu)) ∷ []))
  moved host tid cpu = by (nat_eq tid 0)
    where
      by : (a : Bool) → AreOthers (if a then [] else gives (path.Thread host (Tid tid) thread_leaf.Cpu) (Int (pos cpu)) ∷ [])
      by true = tt
      by false = (refl, tt)

  found : (values : Values) (host tid ppid : ℕ) (name : List ℕ) (status : ℕ) → AreOthers (unless_idle tid (process_assignments values host (Tid tid) ppid name status))
  found values host tid ppid name status = by (nat_eq tid 0) (same_value (values (path.Thread host (Tid tid) thread_leaf.Status)) Null) (nat_eq status 2) (nat_eq status 5)
    where
      by : (a b d e : Bool) → AreOthers (if a then [] else (gives (path.Thread host (Tid tid) thread_leaf.Name) (Comm name)
          ∷ gives (path.Thread host (Tid tid) thread_leaf.Parent) (Int (pos ppid))
          ∷ (if b then (if d then gives (path.Thread host (Tid tid) thread_leaf.Status) READY ∷ [] else if e then gives (path.Thread host (Tid tid) thread_leaf.Status) BLOCKED ∷ [] else []) else [])))
      by true b d e = tt
      by false false d e = (refl, (refl, tt))
      by false true true e = (refl, (refl, (refl, tt)))
      by false true false true = (refl, (refl, (refl, tt)))
      by false true false false = (refl, (refl, tt))

  called : (thread : Option ThreadKey) (host : ℕ) (call : Value) → AreOthers (call_assignments thread host call)
  called None host call = tt
  called (Some thread) host call = (refl, tt)

  forgotten : (thread : Option ThreadKey) (host : ℕ) → AreOthers (forgotten_thread thread host)
  forgotten None host = tt
  forgotten (Some thread) host = (refl, (refl, tt))

-- what an event gives its own processor
abbrev pub leaf_after : KernelEvent → CpuLeaf → Value → Value
leaf_after (Switch prev_state prev_tid next_tid prev_prio next_prio prev_comm next_comm) cpu_leaf.Thread old = Int (pos next_tid)
leaf_after (IrqIn irq) cpu_leaf.Irq old = Int (pos irq)
leaf_after (IrqOut irq) cpu_leaf.Irq old = Null
leaf_after (SoftIn vec) cpu_leaf.Softirq old = Int (pos vec)
leaf_after (SoftOut vec) cpu_leaf.Softirq old = Null
leaf_after (Lost events gap) leaf old = Null
leaf_after kind leaf old = old

-- a processor's value before an event, and that event's on its own processor
abbrev pub chosen : Bool → Bool → Value → Value → Value
chosen a b new old = if a && b then new else old

own : (a b : Bool) (v w : Value) → (if a && (b && true) then v else w) ≡ chosen a b v w
own true true v w = refl
own true false v w = refl
own false b v w = refl

not_own : (a b : Bool) (v w : Value) → (if a && (b && false) then v else w) ≡ chosen a b w w
not_own true true v w = refl
not_own true false v w = refl
not_own false b v w = refl

same : (a b : Bool) (w : Value) → w ≡ chosen a b w w
same true true w = refl
same true false w = refl
same false b w = refl

three : (a b : Bool) (w : Value) → (if a && (b && false) then Null else (if a && (b && false) then Null else (if a && (b && true) then Null else w))) ≡ chosen a b Null w
three true true w = refl
three true false w = refl
three false b w = refl

three' : (a b : Bool) (w : Value) → (if a && (b && false) then Null else (if a && (b && true) then Null else (if a && (b && false) then Null else w))) ≡ chosen a b Null w
three' true true w = refl
three' true false w = refl
three' false b w = refl

three'' : (a b : Bool) (w : Value) → (if a && (b && true) then Null else (if a && (b && false) then Null else (if a && (b && false) then Null else w))) ≡ chosen a b Null w
three'' true true w = refl
three'' true false w = refl
three'' false b w = refl

module _ (values : Values) (host cpu h c : ℕ) where
  abbrev after : KernelEvent → CpuLeaf → Type 0
  after kind leaf = put_all values (kind_assignments values host cpu kind) (path.Cpu h c leaf) ≡ chosen (nat_eq host h) (nat_eq cpu c) (leaf_after kind leaf (values (path.Cpu h c leaf))) (values (path.Cpu h c leaf))

  stays : (leaf : CpuLeaf) (given : List Assignment) → AreOthers h c leaf given → put_all values given (path.Cpu h c leaf) ≡ chosen (nat_eq host h) (nat_eq cpu c) (values (path.Cpu h c leaf)) (values (path.Cpu h c leaf))
  stays leaf given others = others_stay h c leaf given values others ∙ same (nat_eq host h) (nat_eq cpu c) (values (path.Cpu h c leaf))

  switched : (leaf : CpuLeaf) (prev_state : ℤ) (prev_tid next_tid : ℕ) (prev_prio next_prio : ℤ) (prev_comm next_comm : List ℕ) → after (Switch prev_state prev_tid next_tid prev_prio next_prio prev_comm next_comm) leaf
  switched cpu_leaf.Thread prev_state prev_tid next_tid prev_prio next_prio prev_comm next_comm =
      ap (λ f. f (path.Cpu h c cpu_leaf.Thread)) (put_joined h c cpu_leaf.Thread (leaving_assignments values host (thread_of prev_tid cpu) prev_state prev_prio prev_comm) (coming_assignments host cpu next_tid next_prio next_comm) values)
      ∙ (own (nat_eq host h) (nat_eq cpu c) (Int (pos next_tid)) _
      ∙ ap (chosen (nat_eq host h) (nat_eq cpu c) (Int (pos next_tid))) (others_stay h c cpu_leaf.Thread _ values (leaving h c cpu_leaf.Thread values host (thread_of prev_tid cpu) prev_state prev_prio prev_comm)))
  switched cpu_leaf.Irq prev_state prev_tid next_tid prev_prio next_prio prev_comm next_comm =
      ap (λ f. f (path.Cpu h c cpu_leaf.Irq)) (put_joined h c cpu_leaf.Irq (leaving_assignments values host (thread_of prev_tid cpu) prev_state prev_prio prev_comm) (coming_assignments host cpu next_tid next_prio next_comm) values)
      ∙ (not_own (nat_eq host h) (nat_eq cpu c) (Int (pos next_tid)) _
      ∙ ap (λ v. chosen (nat_eq host h) (nat_eq cpu c) v v) (others_stay h c cpu_leaf.Irq _ values (leaving h c cpu_leaf.Irq values host (thread_of prev_tid cpu) prev_state prev_prio prev_comm)))
  switched cpu_leaf.Softirq prev_state prev_tid next_tid prev_prio next_prio prev_comm next_comm =
      ap (λ f. f (path.Cpu h c cpu_leaf.Softirq)) (put_joined h c cpu_leaf.Softirq (leaving_assignments values host (thread_of prev_tid cpu) prev_state prev_prio prev_comm) (coming_assignments host cpu next_tid next_prio next_comm) values)
      ∙ (not_own (nat_eq host h) (nat_eq cpu c) (Int (pos next_tid)) _
      ∙ ap (λ v. chosen (nat_eq host h) (nat_eq cpu c) v v) (others_stay h c cpu_leaf.Softirq _ values (leaving h c cpu_leaf.Softirq values host (thread_of prev_tid cpu) prev_state prev_prio prev_comm)))

  lost : (leaf : CpuLeaf) (events : ℕ) (gap : Bool) → after (Lost events gap) leaf
  lost cpu_leaf.Thread events gap =
      let thread = running (values (path.Cpu host cpu cpu_leaf.Thread)) cpu in
      ap (λ f. f (path.Cpu h c cpu_leaf.Thread)) (put_joined h c cpu_leaf.Thread (forgotten_thread thread host) _ values)
      ∙ (three (nat_eq host h) (nat_eq cpu c) _ ∙ ap (chosen (nat_eq host h) (nat_eq cpu c) Null) (others_stay h c cpu_leaf.Thread _ values (forgotten h c cpu_leaf.Thread thread host)))
  lost cpu_leaf.Irq events gap =
      let thread = running (values (path.Cpu host cpu cpu_leaf.Thread)) cpu in
      ap (λ f. f (path.Cpu h c cpu_leaf.Irq)) (put_joined h c cpu_leaf.Irq (forgotten_thread thread host) _ values)
      ∙ (three' (nat_eq host h) (nat_eq cpu c) _ ∙ ap (chosen (nat_eq host h) (nat_eq cpu c) Null) (others_stay h c cpu_leaf.Irq _ values (forgotten h c cpu_leaf.Irq thread host)))
  lost cpu_leaf.Softirq events gap =
      let thread = running (values (path.Cpu host cpu cpu_leaf.Thread)) cpu in
      ap (λ f. f (path.Cpu h c cpu_leaf.Softirq)) (put_joined h c cpu_leaf.Softirq (forgotten_thread thread host) _ values)
      ∙ (three'' (nat_eq host h) (nat_eq cpu c) _ ∙ ap (chosen (nat_eq host h) (nat_eq cpu c) Null) (others_stay h c cpu_leaf.Softirq _ values (forgotten h c cpu_leaf.Softirq thread host)))

  one_leaf : (mine leaf : CpuLeaf) (v : Value) (kind : KernelEvent) → kind_assignments values host cpu kind ≡ gives (path.Cpu host cpu mine) v ∷ [] → ((w : Value) → leaf_after kind mine w ≡ v) → ((w : Value) → mine ≢ leaf → leaf_after kind leaf w ≡ w) → after kind leaf
  one_leaf cpu_leaf.Thread cpu_leaf.Thread v kind e m o = rw (e, m (values (path.Cpu h c cpu_leaf.Thread))) (own (nat_eq host h) (nat_eq cpu c) v _)
  one_leaf cpu_leaf.Irq cpu_leaf.Irq v kind e m o = rw (e, m (values (path.Cpu h c cpu_leaf.Irq))) (own (nat_eq host h) (nat_eq cpu c) v _)
  one_leaf cpu_leaf.Softirq cpu_leaf.Softirq v kind e m o = rw (e, m (values (path.Cpu h c cpu_leaf.Softirq))) (own (nat_eq host h) (nat_eq cpu c) v _)
  one_leaf cpu_leaf.Thread cpu_leaf.Irq v kind e m o = rw (e, o (values (path.Cpu h c cpu_leaf.Irq)) (λ q. cc)) (not_own (nat_eq host h) (nat_eq cpu c) v _)
  one_leaf cpu_leaf.Thread cpu_leaf.Softirq v kind e m o = rw (e, o (values (path.Cpu h c cpu_leaf.Softirq)) (λ q. cc)) (not_own (nat_eq host h) (nat_eq cpu c) v _)
  one_leaf cpu_leaf.Irq cpu_leaf.Thread v kind e m o = rw (e, o (values (path.Cpu h c cpu_leaf.Thread)) (λ q. cc)) (not_own (nat_eq host h) (nat_eq cpu c) v _)
  one_leaf cpu_leaf.Irq cpu_leaf.Softirq v kind e m o = rw (e, o (values (path.Cpu h c cpu_leaf.Softirq)) (λ q. cc)) (not_own (nat_eq host h) (nat_eq cpu c) v _)
  one_leaf cpu_leaf.Softirq cpu_leaf.Thread v kind e m o = rw (e, o (values (path.Cpu h c cpu_leaf.Thread)) (λ q. cc)) (not_own (nat_eq host h) (nat_eq cpu c) v _)
  one_leaf cpu_leaf.Softirq cpu_leaf.Irq v kind e m o = rw (e, o (values (path.Cpu h c cpu_leaf.Irq)) (λ q. cc)) (not_own (nat_eq host h) (nat_eq cpu c) v _)

  irq_other : (v : Value) (kind : KernelEvent) → ((w : Value) → leaf_after kind cpu_leaf.Thread w ≡ w) → ((w : Value) → leaf_after kind cpu_leaf.Softirq w ≡ w) → (leaf : CpuLeaf) (w : Value) → cpu_leaf.Irq ≢ leaf → leaf_after kind leaf w ≡ w
  irq_other v kind t s cpu_leaf.Thread w ne = t w
  irq_other v kind t s cpu_leaf.Softirq w ne = s w
  irq_other v kind t s cpu_leaf.Irq w ne = absurd (ne refl)

  soft_other : (v : Value) (kind : KernelEvent) → ((w : Value) → leaf_after kind cpu_leaf.Thread w ≡ w) → ((w : Value) → leaf_after kind cpu_leaf.Irq w ≡ w) → (leaf : CpuLeaf) (w : Value) → cpu_leaf.Softirq ≢ leaf → leaf_after kind leaf w ≡ w
  soft_other v kind t s cpu_leaf.Thread w ne = t w
  soft_other v kind t s cpu_leaf.Irq w ne = s w
  soft_other v kind t s cpu_leaf.Softirq w ne = absurd (ne refl)

  -- what any processor has after an event
  pub cpu_after : (leaf : CpuLeaf) (kind : KernelEvent) → after kind leaf
  cpu_after leaf (Switch prev_state prev_tid next_tid prev_prio next_prio prev_comm next_comm) = switched leaf prev_state prev_tid next_tid prev_prio next_prio prev_comm next_comm
  cpu_after leaf (Wakeup tid comm prio target_cpu) = stays leaf _ (woken h c leaf values host tid comm prio target_cpu)
  cpu_after leaf (WakeupNew tid comm prio target_cpu) = stays leaf _ (woken h c leaf values host tid comm prio target_cpu)
  cpu_after leaf (Waking tid comm prio target_cpu) = stays leaf _ (woken h c leaf values host tid comm prio target_cpu)
  cpu_after leaf (Fork parent_tid child_tid child_comm) = stays leaf (kind_assignments values host cpu (Fork parent_tid child_tid child_comm)) (refl, (refl, (refl, (refl, tt))))
  cpu_after leaf (Exit tid) = stays leaf (kind_assignments values host cpu (Exit tid)) (refl, (refl, tt))
  cpu_after leaf (Free tid) = stays leaf (kind_assignments values host cpu (Free tid)) (refl, (refl, (refl, (refl, (refl, (refl, tt))))))
  cpu_after leaf (Migrate tid dest_cpu) = stays leaf _ (moved h c leaf host tid dest_cpu)
  cpu_after leaf (IrqIn irq) = one_leaf cpu_leaf.Irq leaf (Int (pos irq)) (IrqIn irq) refl (λ w. refl) (irq_other Null (IrqIn irq) (λ w. refl) (λ w. refl) leaf)
  cpu_after leaf (IrqOut irq) = one_leaf cpu_leaf.Irq leaf Null (IrqOut irq) refl (λ w. refl) (irq_other Null (IrqOut irq) (λ w. refl) (λ w. refl) leaf)
  cpu_after leaf (SoftIn vec) = one_leaf cpu_leaf.Softirq leaf (Int (pos vec)) (SoftIn vec) refl (λ w. refl) (soft_other Null (SoftIn vec) (λ w. refl) (λ w. refl) leaf)
  cpu_after leaf (SoftOut vec) = one_leaf cpu_leaf.Softirq leaf Null (SoftOut vec) refl (λ w. refl) (soft_other Null (SoftOut vec) (λ w. refl) (λ w. refl) leaf)
  cpu_after leaf (Process tid ppid name status) = stays leaf _ (found h c leaf values host tid ppid name status)
  cpu_after leaf (CallIn name) = stays leaf _ (called h c leaf (running (values (path.Cpu host cpu cpu_leaf.Thread)) cpu) host (Call name))
  cpu_after leaf (CallOut name) = stays leaf _ (called h c leaf (running (values (path.Cpu host cpu cpu_leaf.Thread)) cpu) host Null)
  cpu_after leaf (Send key) = stays leaf [] tt
  cpu_after leaf (Receive key) = stays leaf [] tt
  cpu_after leaf (DiskIssue sector dev nr_sector) = stays leaf [] tt
  cpu_after leaf (DiskDone sector dev nr_sector) = stays leaf [] tt
  cpu_after leaf (Lost events gap) = lost leaf events gap
  cpu_after leaf (Other name) = stays leaf [] tt
