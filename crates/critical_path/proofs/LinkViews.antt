-- What is known of what ended a wait.
use Rattle.std.proofs.Common.{◌≡◌, ◌≢◌, ◌∙◌, inl, inr, ℕ, ◌<◌, Bool, true, false, List, Option, None, Some, slice_get, refl, sym, ap, subst, ne_eqb, eq-eqb, arith}
use Rattle.std.specs.Prelude.{pos, negsuc}
use Rattle.trace_types.specs.declared.event.Merged.{Merged}
use Rattle.trace_types.specs.declared.path.Path.TheVariants as path
use Rattle.trace_types.specs.declared.path.CpuLeaf.TheVariants as cpu_leaf
use Rattle.trace_types.specs.declared.value.Value.{Value}
use Rattle.trace_types.specs.declared.value.Value.TheVariants as value
use Rattle.host_merge.specs.declared.placed.Placed.{Placed}
use Rattle.host_tree.proofs.Gets.{one_get}
use Rattle.wait_graph.specs.States.{tid_on, values_before}
use Rattle.wait_graph.specs.Graph.{AreMessagePlaces}
use Rattle.wait_graph.specs.Links.{wakes, thread_link, IsLastReceived, IsReceived, IsSender, IsNet, IsNetLink, IsSoftLink, IsWakeLink, IsLinkAt}
use Rattle.wait_graph.specs.declared.vertex.Link.{Link}
use Rattle.wait_graph.specs.declared.vertex.Link.TheVariants.{Nothing, Thread, Net, Timer, Disk, Interrupt, Nobody}
use native.Mathlib.Decide.{ℕ_discrete}
use mathlib.Core.Logic.{dite}

-- the event at a place wakes a thread
pub record IsWoken (merged : List Merged) (tid end : ℕ) : Type 0 where
  pub event : Merged
  pub there : slice_get merged end ≡ Some event
  pub by : wakes tid event.event.kind ≡ true

-- a message was sent at a place before another
pub record IsSentBefore (placed : List Placed) (send end : ℕ) : Type 0 where
  pub receive : ℕ
  pub number : ℕ
  pub message : slice_get placed number ≡ Some (record { send = send; receive = receive })
  pub sent_before : send < receive
  pub before : receive < end

module _ (merged : List Merged) (placed : List Placed) (tid end : ℕ) where
  -- a waker is another thread, and not the idle one, and the wait's end wakes the waiting one; a sender isn't the idle thread, and its message was sent before
  abbrev pub IsKnown : Link → Type 0
  IsKnown Nothing = ⊥
  IsKnown (Thread h w) = (w ≢ tid) × ((w ≢ 0) × IsWoken merged tid end)
  IsKnown (Net h w send) = (w ≢ 0) × IsSentBefore placed send end
  IsKnown Timer = Unit {0}
  IsKnown Disk = Unit {0}
  IsKnown Interrupt = Unit {0}
  IsKnown Nobody = Unit {0}

  thread_known : (host : ℕ) (o : Option ℕ) → IsWoken merged tid end → IsKnown (thread_link host tid o)
  thread_known host None w = tt
  thread_known host (Some r) w = dite (ℕ_discrete r tid) (λ e. rw (eq-eqb r tid e) tt)
      (λ ne. dite (ℕ_discrete r 0) (λ z. rw (ne_eqb r tid ne, eq-eqb r 0 z) tt) (λ nz. rw (ne_eqb r tid ne, ne_eqb r 0 nz) (ne, (nz, w))))

  net_known : (host cpu from sender send : ℕ) → IsNet merged placed host cpu end from sender send → IsKnown (Net from sender send)
  net_known host cpu from sender send is =
      let r = is.last.received in
      (is.sender.not_idle, record { receive = is.receive; number = r.number; message = r.message; sent_before = r.sent_before; before = r.before })

  soft_known : (host cpu vec : ℕ) (l : Link) → IsSoftLink merged placed host cpu end vec l → IsKnown l
  soft_known host cpu vec l is = dite (ℕ_discrete vec 1) (λ e. subst IsKnown (sym (is.timer e)) tt)
      (λ n1. dite (ℕ_discrete vec 8) (λ e. subst IsKnown (sym (is.fine_timer e)) tt)
      (λ n8. dite (ℕ_discrete vec 4) (λ e. subst IsKnown (sym (is.disk e)) tt)
      (λ n4. dite (ℕ_discrete vec 3) (λ e. net (is.network e))
      (λ n3. subst IsKnown (sym (is.other n1 n8 n4 n3)) tt))))
    where
      net : IsNetLink merged placed host cpu end l → IsKnown l
      net (inl n) = subst IsKnown (sym n.4) (net_known host cpu n.0 n.1 n.2 n.3)
      net (inr n) = subst IsKnown (sym n.1) tt

  woken_known : (host cpu : ℕ) (irq soft : Value) (running : Option ℕ) (l : Link) → IsWoken merged tid end → IsWakeLink merged placed host tid cpu end irq soft running l → IsKnown l
  woken_known host cpu value.Null value.Null running l w is = subst IsKnown (sym is) (thread_known host running w)
  woken_known host cpu value.Null (value.Int (pos vec)) running l w is = soft_known host cpu vec l is
  woken_known host cpu value.Null (value.Int (negsuc n)) running l w is = subst IsKnown (sym is) tt
  woken_known host cpu value.Null (value.Comm c) running l w is = subst IsKnown (sym is) tt
  woken_known host cpu value.Null (value.Call c) running l w is = subst IsKnown (sym is) tt
  woken_known host cpu (value.Int n) soft running l w is = subst IsKnown (sym is) tt
  woken_known host cpu (value.Comm c) soft running l w is = subst IsKnown (sym is) tt
  woken_known host cpu (value.Call c) soft running l w is = subst IsKnown (sym is) tt

  pub link_known : (host : ℕ) (l : Link) → IsLinkAt merged placed host tid end l → IsKnown l
  link_known host l is = by (wakes tid is.event.event.kind) refl
    where
      by : (b : Bool) → wakes tid is.event.event.kind ≡ b → IsKnown l
      by true e = woken_known host is.event.event.cpu _ _ _ l (record { event = is.event; there = is.there; by = e }) (is.woken e)
      by false e = subst IsKnown (sym (is.alone e)) tt

-- ---- one thing ends a wait
module _ (merged : List Merged) (placed : List Placed) (messages : AreMessagePlaces merged placed) (host end : ℕ) where
  some_tid : (o : Option ℕ) (t u : ℕ) → o ≡ Some t → o ≡ Some u → t ≡ u
  some_tid o t u e f = cc

  send_of : (s t r : ℕ) → ◌≡◌ {A = Placed} (record { send = s; receive = r }) (record { send = t; receive = r }) → s ≡ t
  send_of s t r e = ap (λ (p : Placed). p.send) e

  one_received : (cpu r s t : ℕ) → IsReceived merged placed host cpu end r s → IsReceived merged placed host cpu end r t → s ≡ t
  one_received cpu r s t a b =
      let n = messages.once a.number b.number _ _ a.message b.message refl in
      send_of s t r (one_get placed b.number _ _ (subst (λ k. slice_get placed k ≡ Some (record { send = s; receive = r })) n a.message) b.message)

  one_sender : (s h t g u : ℕ) → IsSender merged s h t → IsSender merged s g u → (h ≡ g) × (t ≡ u)
  one_sender s h t g u a b =
      let same = one_get merged s a.event b.event a.there b.there in
      let hosts : h ≡ g = sym a.of_host ∙ (ap (λ (e : Merged). e.event.host) same ∙ b.of_host) in
      let runs = subst (λ n. tid_on (values_before merged s) n b.event.event.cpu ≡ Some t) hosts (subst (λ (e : Merged). tid_on (values_before merged s) h e.event.cpu ≡ Some t) same a.runs) in
      (hosts, some_tid _ t u runs b.runs)

  pub one_last_received : (cpu q r s t : ℕ) → IsLastReceived merged placed host cpu end q s → IsLastReceived merged placed host cpu end r t → (q ≡ r) × (s ≡ t)
  one_last_received cpu q r s t a b =
      let lo = a.last r t b.received in
      let hi = b.last q s a.received in
      let same : q ≡ r = omega (arith, lo, hi) in
      (same, one_received cpu r s t (subst (λ n. IsReceived merged placed host cpu end n s) same a.received) b.received)

  one_net : (cpu h t s g u r : ℕ) → IsNet merged placed host cpu end h t s → IsNet merged placed host cpu end g u r → Net h t s ≡ Net g u r
  one_net cpu h t s g u r a b =
      let sends = (one_last_received cpu a.receive b.receive s r a.last b.last).1 in
      let both = one_sender r h t g u (subst (λ n. IsSender merged n h t) sends a.sender) b.sender in
      rw (sends, both.0, both.1) refl

  one_net_link : (cpu : ℕ) (l m : Link) → IsNetLink merged placed host cpu end l → IsNetLink merged placed host cpu end m → l ≡ m
  one_net_link cpu l m (inl a) (inl b) = a.4 ∙ (one_net cpu a.0 a.1 a.2 b.0 b.1 b.2 a.3 b.3 ∙ sym b.4)
  one_net_link cpu l m (inl a) (inr b) = absurd (b.0 a.0 a.1 a.2 a.3)
  one_net_link cpu l m (inr a) (inl b) = absurd (a.0 b.0 b.1 b.2 b.3)
  one_net_link cpu l m (inr a) (inr b) = a.1 ∙ sym b.1

  one_soft : (cpu vec : ℕ) (l m : Link) → IsSoftLink merged placed host cpu end vec l → IsSoftLink merged placed host cpu end vec m → l ≡ m
  one_soft cpu vec l m a b = dite (ℕ_discrete vec 1) (λ e. a.timer e ∙ sym (b.timer e))
      (λ n1. dite (ℕ_discrete vec 8) (λ e. a.fine_timer e ∙ sym (b.fine_timer e))
      (λ n8. dite (ℕ_discrete vec 4) (λ e. a.disk e ∙ sym (b.disk e))
      (λ n4. dite (ℕ_discrete vec 3) (λ e. one_net_link cpu l m (a.network e) (b.network e))
      (λ n3. a.other n1 n8 n4 n3 ∙ sym (b.other n1 n8 n4 n3)))))

  one_woken : (tid cpu : ℕ) (irq soft : Value) (running : Option ℕ) (l m : Link) → IsWakeLink merged placed host tid cpu end irq soft running l → IsWakeLink merged placed host tid cpu end irq soft running m → l ≡ m
  one_woken tid cpu value.Null value.Null running l m a b = a ∙ sym b
  one_woken tid cpu value.Null (value.Int (pos vec)) running l m a b = one_soft cpu vec l m a b
  one_woken tid cpu value.Null (value.Int (negsuc n)) running l m a b = a ∙ sym b
  one_woken tid cpu value.Null (value.Comm c) running l m a b = a ∙ sym b
  one_woken tid cpu value.Null (value.Call c) running l m a b = a ∙ sym b
  one_woken tid cpu (value.Int n) soft running l m a b = a ∙ sym b
  one_woken tid cpu (value.Comm c) soft running l m a b = a ∙ sym b
  one_woken tid cpu (value.Call c) soft running l m a b = a ∙ sym b

  pub one_link : (tid : ℕ) (l m : Link) → IsLinkAt merged placed host tid end l → IsLinkAt merged placed host tid end m → l ≡ m
  one_link tid l m a b = by (wakes tid a.event.event.kind) refl
    where
      same : b.event ≡ a.event
      same = one_get merged end b.event a.event b.there a.there

      by : (w : Bool) → wakes tid a.event.event.kind ≡ w → l ≡ m
      by true e = one_woken tid a.event.event.cpu _ _ _ l m (a.woken e)
          (subst (λ (x : Merged). wakes tid x.event.kind ≡ true → IsWakeLink merged placed host tid x.event.cpu end
          (values_before merged end (path.Cpu host x.event.cpu cpu_leaf.Irq)) (values_before merged end (path.Cpu host x.event.cpu cpu_leaf.Softirq)) (tid_on (values_before merged end) host x.event.cpu) m) same b.woken e)
      by false e = a.alone e ∙ sym (b.alone (subst (λ (x : Merged). wakes tid x.event.kind ≡ false) (sym same) e))
