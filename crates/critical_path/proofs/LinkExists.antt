-- Each place of a merge ends a wait by something.
use Rattle.std.proofs.Common.{◌≡◌, ◌≢◌, ◌∙◌, ◌⊎◌, inl, inr, ℕ, zero, suc, ◌+◌, ◌<◌, ◌≤◌, Bool, true, false, true≢false, List, [], ◌∷◌, Option, None, Some, length, slice_get, refl, sym, ap, subst, arith}
use Rattle.std.specs.Prelude.{pos, negsuc}
use Rattle.trace_types.specs.declared.event.Merged.{Merged}
use Rattle.trace_types.specs.declared.event.KernelEvent.{KernelEvent}
use Rattle.trace_types.specs.declared.event.KernelEvent.TheVariants.{Receive, SoftIn}
use Rattle.trace_types.specs.declared.segment.SegKey.{SegKey}
use Rattle.trace_types.specs.declared.path.Path.TheVariants as path
use Rattle.trace_types.specs.declared.path.CpuLeaf.TheVariants as cpu_leaf
use Rattle.trace_types.specs.declared.value.Value.{Value}
use Rattle.trace_types.specs.declared.value.Value.TheVariants as value
use Rattle.host_merge.specs.declared.placed.Placed.{Placed}
use Rattle.host_tree.proofs.Gets.{one_get, within}
use Rattle.wait_graph.specs.States.{tid_on, values_before}
use Rattle.wait_graph.specs.Graph.{AreMessagePlaces}
use Rattle.wait_graph.specs.Moments.{receive_by, HasReceived}
use Rattle.wait_graph.specs.Links.{wakes, thread_link, IsLastReceived, IsLinkAt, IsNet, IsNetLink, IsReceived, IsSoftInOn, IsSoftLink, IsWakeLink}
use Rattle.wait_graph.specs.declared.vertex.Link.{Link}
use Rattle.wait_graph.specs.declared.vertex.Link.TheVariants.{Net, Timer, Disk, Interrupt, Nobody}
use Rattle.wait_graph.proofs.Advance.{received_none, received_now, received_still}
use Rattle.wait_graph.proofs.Passing.{soft_or_not}
use Rattle.critical_path.proofs.LinkViews.{one_last_received}
use native.Mathlib.Decide.{dec_lt, ℕ_discrete}
use mathlib.Core.Logic.{dite}

-- a message that is received at a place and was sent before
abbrev IsMatchedAt : List Placed → ℕ → ℕ → ℕ → Type 0
IsMatchedAt placed place k s = (slice_get placed k ≡ Some (record { send = s; receive = place })) × (s < place)

matched_or_not : (placed : List Placed) (place : ℕ) → ((k : ℕ) × ((s : ℕ) × IsMatchedAt placed place k s)) ⊎ ((k s : ℕ) → ¬ IsMatchedAt placed place k s)
matched_or_not [] place = inr (λ k s is. let e = is.0 in absurd (cc))
matched_or_not (p ∷ ps) place = by (matched_or_not ps place)
  where
    first : (p : Placed) (s r : ℕ) → ◌≡◌ {A = Option Placed} (Some p) (Some (record { send = s; receive = r })) → (p.send ≡ s) × (p.receive ≡ r)
    first p s r e = let same : p ≡ record { send = s; receive = r } = cc in (ap (λ (q : Placed). q.send) same, ap (λ (q : Placed). q.receive) same)

    other : ¬ ((p.receive ≡ place) × (p.send < place)) → ((k s : ℕ) → ¬ IsMatchedAt ps place k s) → (k s : ℕ) → ¬ IsMatchedAt (p ∷ ps) place k s
    other here none zero s is = let f = first p s place is.0 in let lt = is.1 in let e = f.0 in here (f.1, omega (arith, e, lt))
    other here none (suc k) s is = none k s is

    itself : (p : Placed) → p.receive ≡ place → slice_get (p ∷ ps) 0 ≡ Some (record { send = p.send; receive = place })
    itself p e = rw (sym e) refl

    by : ((k : ℕ) × ((s : ℕ) × IsMatchedAt ps place k s)) ⊎ ((k s : ℕ) → ¬ IsMatchedAt ps place k s) → ((k : ℕ) × ((s : ℕ) × IsMatchedAt (p ∷ ps) place k s)) ⊎ ((k s : ℕ) → ¬ IsMatchedAt (p ∷ ps) place k s)
    by (inl f) = inl (suc f.0, f.1)
    by (inr none) = dite (ℕ_discrete p.receive place)
        (λ e. dite (dec_lt p.send place) (λ lt. inl (0, (p.send, (itself p e, lt)))) (λ ge. inr (other (λ x. ge x.1) none)))
        (λ ne. inr (other (λ x. ne x.0) none))

soft_is_no_receive : (kind : KernelEvent) (vec : ℕ) (key : SegKey) → kind ≡ SoftIn vec → kind ≡ Receive key → ⊥
soft_is_no_receive kind vec key e f = cc

module _ (merged : List Merged) (placed : List Placed) (messages : AreMessagePlaces merged placed) (host cpu : ℕ) where
  abbrev Last : ℕ → Type 0
  Last place = (o : Option ℕ) × HasReceived merged placed place host cpu o

  -- one more event
  module _ (place : ℕ) (e : Merged) (there : slice_get merged place ≡ Some e) (old : Last place) where
    still_last : ¬ IsSoftInOn merged host cpu place → ((s : ℕ) → ¬ IsReceived merged placed host cpu (place + 1) place s) → Last (place + 1)
    still_last quiet unmatched = (old.0, received_still merged place e there placed host cpu old.0 quiet unmatched old.1)

    elsewhere : ((e.event.host ≡ host) → (e.event.cpu ≡ cpu) → ⊥) → Last (place + 1)
    elsewhere off = still_last (λ soft. apart soft.event soft.there soft.of_host soft.of_cpu) (λ s is. apart is.here.event is.here.there is.here.of_host is.here.of_cpu)
      where
        apart : (x : Merged) → slice_get merged place ≡ Some x → x.event.host ≡ host → x.event.cpu ≡ cpu → ⊥
        apart x at h c = let same = one_get merged place x e at there in off (subst (λ (y : Merged). y.event.host ≡ host) same h) (subst (λ (y : Merged). y.event.cpu ≡ cpu) same c)

    here : e.event.host ≡ host → e.event.cpu ≡ cpu → Last (place + 1)
    here h c = by (soft_or_not e.event.kind)
      where
        quiet : ((vec : ℕ) → e.event.kind ≢ SoftIn vec) → ¬ IsSoftInOn merged host cpu place
        quiet none soft = none soft.vec (subst (λ (x : Merged). x.event.kind ≡ SoftIn soft.vec) (one_get merged place soft.event e soft.there there) soft.is_kind)

        matched : ((vec : ℕ) → e.event.kind ≢ SoftIn vec) → ((k : ℕ) × ((s : ℕ) × IsMatchedAt placed place k s)) ⊎ ((k s : ℕ) → ¬ IsMatchedAt placed place k s) → Last (place + 1)
        matched none (inl f) = (Some place, received_now merged place e there placed host cpu f.1.0 f.0 f.1.1.0 f.1.1.1 (record { event = e; there = there; of_host = h; of_cpu = c }) (quiet none))
        matched none (inr no_match) = still_last (quiet none) (λ s is. no_match is.number s (is.message, is.sent_before))

        by : ((vec : ℕ) × (e.event.kind ≡ SoftIn vec)) ⊎ (((vec : ℕ) → e.event.kind ≢ SoftIn vec) × ((o : Option ℕ) → receive_by o e.event.kind ≡ o)) → Last (place + 1)
        by (inl soft) = (None, received_none merged place e there placed host cpu (record { event = e; there = there; of_host = h; of_cpu = c; vec = soft.0; is_kind = soft.1 }))
        by (inr other) = matched other.0 (matched_or_not placed place)

    one_more : Last (place + 1)
    one_more = dite (ℕ_discrete e.event.host host) (λ h. dite (ℕ_discrete e.event.cpu cpu) (λ c. here h c) (λ nc. elsewhere (λ h c. nc c))) (λ nh. elsewhere (λ h c. nh h))

  -- a last message was received before each place, or none
  last_received : (place : ℕ) → place ≤ length merged → Last place
  last_received zero le = (None, record { some = tt; none = λ r s is. let b = is.before in absurd (omega (arith, b)) })
  last_received (suc place) le =
      let e = within merged place (omega (arith, le)) in
      let next : place + 1 ≡ suc place = omega arith in
      subst Last next (one_more place e.0 e.1 (last_received place (omega (arith, le))))

  module _ (end : ℕ) (end_within : end < length merged) where
    sender_found : (r s : ℕ) → IsLastReceived merged placed host cpu end r s → (e : Merged) → slice_get merged s ≡ Some e → (l : Link) × IsNetLink merged placed host cpu end l
    sender_found r s last e there = by (tid_on (values_before merged s) e.event.host e.event.cpu) refl
      where
        some_tid : (o : Option ℕ) (t u : ℕ) → o ≡ Some t → o ≡ Some u → t ≡ u
        some_tid o t u f g = cc

        no_tid : (o : Option ℕ) (t : ℕ) → o ≡ None → o ≡ Some t → ⊥
        no_tid o t f g = cc

        runs : (from tid send : ℕ) → IsNet merged placed host cpu end from tid send → tid_on (values_before merged s) e.event.host e.event.cpu ≡ Some tid
        runs from tid send is =
            let sent = (one_last_received merged placed messages host end cpu is.receive r send s is.last last).1 in
            let same = one_get merged s is.sender.event e (subst (λ n. slice_get merged n ≡ Some is.sender.event) sent is.sender.there) there in
            let own = subst (λ n. tid_on (values_before merged n) from is.sender.event.event.cpu ≡ Some tid) sent is.sender.runs in
            let of_host = subst (λ n. tid_on (values_before merged s) n is.sender.event.event.cpu ≡ Some tid) (sym is.sender.of_host) own in
            subst (λ (x : Merged). tid_on (values_before merged s) x.event.host x.event.cpu ≡ Some tid) same of_host

        by : (o : Option ℕ) → tid_on (values_before merged s) e.event.host e.event.cpu ≡ o → (l : Link) × IsNetLink merged placed host cpu end l
        by None q = (Interrupt, inr ((λ from tid send is. no_tid _ tid q (runs from tid send is)), refl))
        by (Some t) q = dite (ℕ_discrete t 0)
            (λ z. (Interrupt, inr ((λ from tid send is. is.sender.not_idle (some_tid _ tid t (runs from tid send is) q ∙ z)), refl)))
            (λ nz. (
              Net e.event.host t s,
              inl (e.event.host, t, s, record { receive = r; last = last; sender = record { event = e; there = there; of_host = refl; runs = q; not_idle = nz } }, refl),
            ))

    net_exists : (l : Link) × IsNetLink merged placed host cpu end l
    net_exists = by (last_received end (omega (arith, end_within)))
      where
        by : Last end → (l : Link) × IsNetLink merged placed host cpu end l
        by (None, has) = (Interrupt, inr ((λ from tid send is. has.none is.receive send is.last.received), refl))
        by (Some r, has) =
            let is = has.some.1.received in
            let sent = is.sent_before in let before = is.before in
            let e = within merged has.some.0 (omega (arith, sent, before, end_within)) in
            sender_found r has.some.0 has.some.1 e.0 e.1

    soft_exists : (vec : ℕ) → (l : Link) × IsSoftLink merged placed host cpu end vec l
    soft_exists vec = dite (ℕ_discrete vec 1)
        (λ e. (Timer, record { timer = λ _. refl; fine_timer = λ _. refl; disk = λ q. absurd (omega (arith, e, q)); network = λ q. absurd (omega (arith, e, q)); other = λ n _ _ _. absurd (n e) }))
        (λ n1. dite (ℕ_discrete vec 8)
        (λ e. (Timer, record { timer = λ _. refl; fine_timer = λ _. refl; disk = λ q. absurd (omega (arith, e, q)); network = λ q. absurd (omega (arith, e, q)); other = λ _ n _ _. absurd (n e) }))
        (λ n8. dite (ℕ_discrete vec 4)
        (λ e. (Disk, record { timer = λ q. absurd (n1 q); fine_timer = λ q. absurd (n8 q); disk = λ _. refl; network = λ q. absurd (omega (arith, e, q)); other = λ _ _ n _. absurd (n e) }))
        (λ n4. dite (ℕ_discrete vec 3)
        (λ e. let f = net_exists in (f.0, record { timer = λ q. absurd (n1 q); fine_timer = λ q. absurd (n8 q); disk = λ q. absurd (n4 q); network = λ _. f.1; other = λ _ _ _ n. absurd (n e) }))
        (λ n3. (Interrupt, record { timer = λ q. absurd (n1 q); fine_timer = λ q. absurd (n8 q); disk = λ q. absurd (n4 q); network = λ q. absurd (n3 q); other = λ _ _ _ _. refl })))))

    wake_exists : (tid : ℕ) (irq soft : Value) (running : Option ℕ) → (l : Link) × IsWakeLink merged placed host tid cpu end irq soft running l
    wake_exists tid value.Null value.Null running = (thread_link host tid running, refl)
    wake_exists tid value.Null (value.Int (pos vec)) running = soft_exists vec
    wake_exists tid value.Null (value.Int (negsuc n)) running = (Interrupt, refl)
    wake_exists tid value.Null (value.Comm c) running = (Interrupt, refl)
    wake_exists tid value.Null (value.Call c) running = (Interrupt, refl)
    wake_exists tid (value.Int n) soft running = (Interrupt, refl)
    wake_exists tid (value.Comm c) soft running = (Interrupt, refl)
    wake_exists tid (value.Call c) soft running = (Interrupt, refl)

pub link_exists : (merged : List Merged) (placed : List Placed) → AreMessagePlaces merged placed → (host tid end : ℕ) → end < length merged → (l : Link) × IsLinkAt merged placed host tid end l
link_exists merged placed messages host tid end lt = let e = within merged end lt in by e.0 e.1 (wakes tid e.0.event.kind) refl
  where
    by : (e : Merged) → slice_get merged end ≡ Some e → (b : Bool) → wakes tid e.event.kind ≡ b → (l : Link) × IsLinkAt merged placed host tid end l
    by e there true q =
        let f = wake_exists merged placed messages host e.event.cpu end lt tid (values_before merged end (path.Cpu host e.event.cpu cpu_leaf.Irq)) (values_before merged end (path.Cpu host e.event.cpu cpu_leaf.Softirq)) (tid_on (values_before merged end) host e.event.cpu) in
        (f.0, record { event = e; there = there; woken = λ _. f.1; alone = λ n. absurd (true≢false (sym q ∙ n)) })
    by e there false q = (Nobody, record { event = e; there = there; woken = λ w. absurd (true≢false (sym w ∙ q)); alone = λ _. refl })
