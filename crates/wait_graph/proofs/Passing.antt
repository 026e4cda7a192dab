-- The moments of all processors, one event after another.
use Rattle.std.proofs.Common.{◌≡◌, ◌≢◌, ◌∙◌, ◌⊎◌, inl, inr, ℕ, ◌+◌, Bool, true, false, true≢false, List, [], ◌∷◌, ◌++◌, Option, None, Some, is_some, length, slice_get, refl, sym, ap, subst, nat_eq, ne_eqb, ◌&&◌, arith, rules, ⊎_elim}
use Rattle.std.proofs.lemmas.List.{length-append}
use Rattle.trace_types.specs.declared.event.Merged.{Merged}
use Rattle.trace_types.specs.declared.event.KernelEvent.{KernelEvent}
use Rattle.trace_types.specs.declared.event.KernelEvent.TheVariants.{Switch, Wakeup, WakeupNew, Waking, Fork, Exit, Free, Migrate, IrqIn, IrqOut, SoftIn, SoftOut, Process, CallIn, CallOut, Send, Receive, DiskIssue, DiskDone, Lost, Other}
use Rattle.trace_types.specs.declared.segment.SegKey.{SegKey}
use Rattle.host_merge.specs.declared.placed.Placed.{Placed}
use Rattle.wait_graph.proofs.Pushes.{pushed}
use Rattle.wait_graph.specs.declared.moment.Moment.{Moment}
use Rattle.wait_graph.specs.declared.moment.CpuName.{CpuName}
use Rattle.wait_graph.specs.Links.{IsOn}
use Rattle.wait_graph.specs.Graph.{AreMessagePlaces}
use Rattle.wait_graph.specs.Moments.{moment_in, receive_after, receive_by, same_cpu, IsMoment, HasReceived, AreSends, StepsTo, ArePassed, AreMoments}
use Rattle.wait_graph.proofs.Advance.{fields, moment_here, moment_elsewhere, received_still, received_none, received_now}
use native.Mathlib.Decide.{ℕ_discrete}
use mathlib.Core.Logic.{dite}

cpu_is : (k l : CpuName) → same_cpu k l ≡ true → k ≡ l
cpu_is k l h = search rules

cpu_itself : (k : CpuName) → same_cpu k k ≡ true
cpu_itself k = search rules

and_false : (b : Bool) → (b && false) ≡ false
and_false true = refl
and_false false = refl

others_test : (host cpu h c : ℕ) → same_cpu (record { host = h; cpu = c }) (record { host = host; cpu = cpu }) ≡ false → (nat_eq host h && nat_eq cpu c) ≡ false
others_test host cpu h c other = dite (ℕ_discrete host h)
    (λ e. dite (ℕ_discrete cpu c)
    (λ f. absurd (true≢false (sym (cpu_itself (record { host = h; cpu = c })) ∙ subst (λ n. same_cpu (record { host = h; cpu = c }) (record { host = h; cpu = n }) ≡ false) f (subst (λ n. same_cpu (record { host = h; cpu = c }) (record { host = n; cpu = cpu }) ≡ false) e other))))
    (λ ne. rw (ne_eqb cpu c ne) (and_false (nat_eq host h))))
    (λ ne. rw (ne_eqb host h ne) refl)

-- an event either begins a soft interrupt, or leaves the last receive
pub soft_or_not : (kind : KernelEvent) → ((vec : ℕ) × (kind ≡ SoftIn vec)) ⊎ (((vec : ℕ) → kind ≢ SoftIn vec) × ((old : Option ℕ) → receive_by old kind ≡ old))
soft_or_not (SoftIn vec) = inl (vec, refl)
soft_or_not (Switch prev_state prev_tid next_tid prev_prio next_prio prev_comm next_comm) = inr ((λ v e. absurd (cc)), λ old. refl)
soft_or_not (Wakeup tid comm prio target_cpu) = inr ((λ v e. absurd (cc)), λ old. refl)
soft_or_not (WakeupNew tid comm prio target_cpu) = inr ((λ v e. absurd (cc)), λ old. refl)
soft_or_not (Waking tid comm prio target_cpu) = inr ((λ v e. absurd (cc)), λ old. refl)
soft_or_not (Fork parent_tid child_tid child_comm) = inr ((λ v e. absurd (cc)), λ old. refl)
soft_or_not (Exit tid) = inr ((λ v e. absurd (cc)), λ old. refl)
soft_or_not (Free tid) = inr ((λ v e. absurd (cc)), λ old. refl)
soft_or_not (Migrate tid dest_cpu) = inr ((λ v e. absurd (cc)), λ old. refl)
soft_or_not (IrqIn irq) = inr ((λ v e. absurd (cc)), λ old. refl)
soft_or_not (IrqOut irq) = inr ((λ v e. absurd (cc)), λ old. refl)
soft_or_not (SoftOut vec) = inr ((λ v e. absurd (cc)), λ old. refl)
soft_or_not (Process tid ppid name status) = inr ((λ v e. absurd (cc)), λ old. refl)
soft_or_not (CallIn name) = inr ((λ v e. absurd (cc)), λ old. refl)
soft_or_not (CallOut name) = inr ((λ v e. absurd (cc)), λ old. refl)
soft_or_not (Send key) = inr ((λ v e. absurd (cc)), λ old. refl)
soft_or_not (Receive key) = inr ((λ v e. absurd (cc)), λ old. refl)
soft_or_not (DiskIssue sector dev nr_sector) = inr ((λ v e. absurd (cc)), λ old. refl)
soft_or_not (DiskDone sector dev nr_sector) = inr ((λ v e. absurd (cc)), λ old. refl)
soft_or_not (Lost events gap) = inr ((λ v e. absurd (cc)), λ old. refl)
soft_or_not (Other name) = inr ((λ v e. absurd (cc)), λ old. refl)

one_event : (ms : List Merged) (i : ℕ) (x y : Merged) → slice_get ms i ≡ Some x → slice_get ms i ≡ Some y → x ≡ y
one_event ms i x y e f = cc

soft_is_no_receive : (kind : KernelEvent) (vec : ℕ) (key : SegKey) → kind ≡ SoftIn vec → kind ≡ Receive key → ⊥
soft_is_no_receive kind vec key e f = cc

module _ (merged : List Merged) (placed : List Placed) (sends : List (Option ℕ)) (messages : AreMessagePlaces merged placed) (are : AreSends merged placed sends) where
  pub none_passed : (cpus : List (CpuName × Moment)) (moments : List Moment) → cpus ≡ [] → moments ≡ [] → ArePassed merged placed 0 cpus moments
  none_passed cpus moments no_cpus no_moments = rw (no_cpus, no_moments) (record {
    at = record {
      values = λ h c. record { thread = refl; irq = refl; softirq = refl };
      receives = λ h c. record { some = tt; none = λ r s is. let b = is.before in absurd (omega (arith, b)) };
    };
    count = refl;
    values = λ p e m at got. absurd (cc);
    receives = λ p e m at got. absurd (cc);
  })

  module _ (place : ℕ) (e : Merged) (there : slice_get merged place ≡ Some e) (found : Option ℕ) (got : slice_get sends place ≡ Some found) where
    received_here : (old : Option ℕ) → HasReceived merged placed place e.event.host e.event.cpu old
        → HasReceived merged placed (place + 1) e.event.host e.event.cpu (receive_after old e.event.kind place (is_some found))
    received_here old has = by found got
      where
        on : IsOn merged e.event.host e.event.cpu place
        on = record { event = e; there = there; of_host = refl; of_cpu = refl }

        by : (f : Option ℕ) → slice_get sends place ≡ Some f → HasReceived merged placed (place + 1) e.event.host e.event.cpu (receive_after old e.event.kind place (is_some f))
        by (Some s) g =
            let m = are.some place s g in
            received_now merged place e there placed e.event.host e.event.cpu s m.1.0 m.1.1 m.0 on (λ soft.
            let r = messages.receives m.1.0 (record { send = s; receive = place }) m.1.1 in
            soft_is_no_receive soft.event.event.kind soft.vec r.is_kind.0 soft.is_kind (subst (λ (x : Merged). x.event.kind ≡ Receive r.is_kind.0) (one_event merged place r.event soft.event r.there soft.there) r.is_kind.1))
        by None g = either (soft_or_not e.event.kind)
          where
            either : ((vec : ℕ) × (e.event.kind ≡ SoftIn vec)) ⊎ (((vec : ℕ) → e.event.kind ≢ SoftIn vec) × ((o : Option ℕ) → receive_by o e.event.kind ≡ o)) → HasReceived merged placed (place + 1) e.event.host e.event.cpu (receive_by old e.event.kind)
            either (inl soft) = rw (soft.1) (received_none merged place e there placed e.event.host e.event.cpu (record { event = e; there = there; of_host = refl; of_cpu = refl; vec = soft.0; is_kind = soft.1 }))
            either (inr other) = rw (other.1 old) (received_still merged place e there placed e.event.host e.event.cpu old
                (λ soft. other.0 soft.vec (subst (λ (x : Merged). x.event.kind ≡ SoftIn soft.vec) (one_event merged place soft.event e soft.there there) soft.is_kind))
                (λ s is. let all = are.all is.number place s is.message is.sent_before in absurd (cc)) has)

    received_elsewhere : (h c : ℕ) (old : Option ℕ) → same_cpu (record { host = h; cpu = c }) (record { host = e.event.host; cpu = e.event.cpu }) ≡ false → HasReceived merged placed place h c old → HasReceived merged placed (place + 1) h c old
    received_elsewhere h c old other has = received_still merged place e there placed h c old
        (λ soft. apart soft.event soft.there soft.of_host soft.of_cpu) (λ s is. apart is.here.event is.here.there is.here.of_host is.here.of_cpu) has
      where
        apart : (x : Merged) → slice_get merged place ≡ Some x → x.event.host ≡ h → x.event.cpu ≡ c → ⊥
        apart x at eh ec =
            let same = one_event merged place x e at there in
            let fh : e.event.host ≡ h = subst (λ (y : Merged). y.event.host ≡ h) same eh in
            let fc : e.event.cpu ≡ c = subst (λ (y : Merged). y.event.cpu ≡ c) same ec in
            true≢false (sym (cpu_itself (record { host = h; cpu = c })) ∙ subst (λ n. same_cpu (record { host = h; cpu = c }) (record { host = h; cpu = n }) ≡ false) fc (subst (λ n. same_cpu (record { host = h; cpu = c }) (record { host = n; cpu = e.event.cpu }) ≡ false) fh other))

    module _ (before : Moment) (cpus new : List (CpuName × Moment)) (moments : List Moment) (step : StepsTo e.event place (is_some found) cpus before new) (old : ArePassed merged placed place cpus moments) where
      here : CpuName
      here = record { host = e.event.host; cpu = e.event.cpu }

      before_values : IsMoment merged place e.event.host e.event.cpu before
      before_values = subst (IsMoment merged place e.event.host e.event.cpu) (sym step.told) (old.at.values e.event.host e.event.cpu)

      before_receives : HasReceived merged placed place e.event.host e.event.cpu before.receive
      before_receives = subst (λ (m : Moment). HasReceived merged placed place e.event.host e.event.cpu m.receive) (sym step.told) (old.at.receives e.event.host e.event.cpu)

      values_now : (k : CpuName) (b : Bool) → same_cpu k (record { host = e.event.host; cpu = e.event.cpu }) ≡ b → IsMoment merged (place + 1) k.host k.cpu (moment_in new k)
      values_now k true is = subst (λ (k : CpuName). IsMoment merged (place + 1) k.host k.cpu (moment_in new k)) (sym (cpu_is k _ is))
          (subst (IsMoment merged (place + 1) e.event.host e.event.cpu) (sym step.here) (moment_here merged place e there before (is_some found) before_values))
      values_now k false is = subst (IsMoment merged (place + 1) k.host k.cpu) (sym (step.elsewhere k is)) (moment_elsewhere merged place e there k.host k.cpu _ (others_test e.event.host e.event.cpu k.host k.cpu is) (old.at.values k.host k.cpu))

      receives_now : (k : CpuName) (b : Bool) → same_cpu k (record { host = e.event.host; cpu = e.event.cpu }) ≡ b → HasReceived merged placed (place + 1) k.host k.cpu ((moment_in new k).receive)
      receives_now k true is = subst (λ (k : CpuName). HasReceived merged placed (place + 1) k.host k.cpu ((moment_in new k).receive)) (sym (cpu_is k _ is))
          (subst (HasReceived merged placed (place + 1) e.event.host e.event.cpu) (sym (ap (λ (m : Moment). m.receive) step.here ∙ (fields before place (is_some found) e.event.kind).3)) (received_here before.receive before_receives))
      receives_now k false is = subst (λ (m : Moment). HasReceived merged placed (place + 1) k.host k.cpu m.receive) (sym (step.elsewhere k is)) (received_elsewhere k.host k.cpu _ is (old.at.receives k.host k.cpu))

      pub passed_more : ArePassed merged placed (place + 1) new (moments ++ before ∷ [])
      passed_more = record {
        at = record {
          values = λ h c. values_now (record { host = h; cpu = c }) _ refl;
          receives = λ h c. receives_now (record { host = h; cpu = c }) _ refl;
        };
        count = length-append moments (before ∷ []) ∙ ap (λ n. n + 1) old.count;
        values = λ p x m at is. ⊎_elim (old.values p x m at)
            (λ last. let same = one_event merged place x e (subst (λ n. slice_get merged n ≡ Some x) (last.0 ∙ old.count) at) there in rw (last.0 ∙ old.count, last.1, same) before_values)
            (pushed moments before m p is);
        receives = λ p x m at is. ⊎_elim (old.receives p x m at)
            (λ last. let same = one_event merged place x e (subst (λ n. slice_get merged n ≡ Some x) (last.0 ∙ old.count) at) there in rw (last.0 ∙ old.count, last.1, same) before_receives)
            (pushed moments before m p is);
      }

  pub all_passed : (cpus : List (CpuName × Moment)) (moments : List Moment) (place : ℕ) → place ≡ length merged → ArePassed merged placed place cpus moments → AreMoments merged placed moments
  all_passed cpus moments place all old = record {
    values = record { count = old.count ∙ all; values = old.values };
    receives = old.receives;
  }
