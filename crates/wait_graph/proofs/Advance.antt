-- One more event: values, states and moments after it.
use Rattle.std.proofs.Common.{◌≡◌, ◌≢◌, ◌∙◌, ℕ, zero, suc, ◌+◌, ◌<◌, Bool, false, List, [], ◌∷◌, Option, None, Some, refl, sym, ap, subst, nat_eq, eq-eqb, ◌&&◌, slice_get, take, arith}
use Rattle.trace_types.specs.declared.event.Merged.{Merged}
use Rattle.trace_types.specs.declared.event.KernelEvent.{KernelEvent}
use Rattle.trace_types.specs.declared.event.KernelEvent.TheVariants.{Switch, Wakeup, WakeupNew, Waking, Fork, Exit, Free, Migrate, IrqIn, IrqOut, SoftIn, SoftOut, Process, CallIn, CallOut, Send, Receive, DiskIssue, DiskDone, Lost, Other}
use Rattle.trace_types.specs.declared.path.Path.TheVariants as path
use Rattle.trace_types.specs.declared.path.CpuLeaf.{CpuLeaf}
use Rattle.trace_types.specs.declared.path.CpuLeaf.TheVariants as cpu_leaf
use Rattle.kernel_provider.specs.Rules.{Values, assignments}
use Rattle.kernel_provider.specs.Replay.{nothing, put_all, replay}
use Rattle.host_merge.specs.declared.placed.Placed.{Placed}
use Rattle.wait_graph.specs.declared.vertex.ThreadState.{ThreadState}
use Rattle.wait_graph.specs.declared.vertex.ThreadState.TheVariants.{Unknown}
use Rattle.wait_graph.specs.declared.moment.Moment.{Moment}
use Rattle.wait_graph.specs.States.{states, state_step, state_after, tid_of, values_before}
use Rattle.wait_graph.specs.Links.{IsOn, IsSoftInOn, IsReceived}
use Rattle.wait_graph.specs.Moments.{value_of, moment_after, receive_after, IsMoment, HasReceived}
use Rattle.wait_graph.proofs.ByKind.{cpu_after, leaf_after, chosen}
use native.Mathlib.Decide.{ℕ_discrete}
use mathlib.Core.Logic.{dite}

add_one : (n : ℕ) → suc n ≡ n + 1
add_one n = omega arith

replay_next : (values : Values) (ms : List Merged) (place : ℕ) (e : Merged) → slice_get ms place ≡ Some e
    → replay values (take (suc place) ms) ≡ put_all (replay values (take place ms)) (assignments (replay values (take place ms)) e.event)
replay_next values [] place e there = absurd (cc)
replay_next values (m ∷ ms) zero e there = let same : m ≡ e = cc in rw same refl
replay_next values (m ∷ ms) (suc place) e there = replay_next (put_all values (assignments values m.event)) ms place e there

states_next : (values : Values) (host tid : ℕ) (old : ThreadState) (ms : List Merged) (place : ℕ) (e : Merged) → slice_get ms place ≡ Some e
    → states values host tid old (take (suc place) ms) ≡ state_step (replay values (take place ms)) host tid (states values host tid old (take place ms)) e.event
states_next values host tid old [] place e there = absurd (cc)
states_next values host tid old (m ∷ ms) zero e there = let same : m ≡ e = cc in rw same refl
states_next values host tid old (m ∷ ms) (suc place) e there = states_next (put_all values (assignments values m.event)) host tid (state_step values host tid old m.event) ms place e there

module _ (merged : List Merged) where
  pub values_next : (place : ℕ) (e : Merged) → slice_get merged place ≡ Some e → values_before merged (place + 1) ≡ put_all (values_before merged place) (assignments (values_before merged place) e.event)
  values_next place e there = ap (λ n. values_before merged n) (sym (add_one place)) ∙ replay_next nothing merged place e there

  pub state_next : (place host tid : ℕ) (e : Merged) → slice_get merged place ≡ Some e → state_after merged host tid (place + 1) ≡ state_step (values_before merged place) host tid (state_after merged host tid place) e.event
  state_next place host tid e there = ap (λ n. state_after merged host tid n) (sym (add_one place)) ∙ states_next nothing host tid Unknown merged place e there

-- ---- moments

module _ (m : Moment) (place : ℕ) (matched : Bool) where
  abbrev fields_after : KernelEvent → Type 0
  fields_after kind = (leaf_after kind cpu_leaf.Thread (value_of m.thread) ≡ value_of (moment_after m kind place matched).thread)
      × (leaf_after kind cpu_leaf.Irq (value_of m.irq) ≡ value_of (moment_after m kind place matched).irq)
      × (leaf_after kind cpu_leaf.Softirq (value_of m.softirq) ≡ value_of (moment_after m kind place matched).softirq)
      × ((moment_after m kind place matched).receive ≡ receive_after m.receive kind place matched)

  pub fields : (kind : KernelEvent) → fields_after kind
  fields (Switch prev_state prev_tid next_tid prev_prio next_prio prev_comm next_comm) = (refl, refl, refl, refl)
  fields (Wakeup tid comm prio target_cpu) = (refl, refl, refl, refl)
  fields (WakeupNew tid comm prio target_cpu) = (refl, refl, refl, refl)
  fields (Waking tid comm prio target_cpu) = (refl, refl, refl, refl)
  fields (Fork parent_tid child_tid child_comm) = (refl, refl, refl, refl)
  fields (Exit tid) = (refl, refl, refl, refl)
  fields (Free tid) = (refl, refl, refl, refl)
  fields (Migrate tid dest_cpu) = (refl, refl, refl, refl)
  fields (IrqIn irq) = (refl, refl, refl, refl)
  fields (IrqOut irq) = (refl, refl, refl, refl)
  fields (SoftIn vec) = (refl, refl, refl, refl)
  fields (SoftOut vec) = (refl, refl, refl, refl)
  fields (Process tid ppid name status) = (refl, refl, refl, refl)
  fields (CallIn name) = (refl, refl, refl, refl)
  fields (CallOut name) = (refl, refl, refl, refl)
  fields (Send key) = (refl, refl, refl, refl)
  fields (Receive key) = (refl, refl, refl, refl)
  fields (DiskIssue sector dev nr_sector) = (refl, refl, refl, refl)
  fields (DiskDone sector dev nr_sector) = (refl, refl, refl, refl)
  fields (Lost events gap) = (refl, refl, refl, refl)
  fields (Other name) = (refl, refl, refl, refl)

module _ (merged : List Merged) (place : ℕ) (e : Merged) (there : slice_get merged place ≡ Some e) where
  leaf_next : (h c : ℕ) (leaf : CpuLeaf) → values_before merged (place + 1) (path.Cpu h c leaf)
      ≡ chosen (nat_eq e.event.host h) (nat_eq e.event.cpu c) (leaf_after e.event.kind leaf (values_before merged place (path.Cpu h c leaf))) (values_before merged place (path.Cpu h c leaf))
  leaf_next h c leaf = ap (λ f. f (path.Cpu h c leaf)) (values_next merged place e there) ∙ cpu_after (values_before merged place) e.event.host e.event.cpu h c leaf e.event.kind

  pub moment_here : (m : Moment) (matched : Bool) → IsMoment merged place e.event.host e.event.cpu m → IsMoment merged (place + 1) e.event.host e.event.cpu (moment_after m e.event.kind place matched)
  moment_here m matched is =
      let f = fields m place matched e.event.kind in
      let h = eq-eqb e.event.host e.event.host refl in
      let c = eq-eqb e.event.cpu e.event.cpu refl in
      record {
        thread = leaf_next e.event.host e.event.cpu cpu_leaf.Thread ∙ rw (h, c, is.thread) f.0;
        irq = leaf_next e.event.host e.event.cpu cpu_leaf.Irq ∙ rw (h, c, is.irq) f.1;
        softirq = leaf_next e.event.host e.event.cpu cpu_leaf.Softirq ∙ rw (h, c, is.softirq) f.2;
      }

  pub moment_elsewhere : (h c : ℕ) (m : Moment) → (nat_eq e.event.host h && nat_eq e.event.cpu c) ≡ false → IsMoment merged place h c m → IsMoment merged (place + 1) h c m
  moment_elsewhere h c m other is = record {
    thread = leaf_next h c cpu_leaf.Thread ∙ rw other is.thread;
    irq = leaf_next h c cpu_leaf.Irq ∙ rw other is.irq;
    softirq = leaf_next h c cpu_leaf.Softirq ∙ rw other is.softirq;
  }

  -- ---- receives
  module _ (placed : List Placed) (h c : ℕ) where
    earlier : (r s : ℕ) → r ≢ place → IsReceived merged placed h c (place + 1) r s → IsReceived merged placed h c place r s
    earlier r s ne is = record {
      number = is.number;
      message = is.message;
      sent_before = is.sent_before;
      before = omega (arith, is.before, ne);
      here = is.here;
      since = λ soft lt on. is.since soft (omega (arith, lt)) on;
    }

    later_too : (r s : ℕ) → ¬ IsSoftInOn merged h c place → IsReceived merged placed h c place r s → IsReceived merged placed h c (place + 1) r s
    later_too r s quiet is = record {
      number = is.number;
      message = is.message;
      sent_before = is.sent_before;
      before = omega (arith, is.before);
      here = is.here;
      since = λ soft lt on. dite (ℕ_discrete soft place) (λ q. absurd (quiet (subst (IsSoftInOn merged h c) q on))) (λ ne. is.since soft (omega (arith, lt, ne)) on);
    }

    -- an event that neither receives a message nor begins a soft interrupt leaves the last one
    pub received_still : (receive : Option ℕ) → ¬ IsSoftInOn merged h c place → ((s : ℕ) → ¬ IsReceived merged placed h c (place + 1) place s) → HasReceived merged placed place h c receive → HasReceived merged placed (place + 1) h c receive
    received_still None soft unmatched has = record {
      some = tt;
      none = λ r s is. dite (ℕ_discrete r place) (λ q. unmatched s (subst (λ x. IsReceived merged placed h c (place + 1) x s) q is)) (λ ne. has.none r s (earlier r s ne is));
    }
    received_still (Some r) soft unmatched has = record {
      some = (
        has.some.0,
        record {
          received = later_too r has.some.0 soft has.some.1.received;
          last = λ later from is. dite (ℕ_discrete later place) (λ q. absurd (unmatched from (subst (λ x. IsReceived merged placed h c (place + 1) x from) q is))) (λ ne. has.some.1.last later from (earlier later from ne is));
        },
      );
      none = tt;
    }

    -- a soft interrupt that begins leaves none
    pub received_none : IsSoftInOn merged h c place → HasReceived merged placed (place + 1) h c None
    received_none soft = record { some = tt; none = λ r s is. let after = is.since place (omega arith) soft in let before = is.before in omega (arith, after, before) }

    -- a matched receive is the last one
    pub received_now : (s number : ℕ) → slice_get placed number ≡ Some (record { send = s; receive = place }) → s < place → IsOn merged h c place → ¬ IsSoftInOn merged h c place → HasReceived merged placed (place + 1) h c (Some place)
    received_now s number message lt on soft = record {
      some = (
        s,
        record {
          received = record { number = number; message = message; sent_before = lt; before = omega arith; here = on; since = λ at below is. dite (ℕ_discrete at place) (λ q. absurd (soft (subst (IsSoftInOn merged h c) q is))) (λ ne. omega (arith, below, ne)) };
          last = λ later from is. let b = is.before in omega (arith, b);
        },
      );
      none = tt;
    }

-- the tid that a number's value tells
pub tid_of_value : (o : Option ℕ) → tid_of (value_of o) ≡ o
tid_of_value None = refl
tid_of_value (Some tid) = refl
