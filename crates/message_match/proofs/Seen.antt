-- The events of hosts in the order of hosts and places, one after the other.
use Rattle.std.proofs.Common.{◌≡◌, ◌≢◌, ◌∙◌, ◌⊎◌, ◌<◌, ◌≤◌, ◌+◌, inl, inr, ⊎_elim, ℕ, List, Some, length, slice_get, refl, sym, ap, subst, arith}
use Rattle.std.proofs.lemmas.Option.{slice_get_within}
use Rattle.std.proofs.lemmas.Bool.{cases_lt}
use Rattle.trace_types.specs.declared.event.KernelEvent.{KernelEvent}
use Rattle.trace_types.specs.declared.host.HostEvents.{HostEvents}
use Rattle.trace_types.specs.declared.segment.SegKey.{SegKey}
use Rattle.message_match.specs.Messages.{HasEvent, IsEarlier}
use Rattle.message_match.specs.Standings.{so_far, no_events}
use Rattle.message_match.proofs.OneMore.{IsSame, HasOneMore}
use Rattle.message_match.proofs.Outcome.{one_event, one_time}

-- an earlier place, or this one
earlier_or_here : (h p host place : ℕ) → IsEarlier h p host (place + 1) → IsEarlier h p host place ⊎ ((h ≡ host) × (p ≡ place))
earlier_or_here h p host place (inl lt) = inl (inl lt)
earlier_or_here h p host place (inr w) = ⊎_elim (λ lt. inl (inr (w.0, lt))) (λ le. inr (w.0, omega (arith, w.1))) (cases_lt p place)

earlier_more : (h p host place : ℕ) → IsEarlier h p host place → IsEarlier h p host (place + 1)
earlier_more h p host place (inl lt) = inl lt
earlier_more h p host place (inr w) = inr (w.0, omega (arith, w.1))

module _ (hosts : List HostEvents) (host place : ℕ) where
  -- this event is of another kind
  pub other_kind : (kind : KernelEvent) → ((t : ℕ) → ¬ HasEvent hosts kind host place t) → IsSame (so_far host place (HasEvent hosts kind)) (so_far host (place + 1) (HasEvent hosts kind))
  other_kind kind none = record {
    to = λ h p t q. (q.0, earlier_more h p host place q.1);
    back = λ h p t q. ⊎_elim (λ w. (q.0, w)) (λ w. absurd (none t (subst (λ x. HasEvent hosts kind host x t) w.1 (subst (λ x. HasEvent hosts kind x p t) w.0 q.0)))) (earlier_or_here h p host place q.1);
  }

  -- this event is of the kind
  pub this_kind : (kind : KernelEvent) (time : ℕ) → HasEvent hosts kind host place time → HasOneMore (so_far host place (HasEvent hosts kind)) (so_far host (place + 1) (HasEvent hosts kind)) host place time
  this_kind kind time has = record {
    to = λ h p t q. (q.0, earlier_more h p host place q.1);
    new = (has, inr (refl, omega arith));
    back = λ h p t q. ⊎_elim (λ w. inl (q.0, w)) (λ w. inr (w.0, w.1, one_time hosts kind host place t time (subst (λ x. HasEvent hosts kind host x t) w.1 (subst (λ x. HasEvent hosts kind x p t) w.0 q.0)) has)) (earlier_or_here h p host place q.1);
    behind = λ h p t q. q.1;
  }

  one_kind : (kind kind' : KernelEvent) (t t' : ℕ) → HasEvent hosts kind host place t → HasEvent hosts kind' host place t' → kind ≡ kind'
  one_kind kind kind' t t' a b = let e = one_event hosts host place a.list b.list a.event b.event a.of_host b.of_host a.at b.at in sym a.is_kind ∙ (ap (λ x. x.kind) e ∙ b.is_kind)

  -- an event of one kind is of no other
  pub not_other : (kind kind' : KernelEvent) (time : ℕ) → HasEvent hosts kind host place time → kind ≢ kind' → (t : ℕ) → ¬ HasEvent hosts kind' host place t
  not_other kind kind' time has ne t q = ne (one_kind kind kind' time t has q)

-- before the first place there is no event
pub at_start : (hosts : List HostEvents) (kind : KernelEvent) (key : SegKey) → IsSame (no_events key) (so_far 0 0 (HasEvent hosts kind))
at_start hosts kind key = record { to = λ h p t q. absurd q; back = λ h p t q. ⊎_elim (λ lt. omega arith) (λ w. omega (arith, w.1)) q.1 }

-- after a host's last event comes the next host
pub next_host : (hosts : List HostEvents) (kind : KernelEvent) (host : ℕ) (list : HostEvents) → slice_get hosts host ≡ Some list → IsSame (so_far host (length list.events.items) (HasEvent hosts kind)) (so_far (host + 1) 0 (HasEvent hosts kind))
next_host hosts kind host list of_host = record { to = λ h p t q. (q.0, forth h p q.1); back = λ h p t q. (q.0, ⊎_elim (λ lt. within h p t q.0 lt) (λ w. absurd (omega (arith, w.1))) q.1) }
  where
    forth : (h p : ℕ) → IsEarlier h p host (length list.events.items) → IsEarlier h p (host + 1) 0
    forth h p (inl lt) = inl (omega arith)
    forth h p (inr w) = inl (omega (arith, w.0))

    within : (h p t : ℕ) → HasEvent hosts kind h p t → h < host + 1 → IsEarlier h p host (length list.events.items)
    within h p t q lt = ⊎_elim (λ below. inl below) (λ le.
        let e : h ≡ host = omega arith in
        let there : slice_get hosts h ≡ Some list = subst (λ x. slice_get hosts x ≡ Some list) (sym e) of_host in
        let same : q.list ≡ list = cc (q.of_host, there) in
        inr (e, slice_get_within list.events.items p q.event (subst (λ l. slice_get l.events.items p ≡ Some q.event) same q.at))) (cases_lt h host)

-- after the last host there is none
pub at_end : (hosts : List HostEvents) (kind : KernelEvent) (host : ℕ) → length hosts ≤ host → IsSame (so_far host 0 (HasEvent hosts kind)) (HasEvent hosts kind)
at_end hosts kind host le = record { to = λ h p t q. q.0; back = λ h p t q. (q, let lt = slice_get_within hosts h q.list q.of_host in inl (omega (arith, lt))) }
