-- What ended a wait, from what is known of each place.
use Rattle.std.proofs.Common.{◌≡◌, ◌∙◌, inl, inr, ℕ, ◌<◌, true, false, List, Option, None, Some, IfSome, length, slice_get, refl, sym, ap, subst, ne_eqb, eq-eqb, arith}
use Rattle.std.proofs.lemmas.Option.{slice_get_within}
use Rattle.trace_types.specs.declared.event.Merged.{Merged}
use Rattle.host_merge.specs.declared.placed.Placed.{Placed}
use Rattle.host_tree.proofs.Gets.{within}
use Rattle.wait_graph.specs.declared.moment.Moment.{Moment}
use Rattle.wait_graph.specs.declared.vertex.Link.{Link}
use Rattle.wait_graph.specs.declared.vertex.Link.TheVariants.{Interrupt, Nobody}
use Rattle.wait_graph.specs.States.{tid_of, tid_on, values_before}
use Rattle.wait_graph.specs.Links.{IsLastReceived, IsNet, IsNetLink, IsWakeLink, IsLinkAt, wakes}
use Rattle.wait_graph.specs.Moments.{value_of, HasReceived}
use Rattle.wait_graph.specs.Places.{sender_link, ArePlaces}
use Rattle.wait_graph.proofs.Advance.{tid_of_value}
use native.Mathlib.Decide.{ℕ_discrete}
use mathlib.Core.Logic.{dite}

one_send : (sends : List (Option ℕ)) (r s t : ℕ) → slice_get sends r ≡ Some (Some s) → slice_get sends r ≡ Some (Some t) → s ≡ t
one_send sends r s t g h = cc

no_send : (sends : List (Option ℕ)) (r s : ℕ) → slice_get sends r ≡ Some (Some s) → slice_get sends r ≡ Some None → ⊥
no_send sends r s g h = cc

one_moment : (ms : List Moment) (i : ℕ) (x y : Moment) → slice_get ms i ≡ Some x → slice_get ms i ≡ Some y → x ≡ y
one_moment ms i x y e f = cc

pub one_event : (ms : List Merged) (i : ℕ) (x y : Merged) → slice_get ms i ≡ Some x → slice_get ms i ≡ Some y → x ≡ y
one_event ms i x y e f = cc

none_is_none : {X : Type 0} (o : Option X) (t : X) → o ≡ None → o ≡ Some t → ⊥
none_is_none o t e f = cc

one_value : (o : Option ℕ) (t u : ℕ) → o ≡ Some t → o ≡ Some u → t ≡ u
one_value o t u e f = cc

module _ (merged : List Merged) (placed : List Placed) (moments : List Moment) (sends : List (Option ℕ)) (are : ArePlaces merged placed moments sends) where
  pub send_within : (r s : ℕ) → slice_get sends r ≡ Some (Some s) → s < length merged
  send_within r s at =
      let lt = (are.sends_are.some r s at).0 in
      let w = slice_get_within sends r (Some s) at in
      let n = are.sends_are.count in
      omega (arith, lt, w, n)

  pub runs_at : (p : ℕ) (e : Merged) (m : Moment) → slice_get merged p ≡ Some e → slice_get moments p ≡ Some m → tid_on (values_before merged p) e.event.host e.event.cpu ≡ m.thread
  runs_at p e m there at = ap tid_of (are.moments_are.values.values p e m there at).thread ∙ tid_of_value m.thread

  pub received_within : (end : ℕ) (m : Moment) → slice_get moments end ≡ Some m → IfSome m.receive (λ r. r < length sends)
  received_within end m at =
      let w = slice_get_within moments end m at in
      let n = are.moments_are.values.count in
      let e = within merged end (omega (arith, w, n)) in
      by e.0 e.1 m.receive (are.moments_are.receives end e.0 m e.1 at)
    where
      by : (e : Merged) → slice_get merged end ≡ Some e → (o : Option ℕ) → HasReceived merged placed end e.event.host e.event.cpu o → IfSome o (λ r. r < length sends)
      by e there None has = tt
      by e there (Some r) has =
          let is = has.some.1.received in
          slice_get_within sends r _ (are.sends_are.all is.number r has.some.0 is.message is.sent_before)

  module _ (host cpu end : ℕ) where
    pub not_received : HasReceived merged placed end host cpu None → IsNetLink merged placed host cpu end Interrupt
    not_received has = inr ((λ from tid send is. has.none is.receive send is.last.received), refl)

    pub not_sent : (r : ℕ) → HasReceived merged placed end host cpu (Some r) → slice_get sends r ≡ Some None → ⊥
    not_sent r has at = let is = has.some.1.received in no_send sends r has.some.0 (are.sends_are.all is.number r has.some.0 is.message is.sent_before) at

    module _ (r s : ℕ) (has : HasReceived merged placed end host cpu (Some r)) (at : slice_get sends r ≡ Some (Some s)) (m : Moment) (at_send : slice_get moments s ≡ Some m) (e : Merged) (there : slice_get merged s ≡ Some e) where
      last : IsLastReceived merged placed host cpu end r s
      last = let is = has.some.1.received in
          subst (λ n. IsLastReceived merged placed host cpu end r n) (one_send sends r has.some.0 s (are.sends_are.all is.number r has.some.0 is.message is.sent_before) at) has.some.1

      -- whoever sent it ran there
      only : (from tid send : ℕ) → IsNet merged placed host cpu end from tid send → m.thread ≡ Some tid
      only from tid send is =
          let before = last.last is.receive send is.last.received in
          let after = is.last.last r s last.received in
          let same : is.receive ≡ r = omega (arith, before, after) in
          let its = are.sends_are.all is.last.received.number is.receive send is.last.received.message is.last.received.sent_before in
          let sent : send ≡ s = one_send sends r send s (subst (λ n. slice_get sends n ≡ Some (Some send)) same its) at in
          let x = one_event merged s is.sender.event e (subst (λ n. slice_get merged n ≡ Some is.sender.event) sent is.sender.there) there in
          let runs = subst (λ n. tid_on (values_before merged n) from is.sender.event.event.cpu ≡ Some tid) sent is.sender.runs in
          let runs' = subst (λ h. tid_on (values_before merged s) h is.sender.event.event.cpu ≡ Some tid) (sym is.sender.of_host) runs in
          sym (runs_at s e m there at_send) ∙ subst (λ (y : Merged). tid_on (values_before merged s) y.event.host y.event.cpu ≡ Some tid) x runs'

      pub net_of : IsNetLink merged placed host cpu end (sender_link m.thread e.event.host s)
      net_of = by m.thread refl
        where
          by : (o : Option ℕ) → m.thread ≡ o → IsNetLink merged placed host cpu end (sender_link o e.event.host s)
          by None q = inr ((λ from tid send is. none_is_none m.thread tid q (only from tid send is)), refl)
          by (Some tid) q = dite (ℕ_discrete tid 0)
              (λ z. rw (eq-eqb tid 0 z) (inr (
                (λ from other send is.
                    let t = one_value m.thread tid other q (only from other send is) in is.sender.not_idle (sym t ∙ z)),
                refl,
              )))
              (λ nz. rw (ne_eqb tid 0 nz) (inl (
                e.event.host,
                tid,
                s,
                record {
                  receive = r;
                  last = last;
                  sender = record { event = e; there = there; of_host = refl; runs = runs_at s e m there at_send ∙ q; not_idle = nz };
                },
                refl,
              )))

  -- from what the processor did
  pub link_of : (tid end : ℕ) (e : Merged) (m : Moment) (l : Link) → slice_get merged end ≡ Some e → slice_get moments end ≡ Some m
      → (wakes tid e.event.kind ≡ true → HasReceived merged placed end e.event.host e.event.cpu m.receive → IsWakeLink merged placed e.event.host tid e.event.cpu end (value_of m.irq) (value_of m.softirq) m.thread l)
      → (wakes tid e.event.kind ≡ false → l ≡ Nobody) → IsLinkAt merged placed e.event.host tid end l
  link_of tid end e m l there at woken alone = record {
    event = e;
    there = there;
    woken = λ w. let is = are.moments_are.values.values end e m there at in
        rw (is.irq, is.softirq, runs_at end e m there at) (woken w (are.moments_are.receives end e m there at));
    alone = alone;
  }
