-- The events of messages stand where they are placed.
use Rattle.std.proofs.Common.{◌≡◌, ◌∙◌, ◌<◌, ◌≤◌, ◌⊎◌, inl, inr, ℕ, zero, suc, Some, List, [], ◌∷◌, map, filter, slice_get, slice_index_or, sym, ap, subst, arith}
use Rattle.std.specs.List.{AllPairs}
use Rattle.std.proofs.lemmas.Bool.{cases_lt, eq-eqb}
use Rattle.std.proofs.lemmas.Option.{get_or_from_slice_get, slice_get_within}
use Rattle.trace_types.specs.declared.event.Event.{Event}
use Rattle.trace_types.specs.declared.event.KernelEvent.{KernelEvent}
use Rattle.trace_types.specs.declared.event.KernelEvent.TheVariants.{Receive, Send}
use Rattle.trace_types.specs.declared.event.Merged.{Merged}
use Rattle.trace_types.specs.declared.host.HostEvents.{HostEvents}
use Rattle.trace_types.specs.declared.segment.SegKey.{SegKey}
use Rattle.message_match.specs.declared.message.Message.{Message}
use Rattle.message_match.specs.Messages.{AreMessages, HasEvent, IsEarlier, IsMessage, Precedes}
use Rattle.host_tree.proofs.Gets.{within}
use Rattle.host_merge.specs.declared.placed.Placed.{Placed}
use Rattle.host_merge.specs.Kept.{KeepsOrder}
use Rattle.host_merge.specs.Placed.{ArePlaced, IsAt, is_of}
use Rattle.host_merge.proofs.Spots.{at_filter}
use Rattle.wait_graph.specs.Graph.{AreMessagePlaces, HasKindAt, IsReceive, IsSend}

mapped : {X Y : Type 0} (f : X → Y) (xs : List X) (k : ℕ) (x : X) → slice_get xs k ≡ Some x → slice_get (map f xs) k ≡ Some (f x)
mapped f [] k x e = absurd (cc)
mapped f (z ∷ xs) zero x e = let same : z ≡ x = cc in ap (λ w. Some (f w)) same
mapped f (z ∷ xs) (suc k) x e = mapped f xs k x e

paired : {X : Type 0} (R : X → X → Type 0) (xs : List X) → AllPairs R xs → (i j : ℕ) (x y : X) → i < j → slice_get xs i ≡ Some x → slice_get xs j ≡ Some y → R x y
paired R xs all i j x y lt at there =
    let a : slice_index_or xs i x ≡ x = index_is xs i x x at in
    let b : slice_index_or xs j x ≡ y = index_is xs j y x there in
    subst (λ z. R z y) a (subst (R (slice_index_or xs i x)) b (all i j x lt (slice_get_within xs j y there)))
  where
    index_is : {X : Type 0} (xs : List X) (k : ℕ) (x d : X) → slice_get xs k ≡ Some x → slice_index_or xs k d ≡ x
    index_is [] k x d e = absurd (cc)
    index_is (z ∷ xs) zero x d e = let same : z ≡ x = cc in same
    index_is (z ∷ xs) (suc k) x d e = index_is xs k x d e

not_before_itself : (host place : ℕ) → IsEarlier host place host place → ⊥
not_before_itself host place (inl lt) = omega (arith, lt)
not_before_itself host place (inr (same, lt)) = omega (arith, lt)

key_of : KernelEvent → SegKey → SegKey
key_of (Receive key) other = key
key_of kind other = other

module _ (hosts : List HostEvents) (matched : List Message) (ambiguous : ℕ) (merged : List Merged) (placed : List Placed) (are : AreMessages hosts matched ambiguous) (keeps : KeepsOrder hosts merged) (places : ArePlaced merged matched placed) where
  of_message : (k : ℕ) (m : Message) → slice_get matched k ≡ Some m → (key : SegKey) × IsMessage hosts key m
  of_message k m e = (are.members m).0 (k, slice_get_within matched k m e, get_or_from_slice_get matched k m m e)

  -- the event at the place of a host's event is that event
  kind_at : (kind : KernelEvent) (host number place time : ℕ) → HasEvent hosts kind host number time → IsAt merged host number place → HasKindAt merged (λ k. k ≡ kind) place
  kind_at kind host number place time has at =
      let here = mapped (λ (m : Merged). m.event) (filter (is_of host) merged) number at.event (at_filter (is_of host) merged place number at.event at.there (eq-eqb at.event.event.host host at.of_host) at.before) in
      let listed : slice_get has.list.events.items number ≡ Some at.event.event = ap (λ (l : List Event). slice_get l number) (sym (keeps.kept host has.list has.of_host)) ∙ here in
      let there = has.at in
      let same : at.event.event ≡ has.event = cc in
      record { event = at.event; there = at.there; is_kind = ap (λ (e : Event). e.kind) same ∙ has.is_kind }

  message_at : (k : ℕ) (p : Placed) → slice_get placed k ≡ Some p → (m : Message) × (slice_get matched k ≡ Some m)
  message_at k p e = within matched k (let lt = slice_get_within placed k p e in omega (arith, lt, places.count))

  sent : (k : ℕ) (p : Placed) → slice_get placed k ≡ Some p → HasKindAt merged IsSend p.send
  sent k p e =
      let m = message_at k p e in
      let is = of_message k m.0 m.1 in
      let at = kind_at (Send is.0) m.0.from m.0.send p.send m.0.sent is.1.sent.here (places.each k m.0 p m.1 e).0 in
      record { event = at.event; there = at.there; is_kind = (is.0, at.is_kind) }

  received : (k : ℕ) (p : Placed) → slice_get placed k ≡ Some p → HasKindAt merged IsReceive p.receive
  received k p e =
      let m = message_at k p e in
      let is = of_message k m.0 m.1 in
      let at = kind_at (Receive is.0) m.0.to m.0.receive p.receive m.0.received is.1.received.here (places.each k m.0 p m.1 e).1 in
      record { event = at.event; there = at.there; is_kind = (is.0, at.is_kind) }

  one_key : (place : ℕ) (a b : SegKey) → HasKindAt merged (λ k. k ≡ Receive a) place → HasKindAt merged (λ k. k ≡ Receive b) place → a ≡ b
  unfolding key_of
  one_key place a b h g =
      let at = h.there in
      let there = g.there in
      let same : h.event ≡ g.event = cc in
      let kinds : Receive a ≡ Receive b = sym h.is_kind ∙ (ap (λ (m : Merged). m.event.kind) same ∙ g.is_kind) in
      ap (λ k. key_of k a) kinds

  -- a key has one send
  one_send : (key : SegKey) (m n : Message) → IsMessage hosts key m → IsMessage hosts key n → (m.from ≡ n.from) × (m.send ≡ n.send)
  one_send key m n h g =
      let from : m.from ≡ n.from = g.sent.alone m.from m.send m.sent h.sent.here in
      let low : m.send ≤ n.send = h.sent.first n.send n.sent (subst (λ u. HasEvent hosts (Send key) u n.send n.sent) (sym from) g.sent.here) in
      let high : n.send ≤ m.send = g.sent.first m.send m.sent (subst (λ u. HasEvent hosts (Send key) u m.send m.sent) from h.sent.here) in
      (from, omega (arith, low, high))

  never : (j k : ℕ) (p q : Placed) → j < k → slice_get placed j ≡ Some p → slice_get placed k ≡ Some q → p.receive ≡ q.receive → ⊥
  never j k p q lt e f same =
      let m = message_at j p e in
      let n = message_at k q f in
      let is = of_message j m.0 m.1 in
      let are_too = of_message k n.0 n.1 in
      let at = kind_at (Receive is.0) m.0.to m.0.receive p.receive m.0.received is.1.received.here (places.each j m.0 p m.1 e).1 in
      let there = kind_at (Receive are_too.0) n.0.to n.0.receive q.receive n.0.received are_too.1.received.here (places.each k n.0 q n.1 f).1 in
      let key : is.0 ≡ are_too.0 = one_key q.receive is.0 are_too.0 (subst (HasKindAt merged (λ x. x ≡ Receive is.0)) same at) there in
      let send = one_send are_too.0 m.0 n.0 (subst (λ x. IsMessage hosts x m.0) key is.1) are_too.1 in
      let before : Precedes m.0 n.0 = paired Precedes matched are.order j k m.0 n.0 lt m.1 n.1 in
      not_before_itself n.0.from n.0.send (subst (λ x. IsEarlier n.0.from x n.0.from n.0.send) send.1 (subst (λ u. IsEarlier u m.0.send n.0.from n.0.send) send.0 before))

  pub at_events : AreMessagePlaces merged placed
  at_events = record {
    sends = sent;
    receives = received;
    once = λ j k p q e f same. by j k p q e f same (cases_lt j k) (cases_lt k j);
  }
    where
      by : (j k : ℕ) (p q : Placed) → slice_get placed j ≡ Some p → slice_get placed k ≡ Some q → p.receive ≡ q.receive → ((j < k) ⊎ (k ≤ j)) → ((k < j) ⊎ (j ≤ k)) → j ≡ k
      by j k p q e f same (inl less) other = absurd (never j k p q less e f same)
      by j k p q e f same (inr low) (inl less) = absurd (never k j q p less f e (sym same))
      by j k p q e f same (inr low) (inr high) = omega (arith, low, high)
