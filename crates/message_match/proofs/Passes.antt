-- What a pass over the events makes of the table, event by event.
use Rattle.std.proofs.Common.{◌≡◌, ◌≢◌, ◌∙◌, ◌⊎◌, ◌≤◌, ◌+◌, inl, inr, ⊎_elim, ℕ, Bool, true, false, List, [], ◌∷◌, ◌++◌, Some, length, slice_get, refl, sym, subst, ◌==◌, if◌then◌else◌}
use Rattle.std.specs.Map.{keys_of}
use Rattle.trace_types.specs.declared.event.Event.{Event}
use Rattle.trace_types.specs.declared.event.KernelEvent.{KernelEvent}
use Rattle.trace_types.specs.declared.event.KernelEvent.TheVariants.{Send, Receive}
use Rattle.trace_types.specs.declared.host.HostEvents.{HostEvents}
use Rattle.trace_types.specs.declared.segment.SegKey.{SegKey}
use Rattle.message_match.specs.declared.standing.Placed.{Placed}
use Rattle.message_match.specs.declared.standing.Standing.{Standing}
use Rattle.message_match.specs.declared.standing.Standing.TheVariants.{Sent, SentBySeveral, Matched, Ambiguous}
use Rattle.message_match.specs.Messages.{HasEvent, IsEarlier}
use Rattle.message_match.specs.Standings.{same_key, sent_again, received, changed, with_send, with_receive, so_far, sends, receives, no_events, AllFirst, AllTell, AreApart, AreNone, IfFirst, IsAmong, Notes, Tells}
use Rattle.message_match.proofs.Changes.{Table, KeepsFirst, among_before, among_last, among_or_not, apart_one_more, key_apart, key_is, keys-changed, keys_one_more, order-changed, order_one_more, send-absent, send-present}
use Rattle.message_match.proofs.OneMore.{HasOneMore, IsSame, first_new, is_itself, tells-received, tells-same, tells-sent_again}
use Rattle.message_match.proofs.SoFar.{ReceivedSoFar, SentSoFar}
use Rattle.message_match.proofs.Seen.{at_end, at_start, next_host, not_other, other_kind, this_kind}

cases_key : (key k : SegKey) → (k ≡ key) ⊎ (k ≢ key)
cases_key key k = by (same_key key k) refl
  where
    by : (b : Bool) → same_key key k ≡ b → (k ≡ key) ⊎ (k ≢ key)
    by true e = inl (sym (key_is key k e))
    by false e = inr (key_apart key k e)

sent_again-keeps : (s : Placed) → KeepsFirst (λ x. sent_again x s)
sent_again-keeps s (Sent f) P p = by (f.host == s.host)
  where
    by : (b : Bool) → IfFirst (if b then Sent f else SentBySeveral) P
    by true = p
    by false = tt
sent_again-keeps s SentBySeveral P p = tt
sent_again-keeps s (Matched m) P p = p
sent_again-keeps s Ambiguous P p = tt

received-keeps : (r : Placed) → KeepsFirst (λ x. received x r)
received-keeps r (Sent f) P p = by (f.host == r.host)
  where
    by : (b : Bool) → IfFirst (if b then Ambiguous else Matched (record { sent = f.time; received = r.time; from = f.host; send = f.place; to = r.host; receive = r.place })) P
    by true = tt
    by false = p
received-keeps r SentBySeveral P p = tt
received-keeps r (Matched m) P p = by (m.to == r.host)
  where
    by : (b : Bool) → IfFirst (if b then Matched m else Ambiguous) P
    by true = p
    by false = tt
received-keeps r Ambiguous P p = tt

module _ (S S' R R' : SegKey → ℕ → ℕ → ℕ → Type 0) where
  all_same : ((k : SegKey) → IsSame (S k) (S' k)) → ((k : SegKey) → IsSame (R k) (R' k)) → (es : Table) → AllTell S R es → AllTell S' R' es
  all_same s r [] a = tt
  all_same s r (e ∷ es) a = (tells-same (S e.0) (S' e.0) (R e.0) (R' e.0) (s e.0) (r e.0) e.1 a.0, all_same s r es a.1)

  -- the same events of each key
  pub notes-same : ((k : SegKey) → IsSame (S k) (S' k)) → ((k : SegKey) → IsSame (R k) (R' k)) → (es : Table) → Notes S R es → Notes S' R' es
  notes-same s r es n = record { tells = all_same s r es n.tells; known = λ k h p t q. n.known k h p t ((s k).back h p t q); apart = n.apart; order = n.order }

  module _ (key : SegKey) (s : (k : SegKey) → k ≢ key → IsSame (S k) (S' k)) (r : (k : SegKey) → k ≢ key → IsSame (R k) (R' k)) where
    all_others : (es : Table) → (¬ IsAmong (keys_of es) key) → AllTell S R es → AllTell S' R' es
    all_others [] n a = tt
    all_others (e ∷ es) n a =
        (tells-same (S e.0) (S' e.0) (R e.0) (R' e.0) (s e.0 (λ w. n (inl w))) (r e.0 (λ w. n (inl w))) e.1 a.0, all_others es (λ h. n (inr h)) a.1)

    all_changed : (next : Standing → Standing) → ((x : Standing) → Tells (S key) (R key) x → Tells (S' key) (R' key) (next x)) → (es : Table) → AreApart (keys_of es) → AllTell S R es → AllTell S' R' (changed next es key)
    all_changed next step [] n a = tt
    all_changed next step (e ∷ es) n a = by (same_key key e.0) refl (all_changed next step es n.1 a.1)
      where
        by : (b : Bool) → same_key key e.0 ≡ b → AllTell S' R' (changed next es key) → AllTell S' R' (if b then (e.0, next e.1) ∷ es else e ∷ changed next es key)
        by true is rest =
            let same : key ≡ e.0 = key_is key e.0 is in (
              subst (λ k. Tells (S' k) (R' k) (next e.1)) same (step e.1 (subst (λ k. Tells (S k) (R k) e.1) (sym same) a.0)),
              all_others es (subst (λ k. ¬ IsAmong (keys_of es) k) (sym same) n.0) a.1,
            )
        by false is rest =
            let ne : e.0 ≢ key = key_apart key e.0 is in
            (tells-same (S e.0) (S' e.0) (R e.0) (R' e.0) (s e.0 ne) (r e.0 ne) e.1 a.0, rest)

    all_one_more : (x : Standing) → Tells (S' key) (R' key) x → (es : Table) → (¬ IsAmong (keys_of es) key) → AllTell S R es → AllTell S' R' (es ++ (key, x) ∷ [])
    all_one_more x new [] n a = (new, tt)
    all_one_more x new (e ∷ es) n a =
        (tells-same (S e.0) (S' e.0) (R e.0) (R' e.0) (s e.0 (λ w. n (inl w))) (r e.0 (λ w. n (inl w))) e.1 a.0, all_one_more x new es (λ h. n (inr h)) a.1)

-- the first sends that the table tells of
all_first : (S R : SegKey → ℕ → ℕ → ℕ → Type 0) (P : ℕ → ℕ → Type 0) → ((k : SegKey) (h p t : ℕ) → S k h p t → P h p) → (es : Table) → AllTell S R es → AllFirst P es
all_first S R P holds [] a = tt
all_first S R P holds (e ∷ es) a = (at e.1 a.0, all_first S R P holds es a.1)
  where
    at : (x : Standing) → Tells (S e.0) (R e.0) x → IfFirst x P
    at (Sent f) w = holds e.0 _ _ _ w.0.here
    at SentBySeveral w = tt
    at (Matched m) w = holds e.0 _ _ _ w.sent.here
    at Ambiguous w = tt

-- ---- one more send
module _ (S S' R : SegKey → ℕ → ℕ → ℕ → Type 0) (key : SegKey) (s : Placed) (others : (k : SegKey) → k ≢ key → IsSame (S k) (S' k)) (more : HasOneMore (S key) (S' key) s.host s.place s.time)
    (behind : (k : SegKey) (h p t : ℕ) → S k h p t → IsEarlier h p s.host s.place) (none : (k : SegKey) → AreNone (R k)) (es : Table) (n : Notes S R es) where
  -- of a key that is there
  send_again : IsAmong (keys_of es) key → Notes S' R (changed (λ x. sent_again x s) es key)
  send_again there =
      let keys = keys-changed (λ x. sent_again x s) es key in record {
        tells = all_changed S S' R R key others (λ k ne. is_itself (R k)) (λ x. sent_again x s) (tells-sent_again (S key) (S' key) (R key) s more (none key)) es n.apart n.tells;
        known = λ k h p t q. subst (λ l. IsAmong l k) (sym keys) (⊎_elim (λ e. subst (IsAmong (keys_of es)) (sym e) there) (λ ne. n.known k h p t ((others k ne).back h p t q)) (cases_key key k));
        apart = subst AreApart (sym keys) n.apart;
        order = order-changed (λ x. sent_again x s) (sent_again-keeps s) es key n.order;
      }

  -- of a new one
  send_first : (¬ IsAmong (keys_of es) key) → Notes S' R (es ++ (key, Sent s) ∷ [])
  send_first absent =
      let keys = keys_one_more es key (Sent s) in
      let new = first_new (S key) (S' key) s.host s.place s.time more (λ h p t q. absent (n.known key h p t q)) in record {
        tells = all_one_more S S' R R key others (λ k ne. is_itself (R k)) (Sent s) (new, none key) es absent n.tells;
        known = λ k h p t q. subst (λ l. IsAmong l k) (sym keys) (⊎_elim (λ e. subst (IsAmong (keys_of es ++ key ∷ [])) (sym e) (among_last (keys_of es) key)) (λ ne. among_before (keys_of es) key k (n.known k h p t ((others k ne).back h p t q))) (cases_key key k));
        apart = subst AreApart (sym keys) (apart_one_more (keys_of es) key n.apart absent);
        order = order_one_more es key s n.order (all_first S R (λ h p. IsEarlier h p s.host s.place) behind es n.tells);
      }

  pub notes-send : Notes S' R (with_send es key s)
  notes-send = ⊎_elim (λ there. subst (Notes S' R) (sym (send-present es key s there)) (send_again there)) (λ absent. subst (Notes S' R) (sym (send-absent es key s absent)) (send_first absent)) (among_or_not (keys_of es) key)

-- ---- one more receive
pub notes-receive : (S R R' : SegKey → ℕ → ℕ → ℕ → Type 0) (key : SegKey) (r : Placed) → ((k : SegKey) → k ≢ key → IsSame (R k) (R' k)) → HasOneMore (R key) (R' key) r.host r.place r.time
    → (es : Table) → Notes S R es → Notes S R' (with_receive es key r)
notes-receive S R R' key r others more es n =
    let keys = keys-changed (λ x. received x r) es key in record {
      tells = all_changed S S R R' key (λ k ne. is_itself (S k)) others (λ x. received x r) (tells-received (S key) (R key) (R' key) r more) es n.apart n.tells;
      known = λ k h p t q. subst (λ l. IsAmong l k) (sym keys) (n.known k h p t q);
      apart = subst AreApart (sym keys) n.apart;
      order = order-changed (λ x. received x r) (received-keeps r) es key n.order;
    }

-- ---- the passes
no_event_same : (k : SegKey) → IsSame (no_events k) (no_events k)
no_event_same k = is_itself (no_events k)

pub sent_at_start : (hosts : List HostEvents) (es : Table) → es ≡ [] → SentSoFar hosts 0 0 es
sent_at_start hosts es e = subst (SentSoFar hosts 0 0) (sym e) (notes-same no_events (λ key. so_far 0 0 (sends hosts key)) no_events no_events (λ k. at_start hosts (Send k) k) no_event_same [] (record { tells = tt; known = λ k h p t q. absurd q; apart = tt; order = tt }))

pub received_at_start : (hosts : List HostEvents) (es : Table) → Notes (sends hosts) no_events es → ReceivedSoFar hosts 0 0 es
received_at_start hosts es n = notes-same (sends hosts) (sends hosts) no_events (λ key. so_far 0 0 (receives hosts key)) (λ k. is_itself (sends hosts k)) (λ k. at_start hosts (Receive k) k) es n

pub sent_at_end : (hosts : List HostEvents) (host : ℕ) (es : Table) → length hosts ≤ host → SentSoFar hosts host 0 es → Notes (sends hosts) no_events es
sent_at_end hosts host es le n = notes-same (λ key. so_far host 0 (sends hosts key)) (sends hosts) no_events no_events (λ k. at_end hosts (Send k) host le) no_event_same es n

pub received_at_end : (hosts : List HostEvents) (host : ℕ) (es : Table) → length hosts ≤ host → ReceivedSoFar hosts host 0 es → Notes (sends hosts) (receives hosts) es
received_at_end hosts host es le n = notes-same (sends hosts) (sends hosts) (λ key. so_far host 0 (receives hosts key)) (receives hosts) (λ k. is_itself (sends hosts k)) (λ k. at_end hosts (Receive k) host le) es n

module _ (hosts : List HostEvents) (host : ℕ) (list : HostEvents) (of_host : slice_get hosts host ≡ Some list) where
  pub sent_next_host : (place : ℕ) (es : Table) → place ≡ length list.events.items → SentSoFar hosts host place es → SentSoFar hosts (host + 1) 0 es
  sent_next_host place es e n = notes-same (λ key. so_far host (length list.events.items) (sends hosts key)) (λ key. so_far (host + 1) 0 (sends hosts key)) no_events no_events (λ k. next_host hosts (Send k) host list of_host) no_event_same es (subst (λ p. SentSoFar hosts host p es) e n)

  pub received_next_host : (place : ℕ) (es : Table) → place ≡ length list.events.items → ReceivedSoFar hosts host place es → ReceivedSoFar hosts (host + 1) 0 es
  received_next_host place es e n = notes-same (sends hosts) (sends hosts) (λ key. so_far host (length list.events.items) (receives hosts key)) (λ key. so_far (host + 1) 0 (receives hosts key)) (λ k. is_itself (sends hosts k)) (λ k. next_host hosts (Receive k) host list of_host) es (subst (λ p. ReceivedSoFar hosts host p es) e n)

  module _ (place : ℕ) (event : Event) (at : slice_get list.events.items place ≡ Some event) (es : Table) where
    has : (kind : KernelEvent) → event.kind ≡ kind → HasEvent hosts kind host place event.time
    has kind e = record { list = list; event = event; of_host = of_host; at = at; is_kind = e; is_time = refl }

    -- an event of another kind changes nothing
    no_more : (kind : KernelEvent) → event.kind ≢ kind → IsSame (so_far host place (HasEvent hosts kind)) (so_far host (place + 1) (HasEvent hosts kind))
    no_more kind ne = other_kind hosts host place kind (not_other hosts host place event.kind kind event.time (has event.kind refl) ne)

    pub sent_other : ((k : SegKey) → event.kind ≢ Send k) → SentSoFar hosts host place es → SentSoFar hosts host (place + 1) es
    sent_other ne n = notes-same (λ key. so_far host place (sends hosts key)) (λ key. so_far host (place + 1) (sends hosts key)) no_events no_events (λ k. no_more (Send k) (ne k)) no_event_same es n

    pub received_other : ((k : SegKey) → event.kind ≢ Receive k) → ReceivedSoFar hosts host place es → ReceivedSoFar hosts host (place + 1) es
    received_other ne n = notes-same (sends hosts) (sends hosts) (λ key. so_far host place (receives hosts key)) (λ key. so_far host (place + 1) (receives hosts key)) (λ k. is_itself (sends hosts k)) (λ k. no_more (Receive k) (ne k)) es n

    module _ (key : SegKey) (s : Placed) (is_host : s.host ≡ host) (is_place : s.place ≡ place) (is_time : s.time ≡ event.time) where
      one_more : (kind : KernelEvent) → event.kind ≡ kind → HasOneMore (so_far host place (HasEvent hosts kind)) (so_far host (place + 1) (HasEvent hosts kind)) s.host s.place s.time
      one_more kind e =
          let m = this_kind hosts host place kind event.time (has kind e) in
          subst (λ h. HasOneMore (so_far host place (HasEvent hosts kind)) (so_far host (place + 1) (HasEvent hosts kind)) h s.place s.time) (sym is_host)
          (subst (λ p. HasOneMore (so_far host place (HasEvent hosts kind)) (so_far host (place + 1) (HasEvent hosts kind)) host p s.time) (sym is_place)
          (subst (λ t. HasOneMore (so_far host place (HasEvent hosts kind)) (so_far host (place + 1) (HasEvent hosts kind)) host place t) (sym is_time) m))

      pub sent_more : event.kind ≡ Send key → SentSoFar hosts host place es → SentSoFar hosts host (place + 1) (with_send es key s)
      sent_more e n = notes-send (λ k. so_far host place (sends hosts k)) (λ k. so_far host (place + 1) (sends hosts k)) no_events key s
          (λ k ne. no_more (Send k) (λ w. ne (let same : Send key ≡ Send k = sym e ∙ w in cc))) (one_more (Send key) e)
          (λ k h p t q. subst (λ x. IsEarlier h p x s.place) (sym is_host) (subst (λ x. IsEarlier h p host x) (sym is_place) q.1)) (λ k h p t q. q) es n

      pub received_more : event.kind ≡ Receive key → ReceivedSoFar hosts host place es → ReceivedSoFar hosts host (place + 1) (with_receive es key s)
      received_more e n = notes-receive (sends hosts) (λ k. so_far host place (receives hosts k)) (λ k. so_far host (place + 1) (receives hosts k)) key s
          (λ k ne. no_more (Receive k) (λ w. ne (let same : Receive key ≡ Receive k = sym e ∙ w in cc))) (one_more (Receive key) e) es n
