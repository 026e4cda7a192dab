-- What one more event, after all before, makes of what was known of some events.
use Rattle.std.proofs.Common.{◌≡◌, ◌≢◌, ◌≤◌, ◌⊎◌, inl, inr, ⊎_elim, ℕ, sym, subst, arith, ◌∙◌, eq-eqb, ne_eqb}
use native.Mathlib.Decide.{ℕ_discrete}
use mathlib.Core.Logic.{dite}
use Rattle.message_match.specs.declared.message.Message.{Message}
use Rattle.message_match.specs.declared.standing.Placed.{Placed}
use Rattle.message_match.specs.declared.standing.Standing.{Standing}
use Rattle.message_match.specs.declared.standing.Standing.TheVariants.{Sent, SentBySeveral, Matched, Ambiguous}
use Rattle.message_match.specs.Messages.{IsEarlier, IsFirstOfOneHost, IsMessageOf}
use Rattle.message_match.specs.Standings.{sent_again, received, AreOfSeveral, AreNone, AreSome, IsClash, Tells}

-- the one has the events of the other
pub record IsSame (Q Q' : ℕ → ℕ → ℕ → Type 0) : Type 0 where
  pub to : (h p t : ℕ) → Q h p t → Q' h p t
  pub back : (h p t : ℕ) → Q' h p t → Q h p t

-- the other has one more, after all that the one has
pub record HasOneMore (Q Q' : ℕ → ℕ → ℕ → Type 0) (host place time : ℕ) : Type 0 where
  pub to : (h p t : ℕ) → Q h p t → Q' h p t
  pub new : Q' host place time
  pub back : (h p t : ℕ) → Q' h p t → Q h p t ⊎ ((h ≡ host) × (p ≡ place) × (t ≡ time))
  pub behind : (h p t : ℕ) → Q h p t → IsEarlier h p host place

pub is_itself : (Q : ℕ → ℕ → ℕ → Type 0) → IsSame Q Q
is_itself Q = record { to = λ h p t q. q; back = λ h p t q. q }

module _ (Q Q' : ℕ → ℕ → ℕ → Type 0) where
  first-same : IsSame Q Q' → (h p t : ℕ) → IsFirstOfOneHost Q h p t → IsFirstOfOneHost Q' h p t
  first-same s h p t f = record { here = s.to _ _ _ f.here; first = λ p' t' q. f.first p' t' (s.back _ _ _ q); alone = λ h' p' t' q. f.alone h' p' t' (s.back _ _ _ q) }

  pub several_more : ((h p t : ℕ) → Q h p t → Q' h p t) → AreOfSeveral Q → AreOfSeveral Q'
  several_more to a = record {
    host = a.host;
    place = a.place;
    time = a.time;
    here = to _ _ _ a.here;
    other_host = a.other_host;
    other_place = a.other_place;
    other_time = a.other_time;
    there = to _ _ _ a.there;
    apart = a.apart;
  }

  some_more : ((h p t : ℕ) → Q h p t → Q' h p t) → AreSome Q → AreSome Q'
  some_more to a = (a.0, a.1, a.2, to _ _ _ a.3)

  module _ (h i t : ℕ) (m : HasOneMore Q Q' h i t) where
    first_again : (a b c : ℕ) → IsFirstOfOneHost Q a b c → a ≡ h → IsFirstOfOneHost Q' a b c
    first_again a b c f e = record {
      here = m.to _ _ _ f.here;
      first = λ p t' q. ⊎_elim (λ w. f.first p t' w) (λ w. let lt = m.behind _ _ _ f.here in omega (arith, w.1)) (m.back _ _ _ q);
      alone = λ h' p t' q. ⊎_elim (λ w. f.alone h' p t' w) (λ w. w.0 ∙ sym e) (m.back _ _ _ q);
    }

    pub first_new : AreNone Q → IsFirstOfOneHost Q' h i t
    first_new none = record {
      here = m.new;
      first = λ p t' q. ⊎_elim (λ w. absurd (none _ _ _ w)) (λ w. omega (arith, w.1)) (m.back _ _ _ q);
      alone = λ h' p t' q. ⊎_elim (λ w. absurd (none _ _ _ w)) (λ w. w.0) (m.back _ _ _ q);
    }

    several_new : (a b c : ℕ) → IsFirstOfOneHost Q a b c → a ≢ h → AreOfSeveral Q'
    several_new a b c f ne = record {
      host = a;
      place = b;
      time = c;
      here = m.to _ _ _ f.here;
      other_host = h;
      other_place = i;
      other_time = t;
      there = m.new;
      apart = λ e. ne (sym e);
    }

-- ---- standings
module _ (S S' R R' : ℕ → ℕ → ℕ → Type 0) where
  clash_more : ((h p t : ℕ) → S h p t → S' h p t) → ((h p t : ℕ) → R h p t → R' h p t) → IsClash S R → IsClash S' R'
  clash_more s r c = record {
    sent = some_more S S' s c.sent;
    received = some_more R R' r c.received;
    clash = ⊎_elim (λ a. inl (several_more S S' s a)) (λ b. inr (⊎_elim (λ a. inl (several_more R R' r a)) (λ o. inr (record {
      host = o.host;
      place = o.place;
      time = o.time;
      here = s _ _ _ o.here;
      other_place = o.other_place;
      other_time = o.other_time;
      there = r _ _ _ o.there;
    })) b)) c.clash;
  }

  pub tells-same : IsSame S S' → IsSame R R' → (x : Standing) → Tells S R x → Tells S' R' x
  tells-same s r (Sent f) a = (first-same S S' s _ _ _ a.0, λ h p t q. a.1 h p t (r.back _ _ _ q))
  tells-same s r SentBySeveral a = (several_more S S' s.to a.0, λ h p t q. a.1 h p t (r.back _ _ _ q))
  tells-same s r (Matched m) a = record { sent = first-same S S' s _ _ _ a.sent; received = first-same R R' r _ _ _ a.received; apart = a.apart }
  tells-same s r Ambiguous a = clash_more s.to r.to a

-- one more send, where nothing is received
pub tells-sent_again : (S S' R : ℕ → ℕ → ℕ → Type 0) (s : Placed) → HasOneMore S S' s.host s.place s.time → AreNone R → (x : Standing) → Tells S R x → Tells S' R (sent_again x s)
tells-sent_again S S' R s m none (Sent f) a = dite (ℕ_discrete f.host s.host)
    (λ e. rw (eq-eqb f.host s.host e) (first_again S S' s.host s.place s.time m f.host f.place f.time a.0 e, none))
    (λ ne. rw (ne_eqb f.host s.host ne) (several_new S S' s.host s.place s.time m f.host f.place f.time a.0 ne, none))
tells-sent_again S S' R s m none SentBySeveral a = (several_more S S' m.to a.0, none)
tells-sent_again S S' R s m none (Matched n) a = absurd (none _ _ _ a.received.here)
tells-sent_again S S' R s m none Ambiguous a = absurd (none _ _ _ a.received.3)

-- one more receive
pub tells-received : (S R R' : ℕ → ℕ → ℕ → Type 0) (r : Placed) → HasOneMore R R' r.host r.place r.time → (x : Standing) → Tells S R x → Tells S R' (received x r)
tells-received S R R' r m (Sent f) a = dite (ℕ_discrete f.host r.host)
    (λ e. rw (eq-eqb f.host r.host e) (record {
      sent = (f.host, f.place, f.time, a.0.here);
      received = (r.host, r.place, r.time, m.new);
      clash = inr (inr (record { host = f.host; place = f.place; time = f.time; here = a.0.here; other_place = r.place; other_time = r.time; there = subst (λ h. R' h r.place r.time) (sym e) m.new }));
    }))
    (λ ne. rw (ne_eqb f.host r.host ne) (record { sent = a.0; received = first_new R R' r.host r.place r.time m a.1; apart = ne }))
tells-received S R R' r m SentBySeveral a = record {
  sent = (a.0.host, a.0.place, a.0.time, a.0.here);
  received = (r.host, r.place, r.time, m.new);
  clash = inl a.0;
}
tells-received S R R' r m (Matched n) a = dite (ℕ_discrete n.to r.host)
    (λ e. rw (eq-eqb n.to r.host e) (record { sent = a.sent; received = first_again R R' r.host r.place r.time m n.to n.receive n.received a.received e; apart = a.apart }))
    (λ ne. rw (ne_eqb n.to r.host ne) (record {
      sent = (n.from, n.send, n.sent, a.sent.here);
      received = (r.host, r.place, r.time, m.new);
      clash = inr (inl (several_new R R' r.host r.place r.time m n.to n.receive n.received a.received ne));
    }))
tells-received S R R' r m Ambiguous a = clash_more S S R R' (λ h p t q. q) m.to a

-- ---- one message at most

-- no host has two such events at one place
abbrev pub HasOneTime : (ℕ → ℕ → ℕ → Type 0) → Type 0
HasOneTime Q = (h p t u : ℕ) → Q h p t → Q h p u → t ≡ u

record IsSamePlace (a b c a' b' c' : ℕ) : Type 0 where
  host : a ≡ a'
  place : b ≡ b'
  time : c ≡ c'

first_unique : (Q : ℕ → ℕ → ℕ → Type 0) → HasOneTime Q → (a b c a' b' c' : ℕ) → IsFirstOfOneHost Q a b c → IsFirstOfOneHost Q a' b' c' → IsSamePlace a b c a' b' c'
first_unique Q one a b c a' b' c' f g =
    let host : a ≡ a' = g.alone _ _ _ f.here in
    let there : Q a b' c' = subst (λ h. Q h b' c') (sym host) g.here in
    let back : Q a' b c = subst (λ h. Q h b c) host f.here in
    let below : b ≤ b' = f.first _ _ there in
    let above : b' ≤ b = g.first _ _ back in
    let place : b' ≡ b = omega arith in
    record { host = host; place = sym place; time = one a b c c' f.here (subst (λ p. Q a p c') place there) }

pub only_message : (S R : ℕ → ℕ → ℕ → Type 0) → HasOneTime S → HasOneTime R → (x : Standing) → Tells S R x → (n : Message) → IsMessageOf S R n → x ≡ Matched n
only_message S R one_s one_r (Sent f) a n m = absurd (a.1 _ _ _ m.received.here)
only_message S R one_s one_r SentBySeveral a n m = absurd (a.1 _ _ _ m.received.here)
only_message S R one_s one_r (Matched k) a n m =
    let s = first_unique S one_s k.from k.send k.sent n.from n.send n.sent a.sent m.sent in
    let r = first_unique R one_r k.to k.receive k.received n.to n.receive n.received a.received m.received in
    λ j. Matched (record { sent = s.time j; received = r.time j; from = s.host j; send = s.place j; to = r.host j; receive = r.place j })
only_message S R one_s one_r Ambiguous a n m = absurd (⊎_elim
    (λ s. s.apart (m.sent.alone _ _ _ s.there ∙ sym (m.sent.alone _ _ _ s.here)))
    (λ b. ⊎_elim (λ r. r.apart (m.received.alone _ _ _ r.there ∙ sym (m.received.alone _ _ _ r.here)))
    (λ o. m.apart (sym (m.sent.alone _ _ _ o.here) ∙ m.received.alone _ _ _ o.there)) b)
    a.clash)
