-- What a change of one key's standing, or a new key, leaves of a table.
use Rattle.std.proofs.Common.{◌≡◌, ◌≢◌, ◌∙◌, ◌⊎◌, inl, inr, ⊎_elim, ℕ, Bool, true, false, List, [], ◌∷◌, ◌++◌, refl, sym, ap, subst, rules, if◌then◌else◌, true≢false}
use Rattle.std.specs.Map.{keys_of}
use Rattle.trace_types.specs.declared.segment.SegKey.{SegKey}
use Rattle.message_match.specs.declared.standing.Placed.{Placed}
use Rattle.message_match.specs.declared.standing.Standing.{Standing}
use Rattle.message_match.specs.declared.standing.Standing.TheVariants.{Sent, SentBySeveral, Matched, Ambiguous}
use Rattle.message_match.specs.Messages.{IsEarlier}
use Rattle.message_match.specs.Standings.{same_key, sent_again, changed, with_send, IsAmong, AreApart, IfFirst, AllFirst, AreInOrder}

abbrev pub Table : Type 0
Table = List (SegKey × Standing)

pub key_is : (k l : SegKey) → same_key k l ≡ true → k ≡ l
key_is k l h = search rules

pub key_itself : (k : SegKey) → same_key k k ≡ true
key_itself k = search rules

pub key_apart : (k l : SegKey) → same_key k l ≡ false → l ≢ k
key_apart k l h e = true≢false (sym (subst (λ m. same_key k m ≡ true) (sym e) (key_itself k)) ∙ h)

-- ---- keys

pub keys-changed : (next : Standing → Standing) (es : Table) (key : SegKey) → keys_of (changed next es key) ≡ keys_of es
keys-changed next [] key = refl
keys-changed next (e ∷ es) key = by (same_key key e.0) (keys-changed next es key)
  where
    by : (b : Bool) → keys_of (changed next es key) ≡ keys_of es → keys_of (if b then (e.0, next e.1) ∷ es else e ∷ changed next es key) ≡ e.0 ∷ keys_of es
    by true rest = refl
    by false rest = ap (λ l. e.0 ∷ l) rest

pub among_or_not : (ks : List SegKey) (key : SegKey) → IsAmong ks key ⊎ (¬ IsAmong ks key)
among_or_not [] key = inr (λ h. h)
among_or_not (k ∷ ks) key = by (same_key key k) refl (among_or_not ks key)
  where
    by : (b : Bool) → same_key key k ≡ b → IsAmong ks key ⊎ (¬ IsAmong ks key) → IsAmong (k ∷ ks) key ⊎ (¬ IsAmong (k ∷ ks) key)
    by true e rest = inl (inl (sym (key_is key k e)))
    by false e (inl h) = inl (inr h)
    by false e (inr h) = inr (λ w. ⊎_elim (key_apart key k e) h w)

pub among_before : (ks : List SegKey) (key k : SegKey) → IsAmong ks k → IsAmong (ks ++ key ∷ []) k
among_before [] key k h = absurd h
among_before (x ∷ xs) key k (inl e) = inl e
among_before (x ∷ xs) key k (inr h) = inr (among_before xs key k h)

pub among_last : (ks : List SegKey) (key : SegKey) → IsAmong (ks ++ key ∷ []) key
among_last [] key = inl refl
among_last (x ∷ xs) key = inr (among_last xs key)

among_one_more : (ks : List SegKey) (key k : SegKey) → IsAmong (ks ++ key ∷ []) k → IsAmong ks k ⊎ (key ≡ k)
among_one_more [] key k (inl e) = inr e
among_one_more [] key k (inr h) = absurd h
among_one_more (x ∷ xs) key k (inl e) = inl (inl e)
among_one_more (x ∷ xs) key k (inr h) = ⊎_elim (λ w. inl (inr w)) (λ e. inr e) (among_one_more xs key k h)

pub apart_one_more : (ks : List SegKey) (key : SegKey) → AreApart ks → (¬ IsAmong ks key) → AreApart (ks ++ key ∷ [])
apart_one_more [] key a n = (λ h. h, tt)
apart_one_more (x ∷ xs) key a n = (λ h. ⊎_elim a.0 (λ e. n (inl (sym e))) (among_one_more xs key x h), apart_one_more xs key a.1 (λ h. n (inr h)))

pub keys_one_more : (es : Table) (key : SegKey) (x : Standing) → keys_of (es ++ (key, x) ∷ []) ≡ keys_of es ++ key ∷ []
keys_one_more [] key x = refl
keys_one_more (e ∷ es) key x = ap (λ l. e.0 ∷ l) (keys_one_more es key x)

-- ---- a send of a key that is there, and of a new one

pub send-present : (es : Table) (key : SegKey) (s : Placed) → IsAmong (keys_of es) key → with_send es key s ≡ changed (λ x. sent_again x s) es key
send-present [] key s h = absurd h
send-present (e ∷ es) key s h = by (same_key key e.0) refl h (send-present es key s)
  where
    by : (b : Bool) → same_key key e.0 ≡ b → IsAmong (e.0 ∷ keys_of es) key → (IsAmong (keys_of es) key → with_send es key s ≡ changed (λ x. sent_again x s) es key)
        → (if b then (e.0, sent_again e.1 s) ∷ es else e ∷ with_send es key s) ≡ (if b then (e.0, sent_again e.1 s) ∷ es else e ∷ changed (λ x. sent_again x s) es key)
    by true is h rest = refl
    by false is (inl e0) rest = absurd (key_apart key e.0 is e0)
    by false is (inr h) rest = ap (λ l. e ∷ l) (rest h)

pub send-absent : (es : Table) (key : SegKey) (s : Placed) → (¬ IsAmong (keys_of es) key) → with_send es key s ≡ es ++ (key, Sent s) ∷ []
send-absent [] key s n = refl
send-absent (e ∷ es) key s n = by (same_key key e.0) refl (send-absent es key s (λ h. n (inr h)))
  where
    by : (b : Bool) → same_key key e.0 ≡ b → with_send es key s ≡ es ++ (key, Sent s) ∷ []
        → (if b then (e.0, sent_again e.1 s) ∷ es else e ∷ with_send es key s) ≡ e ∷ (es ++ (key, Sent s) ∷ [])
    by true is rest = absurd (n (inl (sym (key_is key e.0 is))))
    by false is rest = ap (λ l. e ∷ l) rest

-- ---- the order

-- the next standing has no other first send
abbrev pub KeepsFirst : (Standing → Standing) → Type 1
KeepsFirst next = (x : Standing) (P : ℕ → ℕ → Type 0) → IfFirst x P → IfFirst (next x) P

if_first : (x : Standing) (P Q : ℕ → ℕ → Type 0) → ((h i : ℕ) → P h i → Q h i) → IfFirst x P → IfFirst x Q
if_first (Sent f) P Q to p = to _ _ p
if_first SentBySeveral P Q to p = tt
if_first (Matched m) P Q to p = to _ _ p
if_first Ambiguous P Q to p = tt

all_first-changed : (next : Standing → Standing) → KeepsFirst next → (P : ℕ → ℕ → Type 0) (es : Table) (key : SegKey) → AllFirst P es → AllFirst P (changed next es key)
all_first-changed next keeps P [] key a = tt
all_first-changed next keeps P (e ∷ es) key a = by (same_key key e.0) (all_first-changed next keeps P es key a.1)
  where
    by : (b : Bool) → AllFirst P (changed next es key) → AllFirst P (if b then (e.0, next e.1) ∷ es else e ∷ changed next es key)
    by true rest = (keeps e.1 P a.0, a.1)
    by false rest = (a.0, rest)

pub order-changed : (next : Standing → Standing) → KeepsFirst next → (es : Table) (key : SegKey) → AreInOrder es → AreInOrder (changed next es key)
order-changed next keeps [] key a = tt
order-changed next keeps (e ∷ es) key a = by (same_key key e.0) (order-changed next keeps es key a.1)
  where
    by : (b : Bool) → AreInOrder (changed next es key) → AreInOrder (if b then (e.0, next e.1) ∷ es else e ∷ changed next es key)
    by true rest = (keeps e.1 (λ h i. AllFirst (IsEarlier h i) es) a.0, a.1)
    by false rest = (if_first e.1 (λ h i. AllFirst (IsEarlier h i) es) (λ h i. AllFirst (IsEarlier h i) (changed next es key)) (λ h i. all_first-changed next keeps (IsEarlier h i) es key) a.0, rest)

all_first_one_more : (P : ℕ → ℕ → Type 0) (es : Table) (key : SegKey) (x : Standing) → AllFirst P es → IfFirst x P → AllFirst P (es ++ (key, x) ∷ [])
all_first_one_more P [] key x a b = (b, tt)
all_first_one_more P (e ∷ es) key x a b = (a.0, all_first_one_more P es key x a.1 b)

-- a new key whose first send is after all others
pub order_one_more : (es : Table) (key : SegKey) (s : Placed) → AreInOrder es → AllFirst (λ h i. IsEarlier h i s.host s.place) es → AreInOrder (es ++ (key, Sent s) ∷ [])
order_one_more [] key s a b = (tt, tt)
order_one_more (e ∷ es) key s a b = (both e.1 a.0 b.0, order_one_more es key s a.1 b.1)
  where
    both : (x : Standing) → IfFirst x (λ h i. AllFirst (IsEarlier h i) es) → IfFirst x (λ h i. IsEarlier h i s.host s.place) → IfFirst x (λ h i. AllFirst (IsEarlier h i) (es ++ (key, Sent s) ∷ []))
    both (Sent f) p q = all_first_one_more (IsEarlier f.host f.place) es key (Sent s) p q
    both SentBySeveral p q = tt
    both (Matched m) p q = all_first_one_more (IsEarlier m.from m.send) es key (Sent s) p q
    both Ambiguous p q = tt
