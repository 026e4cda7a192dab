-- What a table that notes all events gives.
use Rattle.std.proofs.Common.{◌≡◌, ◌≢◌, ◌∙◌, ◌⊎◌, ◌+◌, inl, inr, ℕ, Bool, true, false, cond, Some, List, [], ◌∷◌, length, slice_get, refl, sym, ap, subst, arith, if◌then◌else◌, count_by, Result, Ok, Err, IfOk}
use Rattle.std.specs.List.{AllByRecursion, filter_map}
use Rattle.std.specs.Map.{keys_of, values_of}
use Rattle.std.proofs.lemmas.List.Recursion.{is_count_by}
use Rattle.trace_types.specs.declared.event.Event.{Event}
use Rattle.trace_types.specs.declared.event.KernelEvent.{KernelEvent}
use Rattle.trace_types.specs.declared.event.KernelEvent.TheVariants.{Send, Receive}
use Rattle.trace_types.specs.declared.host.HostEvents.{HostEvents}
use Rattle.trace_types.specs.declared.segment.SegKey.{SegKey}
use Rattle.message_match.specs.declared.message.Message.{Message}
use Rattle.message_match.specs.declared.message.Messages.{Messages}
use Rattle.message_match.specs.declared.standing.Standing.{Standing}
use Rattle.message_match.specs.declared.standing.Standing.TheVariants.{Sent, SentBySeveral, Matched, Ambiguous}
use Rattle.message_match.specs.Messages.{AreMessages, HasEvent, IsAmbiguous, IsEarlier, IsMessage, IsMessageOf, Precedes}
use Rattle.message_match.specs.Standings.{message_in, is_ambiguous, sends, receives, AllFirst, AllTell, AreApart, AreInOrder, IsAmong, IsClash, Notes, Tells}
use Rattle.message_match.proofs.Changes.{Table}
use Rattle.message_match.proofs.Lists.{Pairs, all_pairs, among, contained, pairs_apart}
use Rattle.message_match.proofs.OneMore.{HasOneTime, only_message}

abbrev pub messages : Table → List Message
messages es = filter_map message_in (values_of es)

-- the keys that are ambiguous
abbrev ambiguous_keys : Table → List SegKey
ambiguous_keys [] = []
ambiguous_keys (e ∷ es) = if is_ambiguous e.1 then e.0 ∷ ambiguous_keys es else ambiguous_keys es

-- as std counts them
ambiguous_count : List Standing → ℕ
ambiguous_count [] = 0
ambiguous_count (x ∷ xs) = cond (is_ambiguous x) (1 + ambiguous_count xs) (ambiguous_count xs)

length-ambiguous : (es : Table) → length (ambiguous_keys es) ≡ ambiguous_count (values_of es)
unfolding ambiguous_count
length-ambiguous [] = refl
length-ambiguous (e ∷ es) = by (is_ambiguous e.1) (length-ambiguous es)
  where
    by : (b : Bool) → length (ambiguous_keys es) ≡ ambiguous_count (values_of es) → length (if b then e.0 ∷ ambiguous_keys es else ambiguous_keys es) ≡ cond b (1 + ambiguous_count (values_of es)) (ambiguous_count (values_of es))
    by true rest = omega arith
    by false rest = rest

count-ambiguous : (es : Table) → count_by is_ambiguous (values_of es) ≡ length (ambiguous_keys es)
unfolding ambiguous_count
count-ambiguous es = sym (length-ambiguous es ∙ is_count_by ambiguous_count is_ambiguous refl (λ x xs. refl) (values_of es))

ambiguous_among : (es : Table) (k : SegKey) → IsAmong (ambiguous_keys es) k → IsAmong (keys_of es) k
ambiguous_among [] k h = h
ambiguous_among (e ∷ es) k h = by (is_ambiguous e.1) h (ambiguous_among es k)
  where
    by : (b : Bool) → IsAmong (if b then e.0 ∷ ambiguous_keys es else ambiguous_keys es) k → (IsAmong (ambiguous_keys es) k → IsAmong (keys_of es) k) → (e.0 ≡ k) ⊎ IsAmong (keys_of es) k
    by true (inl w) rest = inl w
    by true (inr w) rest = inr (rest w)
    by false w rest = inr (rest w)

ambiguous_apart : (es : Table) → AreApart (keys_of es) → AreApart (ambiguous_keys es)
ambiguous_apart [] a = tt
ambiguous_apart (e ∷ es) a = by (is_ambiguous e.1) (ambiguous_apart es a.1)
  where
    by : (b : Bool) → AreApart (ambiguous_keys es) → AreApart (if b then e.0 ∷ ambiguous_keys es else ambiguous_keys es)
    by true rest = (λ h. a.0 (ambiguous_among es e.0 h), rest)
    by false rest = rest

-- ---- the order
all_behind : (h i : ℕ) (es : Table) → AllFirst (IsEarlier h i) es → AllByRecursion (λ n. IsEarlier h i n.from n.send) (messages es)
all_behind h i [] a = tt
all_behind h i ((k, Sent f) ∷ es) a = all_behind h i es a.1
all_behind h i ((k, SentBySeveral) ∷ es) a = all_behind h i es a.1
all_behind h i ((k, Matched m) ∷ es) a = (a.0, all_behind h i es a.1)
all_behind h i ((k, Ambiguous) ∷ es) a = all_behind h i es a.1

in_order : (es : Table) → AreInOrder es → Pairs Precedes (messages es)
in_order [] a = tt
in_order ((k, Sent f) ∷ es) a = in_order es a.1
in_order ((k, SentBySeveral) ∷ es) a = in_order es a.1
in_order ((k, Matched m) ∷ es) a = (all_behind m.from m.send es a.0, in_order es a.1)
in_order ((k, Ambiguous) ∷ es) a = in_order es a.1

-- at a place there is one event
pub one_event : (hosts : List HostEvents) (h p : ℕ) (l k : HostEvents) (e f : Event) → slice_get hosts h ≡ Some l → slice_get hosts h ≡ Some k → slice_get l.events.items p ≡ Some e → slice_get k.events.items p ≡ Some f → e ≡ f
one_event hosts h p l k e f a b c d =
    let same : l ≡ k = cc in
    let there : slice_get l.events.items p ≡ Some f = subst (λ x. slice_get x.events.items p ≡ Some f) (sym same) d in cc

-- ---- the members
module _ (S R : SegKey → ℕ → ℕ → ℕ → Type 0) where
  is_message : (es : Table) → AllTell S R es → (m : Message) → IsAmong (messages es) m → (key : SegKey) × IsMessageOf (S key) (R key) m
  is_message [] a m h = absurd h
  is_message ((k, Sent f) ∷ es) a m h = is_message es a.1 m h
  is_message ((k, SentBySeveral) ∷ es) a m h = is_message es a.1 m h
  is_message ((k, Matched n) ∷ es) a m (inl e) = (k, subst (IsMessageOf (S k) (R k)) e a.0)
  is_message ((k, Matched n) ∷ es) a m (inr h) = is_message es a.1 m h
  is_message ((k, Ambiguous) ∷ es) a m h = is_message es a.1 m h

  -- what the table tells of a key that it has
  told : (es : Table) → AllTell S R es → (key : SegKey) → IsAmong (keys_of es) key → (x : Standing) × Tells (S key) (R key) x × ((m : Message) → x ≡ Matched m → IsAmong (messages es) m) × (x ≡ Ambiguous → IsAmong (ambiguous_keys es) key)
  told [] a key h = absurd h
  told (e ∷ es) a key (inl w) = (e.1, subst (λ k. Tells (S k) (R k) e.1) w a.0, λ m is. rw is (inl refl), λ is. rw is (inl w))
  told (e ∷ es) a key (inr h) = let t = told es a.1 key h in (t.0, t.1, λ m is. later e.1 m (t.2 m is), λ is. behind e.1 (t.3 is))
    where
      later : (x : Standing) (m : Message) → IsAmong (messages es) m → IsAmong (messages ((e.0, x) ∷ es)) m
      later (Sent f) m h = h
      later SentBySeveral m h = h
      later (Matched n) m h = inr h
      later Ambiguous m h = h

      behind : (x : Standing) → IsAmong (ambiguous_keys es) key → IsAmong (ambiguous_keys ((e.0, x) ∷ es)) key
      behind (Sent f) h = h
      behind SentBySeveral h = h
      behind (Matched n) h = h
      behind Ambiguous h = inr h

  clashes : (es : Table) → AllTell S R es → (key : SegKey) → IsAmong (ambiguous_keys es) key → IsClash (S key) (R key)
  clashes [] a key h = absurd h
  clashes ((k, Sent f) ∷ es) a key h = clashes es a.1 key h
  clashes ((k, SentBySeveral) ∷ es) a key h = clashes es a.1 key h
  clashes ((k, Matched n) ∷ es) a key h = clashes es a.1 key h
  clashes ((k, Ambiguous) ∷ es) a key (inl w) = subst (λ l. IsClash (S l) (R l)) w a.0
  clashes ((k, Ambiguous) ∷ es) a key (inr h) = clashes es a.1 key h

module _ (hosts : List HostEvents) where
  pub one_time : (kind : KernelEvent) → HasOneTime (HasEvent hosts kind)
  one_time kind h p t u a b = let e = one_event hosts h p a.list b.list a.event b.event a.of_host b.of_host a.at b.at in sym a.is_time ∙ (ap (λ x. x.time) e ∙ b.is_time)

  pub are_messages : (es : Table) → Notes (sends hosts) (receives hosts) es → AreMessages hosts (messages es) (count_by is_ambiguous (values_of es))
  are_messages es n = record {
    members = λ m. (λ c. is_message (sends hosts) (receives hosts) es n.tells m (among _ m c), λ w. contained _ m (has_message m w.0 w.1));
    order = all_pairs Precedes (messages es) (in_order es n.order);
    counted = (ambiguous_keys es, all_pairs ◌≢◌ (ambiguous_keys es) (pairs_apart _ (ambiguous_apart es n.apart)), (λ key. (λ c. clash key (clashes (sends hosts) (receives hosts) es n.tells key (among _ key c)), λ a. contained _ key (has_ambiguous key a))), count-ambiguous es);
  }
    where
      only : (key : SegKey) (x : Standing) → Tells (sends hosts key) (receives hosts key) x → (m : Message) → IsMessage hosts key m → x ≡ Matched m
      only key = only_message (sends hosts key) (receives hosts key) (one_time (Send key)) (one_time (Receive key))

      has_message : (m : Message) (key : SegKey) → IsMessage hosts key m → IsAmong (messages es) m
      has_message m key is = let t = told (sends hosts) (receives hosts) es n.tells key (n.known key _ _ _ is.sent.here) in t.2 m (only key t.0 t.1 m is)

      clash : (key : SegKey) → IsClash (sends hosts key) (receives hosts key) → IsAmbiguous hosts key
      clash key c = record { sent = c.sent; received = c.received; unmatched = λ m is. let e : Ambiguous ≡ Matched m = only key Ambiguous c m is in cc }

      has_ambiguous : (key : SegKey) → IsAmbiguous hosts key → IsAmong (ambiguous_keys es) key
      has_ambiguous key a = let t = told (sends hosts) (receives hosts) es n.tells key (n.known key _ _ _ a.sent.3) in t.3 (by t.0 t.1)
        where
          by : (x : Standing) → Tells (sends hosts key) (receives hosts key) x → x ≡ Ambiguous
          by (Sent f) w = absurd (w.1 _ _ _ a.received.3)
          by SentBySeveral w = absurd (w.1 _ _ _ a.received.3)
          by (Matched m) w = absurd (a.unmatched m w)
          by Ambiguous w = refl

  -- the same of what a call may have given
  pub ok_messages : {E : Type 0} (r : Result Messages E) (es : Table) → Notes (sends hosts) (receives hosts) es → IfOk r (λ m. m.matched.items ≡ messages es) → IfOk r (λ m. m.ambiguous ≡ count_by is_ambiguous (values_of es)) → IfOk r (λ m. AreMessages hosts m.matched.items m.ambiguous)
  ok_messages (Ok m) es n a b = subst (λ l. AreMessages hosts l m.ambiguous) (sym a) (subst (AreMessages hosts (messages es)) (sym b) (are_messages es n))
  ok_messages (Err e) es n a b = tt
