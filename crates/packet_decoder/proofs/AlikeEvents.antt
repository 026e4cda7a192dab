-- The events of packets are alike by two representations of one trace.
use Rattle.std.proofs.Common.{◌≡◌, ◌∙◌, ℕ, zero, suc, Bool, true, false, if◌then◌else◌, nat_eq, nat_lt, List, [], ◌∷◌, ◌++◌, length, drop, Option, Some, None, Result, Ok, Err, codes, option_map, position, slice_get, unwrap_or, refl, ap, ap₂, subst}
use Rattle.std.specs.Map.{keys_of}
use Rattle.std.specs.List.{AllByRecursion}
use Rattle.type_table.specs.SameTrace.{AreBoth, IsSameEvent, IsSameTrace}
use Rattle.type_table.specs.Table.{Table}
use Rattle.type_table.specs.TraceMetas.{EventIn, IsSoundMeta, TraceMetaModel, same_event}
use Rattle.type_table.specs.declared.declared.EventId.{EventId}
use Rattle.type_table.specs.declared.declared.EventParts.{EventParts}
use Rattle.type_table.specs.declared.meta.ScopeName.TheVariants.{EventHeader, StreamContext, EventContext}
use Rattle.type_table.specs.PerScope.{with_scope}
use Rattle.type_table.proofs.EachScope.{both_scopes_with}
use Rattle.ctf_fields.specs.declared.field.Field.{Field}
use Rattle.ctf_fields.specs.declared.raw.RawEvent.{RawEvent}
use Rattle.ctf_fields.specs.Fields.{Scopes, number_of, or_else}
use Rattle.ctf_fields.specs.Named.{last_named}
use Rattle.ctf_fields.specs.Reading.{Reads, Got, Fails}
use Rattle.ctf_fields.proofs.Alike.{Alike, AlikeIf, AlikeScopes, ReadBoth, no_members}
use Rattle.ctf_fields.proofs.AlikeFields.{last_alike, named_alike, number_alike}
use Rattle.ctf_fields.proofs.AlikeReading.{struct_alike}
use Rattle.trace_types.specs.declared.cause.Cause.{Cause}
use Rattle.trace_types.specs.declared.cause.Cause.TheVariants as cause
use Rattle.packet_decoder.specs.Events.{PacketModel, as_packet, as_result, cause_of, cleared, decoded, event, event_added, event_at, event_body, event_by, event_fields, event_head, event_of, event_timed, events_from, field_or_none, from_of, head_by, packet_events, scope_at, within}
use Rattle.packet_decoder.specs.PacketHeads.{and_then}
use Rattle.packet_decoder.specs.Times.{clock_after, clock_of, in_range, rate_of, time_of, time_after, usual_rate}
use Rattle.packet_decoder.specs.Values.{id_in}
use Rattle.packet_decoder.specs.declared.events.Cursor.{Cursor}
use Rattle.packet_decoder.specs.declared.events.EventHead.{EventHead}
use Rattle.packet_decoder.specs.declared.packet_head.PacketHead.{PacketHead}
use Rattle.packet_decoder.specs.declared.piece.PacketResult.{PacketResult}
use Rattle.packet_decoder.specs.declared.piece.PacketResult.TheVariants as result
use Rattle.packet_decoder.specs.declared.piece.PacketSpan.{PacketSpan}
use Rattle.packet_decoder.specs.declared.times.Timestamp.{Timestamp}
use Rattle.packet_decoder.proofs.AlikePacketHeads.{AlikePacketHead, AnswersBoth, SameIndex, SameScopes, same_heading, same_index, same_scope_read}
use Rattle.packet_decoder.proofs.AlikeValues.{same_id_number, same_stamp}

-- ---- what is read in two packets alike

pub record AlikeRaw (t u : Table) (r s : RawEvent) : Type 0 where
  pub time : r.time ≡ s.time
  pub cpu : r.cpu ≡ s.cpu
  pub event : r.event ≡ s.event
  pub fields : Alike t u r.fields s.fields

abbrev pub AlikeRaws : Table → Table → List RawEvent → List RawEvent → Type 0
AlikeRaws t u [] [] = Unit {0}
AlikeRaws t u (r ∷ rs) (s ∷ ss) = AlikeRaw t u r s × AlikeRaws t u rs ss
AlikeRaws t u _ _ = ⊥

abbrev pub AlikePackets : Table → Table → PacketResult → PacketResult → Type 0
AlikePackets t u (result.Events rs) (result.Events ss) = AlikeRaws t u rs ss
AlikePackets t u (result.Refused c) (result.Refused d) = c ≡ d
AlikePackets t u _ _ = ⊥

record AlikeWithin (w v : PacketModel) : Type 0 where
  left : IsSoundMeta w.meta
  right : IsSoundMeta v.meta
  same : IsSameTrace w.meta v.meta
  bytes : w.bytes ≡ v.bytes
  end : w.end ≡ v.end
  stream : w.stream ≡ v.stream
  parts : SameScopes w.meta.table v.meta.table w.parts v.parts
  cpu : w.cpu ≡ v.cpu

-- a field of a scope, and one bit after it
abbrev AlikeEnds : Table → Table → (Option Field × ℕ) → (Option Field × ℕ) → Type 0
AlikeEnds t u x y = AlikeIf t u x.0 y.0 × (x.1 ≡ y.1)

then_alike : {A B C D : Type 0} (P : A → C → Type 0) (Q : B → D → Type 0) (x : Result A Cause) (y : Result C Cause) (f : A → Result B Cause) (g : C → Result D Cause)
    → AnswersBoth P x y → ((a : A) (c : C) → P a c → AnswersBoth Q (f a) (g c)) → AnswersBoth Q (and_then x f) (and_then y g)
then_alike P Q (Ok a) (Ok c) f g h next = next a c h
then_alike P Q (Ok a) (Err d) f g h next = absurd h
then_alike P Q (Err c) (Ok b) f g h next = absurd h
then_alike P Q (Err c) (Err d) f g h next = h

results_alike : (t u : Table) (x y : Reads (Option Field)) → ReadBoth (AlikeIf t u) x y → AnswersBoth (AlikeEnds t u) (as_result x) (as_result y)
results_alike t u (Got f p) (Got g q) h = h
results_alike t u (Got f p) (Fails d) h = absurd h
results_alike t u (Fails c) (Got g q) h = absurd h
results_alike t u (Fails c) (Fails d) h = ap cause_of h

-- ---- events that are declared

record AlikeParts (t u : Table) (p q : EventParts) : Type 0 where
  name : p.name ≡ q.name
  context : SameIndex t u p.context q.context
  fields : SameIndex t u p.fields q.fields

abbrev AlikeEvents : Table → Table → Option (ℕ × EventParts) → Option (ℕ × EventParts) → Type 0
AlikeEvents t u None None = Unit {0}
AlikeEvents t u (Some e) (Some f) = (e.0 ≡ f.0) × AlikeParts t u e.1 f.1
AlikeEvents t u _ _ = ⊥

pub keys_alike : (t u : Table) (es fs : List (EventId × EventParts)) → AreBoth (IsSameEvent t u) es fs → keys_of es ≡ keys_of fs
keys_alike t u [] [] h = refl
keys_alike t u [] (f ∷ fs) h = absurd h
keys_alike t u (e ∷ es) [] h = absurd h
keys_alike t u (e ∷ es) (f ∷ fs) h = ap₂ (λ k ks. k ∷ ks) h.0.id (keys_alike t u es fs h.1)

event_alike : (t u : Table) (index i : ℕ) (es fs : List (EventId × EventParts)) → AreBoth (IsSameEvent t u) es fs → AllByRecursion (EventIn t) es → AllByRecursion (EventIn u) fs
    → AlikeEvents t u (option_map (λ event. (index, event.1)) (slice_get es i)) (option_map (λ event. (index, event.1)) (slice_get fs i))
event_alike t u index i [] [] h a b = tt
event_alike t u index i [] (f ∷ fs) h a b = absurd h
event_alike t u index i (e ∷ es) [] h a b = absurd h
event_alike t u index zero (e ∷ es) (f ∷ fs) h a b = (
  refl,
  record {
    name = h.0.name;
    context = same_index t u e.1.context f.1.context h.0.context a.0.0 b.0.0;
    fields = same_index t u e.1.fields f.1.fields h.0.fields a.0.1 b.0.1;
  },
)
event_alike t u index (suc i) (e ∷ es) (f ∷ fs) h a b = event_alike t u index i es fs h.1 a.1 b.1

event_at_alike : (m n : TraceMetaModel) → IsSoundMeta m → IsSoundMeta n → IsSameTrace m n → (index : Option ℕ) → AlikeEvents m.table n.table (event_at m index) (event_at n index)
event_at_alike m n sm sn same None = tt
event_at_alike m n sm sn same (Some index) = event_alike m.table n.table index index m.declared.events n.declared.events same.events sm.inside.declared.events sn.inside.declared.events

event_by_alike : (m n : TraceMetaModel) → IsSoundMeta m → IsSoundMeta n → IsSameTrace m n → (stream : ℕ) (id : Option ℕ) → AlikeEvents m.table n.table (event_by m stream id) (event_by n stream id)
event_by_alike m n sm sn same stream None = tt
event_by_alike m n sm sn same stream (Some id) =
    subst (λ keys. AlikeEvents m.table n.table (event_at m (position (same_event (record { stream = stream; id = id })) (keys_of m.declared.events))) (event_at n (position (same_event (record { stream = stream; id = id })) keys)))
    (keys_alike m.table n.table m.declared.events n.declared.events same.events)
    (event_at_alike m n sm sn same (position (same_event (record { stream = stream; id = id })) (keys_of m.declared.events)))

event_of_alike : (m n : TraceMetaModel) → IsSoundMeta m → IsSoundMeta n → IsSameTrace m n → (stream : ℕ) (f g : Option Field) → AlikeIf m.table n.table f g → AlikeEvents m.table n.table (event_of m stream f) (event_of n stream g)
event_of_alike m n sm sn same stream f g h =
    let id : id_in (number_of (last_named m.table.names (codes "id") f)) ≡ id_in (number_of (last_named n.table.names (codes "id") g))
    = same_id_number m.table n.table _ _ (number_alike m.table n.table _ _ (last_alike m.table n.table (codes "id") f g h)) in
    subst (λ i. AlikeEvents m.table n.table (event_of m stream f) (event_by n stream i)) id (event_by_alike m n sm sn same stream (id_in (number_of (last_named m.table.names (codes "id") f))))

-- ---- times

rate_alike : (m n : TraceMetaModel) → IsSameTrace m n → (clock : Option ℕ) → rate_of m clock ≡ rate_of n clock
rate_alike m n same None = ap (λ cs. unwrap_or (or_else None (if nat_eq (length cs) 1 then option_map (λ clock. clock.1) (slice_get cs 0) else None)) usual_rate) same.clocks
rate_alike m n same (Some p) = ap (λ cs. unwrap_or (or_else (option_map (λ clock. clock.1) (slice_get cs p)) (if nat_eq (length cs) 1 then option_map (λ clock. clock.1) (slice_get cs 0) else None)) usual_rate) same.clocks

timed_alike : (m n : TraceMetaModel) → IsSameTrace m n → (timestamp : Option Timestamp) (clock : ℕ) → time_after m timestamp clock ≡ time_after n timestamp clock
unfolding time_after
timed_alike m n same timestamp clock = ap (λ rate. and_then (clock_after clock timestamp) (λ v. and_then (in_range (time_of rate v)) (λ time. Ok (v, time)))) (rate_alike m n same (clock_of timestamp))

-- ---- an event

record AlikeHead (t u : Table) (h k : EventHead) : Type 0 where
  header : AlikeIf t u h.header k.header
  at : h.at ≡ k.at
  event : h.event ≡ k.event
  parts : AlikeParts t u h.parts k.parts
  timestamp : h.timestamp ≡ k.timestamp

or_none_alike : (t u : Table) (f g : Option Field) → AlikeIf t u f g → Alike t u (field_or_none f) (field_or_none g)
or_none_alike t u None None h = struct_alike t u [] [] no_members
or_none_alike t u None (Some g) h = absurd h
or_none_alike t u (Some f) None h = absurd h
or_none_alike t u (Some f) (Some g) h = h

abbrev AlikeStep : Table → Table → (RawEvent × Cursor) → (RawEvent × Cursor) → Type 0
AlikeStep t u x y = AlikeRaw t u x.0 y.0 × (x.1 ≡ y.1)

module _ (w v : PacketModel) (both : AlikeWithin w v) where
  scope_alike : (s r : Scopes) (a b : Option ℕ) (at to : ℕ) → AlikeScopes w.meta.table v.meta.table s r → SameIndex w.meta.table v.meta.table a b → at ≡ to → AnswersBoth (AlikeEnds w.meta.table v.meta.table) (scope_at w s a at) (scope_at v r b to)
  scope_alike s r a b at to scopes index is =
      subst (λ p. AnswersBoth (AlikeEnds w.meta.table v.meta.table) (scope_at w s a at) (scope_at v r b p)) is
      (results_alike w.meta.table v.meta.table _ _ (same_scope_read w.meta v.meta both.left both.right both.same (from_of w s) (from_of v r) a b at both.left.table both.right.table both.bytes both.end scopes index))

  head_by_alike : (f g : Option Field) (at to : ℕ) (e d : Option (ℕ × EventParts)) → AlikeIf w.meta.table v.meta.table f g → at ≡ to → AlikeEvents w.meta.table v.meta.table e d → AnswersBoth (AlikeHead w.meta.table v.meta.table) (head_by w f at e) (head_by v g to d)
  head_by_alike f g at to None None h is events = refl
  head_by_alike f g at to None (Some d) h is events = absurd events
  head_by_alike f g at to (Some e) None h is events = absurd events
  head_by_alike f g at to (Some e) (Some d) h is events = record {
    header = h;
    at = is;
    event = events.0;
    parts = events.1;
    timestamp = same_stamp w.meta.table v.meta.table both.left.table both.right.table _ _ (named_alike w.meta.table v.meta.table (codes "timestamp") f g h);
  }

  head_alike : (s r : Scopes) (at : ℕ) → AlikeScopes w.meta.table v.meta.table s r → AnswersBoth (AlikeHead w.meta.table v.meta.table) (event_head w s at) (event_head v r at)
  unfolding event_head
  head_alike s r at scopes =
      then_alike (AlikeEnds w.meta.table v.meta.table) (AlikeHead w.meta.table v.meta.table) _ _ _ _ (scope_alike s r w.parts.event_header v.parts.event_header at at scopes both.parts.event_header refl)
      (λ x y h. head_by_alike x.0 y.0 x.1 y.1 _ _ h.0 h.1
      (subst (λ n. AlikeEvents w.meta.table v.meta.table (event_of w.meta w.stream x.0) (event_of v.meta n y.0)) both.stream (event_of_alike w.meta v.meta both.left both.right both.same w.stream x.0 y.0 h.0)))

  fields_alike : (s r : Scopes) (p q : EventParts) (at to : ℕ) → AlikeScopes w.meta.table v.meta.table s r → AlikeParts w.meta.table v.meta.table p q → at ≡ to → AnswersBoth (AlikeEnds w.meta.table v.meta.table) (event_fields w s p at) (event_fields v r q to)
  unfolding event_fields
  fields_alike s r p q at to scopes parts is =
      then_alike (AlikeEnds w.meta.table v.meta.table) (AlikeEnds w.meta.table v.meta.table) _ _ _ _ (scope_alike s r p.context q.context at to scopes parts.context is)
      (λ x y h. scope_alike (with_scope EventContext x.0 s) (with_scope EventContext y.0 r) p.fields q.fields x.1 y.1
      (both_scopes_with (AlikeIf w.meta.table v.meta.table) EventContext x.0 y.0 s r h.0 scopes) parts.fields h.1)

  body_alike : (s r : Scopes) (p q : EventParts) (at to : ℕ) → AlikeScopes w.meta.table v.meta.table s r → AlikeParts w.meta.table v.meta.table p q → at ≡ to → AnswersBoth (AlikeEnds w.meta.table v.meta.table) (event_body w s p at) (event_body v r q to)
  unfolding event_body
  body_alike s r p q at to scopes parts is =
      then_alike (AlikeEnds w.meta.table v.meta.table) (AlikeEnds w.meta.table v.meta.table) _ _ _ _ (scope_alike s r w.parts.event_context v.parts.event_context at to scopes both.parts.event_context is)
      (λ x y h. fields_alike (with_scope StreamContext x.0 s) (with_scope StreamContext y.0 r) p q x.1 y.1
      (both_scopes_with (AlikeIf w.meta.table v.meta.table) StreamContext x.0 y.0 s r h.0 scopes) parts h.1)

  timed_both : (c : Cursor) (h k : EventHead) (f g : Option Field) (at to : ℕ) → AlikeHead w.meta.table v.meta.table h k → AlikeIf w.meta.table v.meta.table f g → at ≡ to → AnswersBoth (AlikeStep w.meta.table v.meta.table) (event_timed w c h f at) (event_timed v c k g to)
  timed_both c h k f g at to head fields is =
      let times : time_after w.meta h.timestamp c.clock ≡ time_after v.meta k.timestamp c.clock = timed_alike w.meta v.meta both.same h.timestamp c.clock ∙ ap (λ s. time_after v.meta s c.clock) head.timestamp in
      by (nat_eq at c.at) (nat_eq to c.at) (ap (λ a. nat_eq a c.at) is) (time_after w.meta h.timestamp c.clock) (time_after v.meta k.timestamp c.clock) times
    where
      end : (x y : Result (ℕ × ℕ) Cause) → x ≡ y → AnswersBoth (AlikeStep w.meta.table v.meta.table)
          (and_then x (λ t. Ok (record { time = t.1; cpu = w.cpu; event = h.event; fields = field_or_none f }, record { clock = t.0; at = at })))
          (and_then y (λ t. Ok (record { time = t.1; cpu = v.cpu; event = k.event; fields = field_or_none g }, record { clock = t.0; at = to })))
      end x y e = subst (λ z. AnswersBoth (AlikeStep w.meta.table v.meta.table)
          (and_then x (λ t. Ok (record { time = t.1; cpu = w.cpu; event = h.event; fields = field_or_none f }, record { clock = t.0; at = at })))
          (and_then z (λ t. Ok (record { time = t.1; cpu = v.cpu; event = k.event; fields = field_or_none g }, record { clock = t.0; at = to })))) e (one x)
        where
          one : (x : Result (ℕ × ℕ) Cause) → AnswersBoth (AlikeStep w.meta.table v.meta.table)
              (and_then x (λ t. Ok (record { time = t.1; cpu = w.cpu; event = h.event; fields = field_or_none f }, record { clock = t.0; at = at })))
              (and_then x (λ t. Ok (record { time = t.1; cpu = v.cpu; event = k.event; fields = field_or_none g }, record { clock = t.0; at = to })))
          one (Err c) = refl
          one (Ok t) = (record { time = refl; cpu = both.cpu; event = head.event; fields = or_none_alike w.meta.table v.meta.table f g fields }, ap (λ a. record { clock = t.0; at = a }) is)

      by : (a b : Bool) → a ≡ b → (x y : Result (ℕ × ℕ) Cause) → x ≡ y → AnswersBoth (AlikeStep w.meta.table v.meta.table)
          (if a then Err cause.NoBits else and_then x (λ t. Ok (record { time = t.1; cpu = w.cpu; event = h.event; fields = field_or_none f }, record { clock = t.0; at = at })))
          (if b then Err cause.NoBits else and_then y (λ t. Ok (record { time = t.1; cpu = v.cpu; event = k.event; fields = field_or_none g }, record { clock = t.0; at = to })))
      by true true e x y same = refl
      by true false e x y same = absurd (cc)
      by false true e x y same = absurd (cc)
      by false false e x y same = end x y same

  step_alike : (s r : Scopes) (c : Cursor) → AlikeScopes w.meta.table v.meta.table s r → AnswersBoth (AlikeStep w.meta.table v.meta.table) (event w s c) (event v r c)
  unfolding event
  step_alike s r c scopes =
      then_alike (AlikeHead w.meta.table v.meta.table) (AlikeStep w.meta.table v.meta.table) _ _ _ _ (head_alike s r c.at scopes)
      (λ h k head. then_alike (AlikeEnds w.meta.table v.meta.table) (AlikeStep w.meta.table v.meta.table) _ _ _ _
      (body_alike (with_scope EventHeader h.header s) (with_scope EventHeader k.header r) h.parts k.parts h.at k.at
      (both_scopes_with (AlikeIf w.meta.table v.meta.table) EventHeader h.header k.header s r head.header scopes) head.parts head.at)
      (λ x y ends. timed_both c h k x.0 y.0 x.1 y.1 head ends.0 ends.1))

  raws_push : (rs ss : List RawEvent) (r s : RawEvent) → AlikeRaws w.meta.table v.meta.table rs ss → AlikeRaw w.meta.table v.meta.table r s → AlikeRaws w.meta.table v.meta.table (rs ++ r ∷ []) (ss ++ s ∷ [])
  raws_push [] [] r s h is = (is, tt)
  raws_push [] (x ∷ ss) r s h is = absurd h
  raws_push (x ∷ rs) [] r s h is = absurd h
  raws_push (x ∷ rs) (y ∷ ss) r s h is = (h.0, raws_push rs ss r s h.1 is)

  abbrev AlikeTurn : (List RawEvent × Cursor) → (List RawEvent × Cursor) → Type 0
  AlikeTurn x y = AlikeRaws w.meta.table v.meta.table x.0 y.0 × (x.1 ≡ y.1)

  added_alike : (s r : Scopes) (done others : List RawEvent) (c : Cursor) → AlikeScopes w.meta.table v.meta.table s r → AlikeRaws w.meta.table v.meta.table done others → AnswersBoth AlikeTurn (event_added w s done c) (event_added v r others c)
  added_alike s r done others c scopes raws =
      then_alike (AlikeStep w.meta.table v.meta.table) AlikeTurn _ _ _ _ (step_alike s r c scopes) (λ x y h. (raws_push done others x.0 y.0 raws h.0, h.1))

  events_alike : (most : ℕ) (s r : Scopes) (done others : List RawEvent) (c d : Cursor) → AlikeScopes w.meta.table v.meta.table s r → AlikeRaws w.meta.table v.meta.table done others → c ≡ d
      → AnswersBoth (AlikeRaws w.meta.table v.meta.table) (events_from most w s done c) (events_from most v r others d)
  unfolding events_from
  events_alike zero s r done others c d scopes raws is = raws
  events_alike (suc most) s r done others c d scopes raws is =
      subst (λ x. AnswersBoth (AlikeRaws w.meta.table v.meta.table) (events_from (suc most) w s done c) (events_from (suc most) v r others x)) is
      (subst (λ e. AnswersBoth (AlikeRaws w.meta.table v.meta.table) (events_from (suc most) w s done c) (if nat_lt c.at e then and_then (event_added v r others c) (λ x. events_from most v r x.0 x.1) else Ok others)) both.end
      (by (nat_lt c.at w.end) (then_alike AlikeTurn (AlikeRaws w.meta.table v.meta.table) _ _ _ _ (added_alike s r done others c scopes raws) (λ x y h. events_alike most s r x.0 y.0 x.1 y.1 scopes h.0 h.1))))
    where
      by : (b : Bool) → AnswersBoth (AlikeRaws w.meta.table v.meta.table) (and_then (event_added w s done c) (λ x. events_from most w s x.0 x.1)) (and_then (event_added v r others c) (λ x. events_from most v r x.0 x.1))
          → AnswersBoth (AlikeRaws w.meta.table v.meta.table) (if b then and_then (event_added w s done c) (λ x. events_from most w s x.0 x.1) else Ok done) (if b then and_then (event_added v r others c) (λ x. events_from most v r x.0 x.1) else Ok others)
      by true h = h
      by false h = raws

-- ---- packets

module _ (m n : TraceMetaModel) (sm : IsSoundMeta m) (sn : IsSoundMeta n) (same : IsSameTrace m n) where
  packet_alike : (rest : List ℕ) (span : PacketSpan) (h k : PacketHead) → AlikePacketHead m n sm sn same h k → AnswersBoth (AlikeRaws m.table n.table) (packet_events m rest span h) (packet_events n rest span k)
  unfolding packet_events
  packet_alike rest span h k a =
      events_alike (within m rest span h) (within n rest span k) (record { left = sm; right = sn; same = same; bytes = refl; end = refl; stream = a.stream; parts = a.parts; cpu = refl }) span.content_bits (cleared h.scopes) (cleared k.scopes) [] [] _ _
      (record { packet_header = a.scopes.packet_header; packet_context = a.scopes.packet_context; event_header = tt; stream_context = tt; event_context = tt; event_fields = tt }) tt refl

  as_packets : (x y : Result (List RawEvent) Cause) → AnswersBoth (AlikeRaws m.table n.table) x y → AlikePackets m.table n.table (as_packet x) (as_packet y)
  as_packets (Ok rs) (Ok ss) h = h
  as_packets (Ok rs) (Err d) h = absurd h
  as_packets (Err c) (Ok ss) h = absurd h
  as_packets (Err c) (Err d) h = h

  -- what a packet holds
  pub decoded_alike : (file : List ℕ) (span : PacketSpan) → AlikePackets m.table n.table (decoded m file span) (decoded n file span)
  unfolding decoded
  decoded_alike file span =
      as_packets _ _ (then_alike (AlikePacketHead m n sm sn same) (AlikeRaws m.table n.table) _ _ _ _ (same_heading m n sm sn same (drop span.offset file)) (λ h k a. packet_alike (drop span.offset file) span h k a))
