-- Every event that is decoded has a time from 1 to 2^62 - 1, its host, a processor below 2^32, and a kind that fits a line.
use Rattle.std.proofs.Common.{◌≡◌, ℕ, ℤ, pos, negsuc, zero, suc, ◌<◌, ◌≤◌, ◌^◌, Bool, true, false, if◌then◌else◌, List, [], ◌∷◌, ◌++◌, codes, length, Option, Some, None, Result, Ok, Err, map, nat_lt, refl, ap, sym, subst, arith, lit<}
use Rattle.std.specs.Prelude.{◌&&◌, ◌==◌, ◌+◌, ◌*◌, nat_eq, nat_le, not, drop, unwrap_or}
use Rattle.std.specs.List.{AllByRecursion}
use Rattle.std.proofs.lemmas.Bool.{leb-true}
use Rattle.type_table.specs.PerScope.{with_scope}
use Rattle.type_table.specs.TraceMetas.{TraceMetaModel}
use Rattle.type_table.specs.declared.meta.ScopeName.TheVariants.{EventHeader}
use Rattle.trace_types.specs.declared.event.Event.{Event}
use Rattle.trace_types.specs.declared.cause.Cause.{Cause}
use Rattle.trace_types.specs.declared.cause.Cause.TheVariants as cause
use Rattle.ctf_fields.specs.declared.field.Field.{Field}
use Rattle.ctf_fields.specs.declared.raw.RawEvent.{RawEvent}
use Rattle.packet_decoder.specs.declared.events.Cursor.{Cursor}
use Rattle.packet_decoder.specs.declared.events.EventHead.{EventHead}
use Rattle.packet_decoder.specs.declared.piece.PacketSpan.{PacketSpan}
use Rattle.packet_decoder.specs.declared.piece.PacketResult.{PacketResult}
use Rattle.packet_decoder.specs.declared.piece.PacketResult.TheVariants as result
use Rattle.packet_decoder.specs.declared.piece.Piece.{Piece}
use Rattle.packet_decoder.specs.declared.piece.Piece.TheVariants as piece
use Rattle.packet_decoder.specs.declared.times.Timestamp.{Timestamp}
use Rattle.packet_decoder.specs.PacketHeads.{and_then, packet_head}
use Rattle.packet_decoder.specs.Times.{clock_after, clock_of, in_range, rate_of, time_of, time_after}
use Rattle.packet_decoder.specs.Events.{PacketModel, as_packet, cleared, decoded, event, event_added, event_body, event_head, event_timed, events_from, field_or_none, packet_events, within}
use Rattle.decode_pool.specs.declared.decoded_packet.AcceptedPacket.{AcceptedPacket}
use Rattle.decode_pool.specs.declared.decoded_packet.DecodedPacket.{DecodedPacket}
use Rattle.decode_pool.specs.declared.decoded_packet.DecodedPacket.TheVariants as part
use Rattle.decode_pool.specs.declared.lost_events.LostEvents.{LostEvents}
use Rattle.decode_pool.specs.declared.lost_events.Counts.{Counts}
use Rattle.decode_pool.specs.declared.files.FileBytes.{FileBytes}
use Rattle.decode_pool.specs.Parts.{event_of, part_by, part_of, parts_of}
use Rattle.trace_types.specs.declared.event.KernelEvent.TheVariants.{Lost}
use Rattle.decode_pool.specs.Marks.{added, added_by, plus_lost, counts_of, file_events, accepted_in, left, listed, mark, no_counts, nothing_lost}
use Rattle.decode_pool.specs.Hosts.{all_events}
use Rattle.packet_decoder.specs.Pieces.{packet_at, pieces, pieces_by, pieces_from, span_by, span_of}
use Rattle.packet_decoder.specs.declared.packet_head.PacketHead.{PacketHead}
use Rattle.ctf_fields.specs.Values.{below_if_any, value_named}
use Rattle.type_table.specs.Table.{Table}
use Rattle.host_sync.proofs.KindRanges.{Fits, kind_fits}
use Rattle.host_sync.proofs.Ranges.{lies}
use Rattle.ctf_fields.specs.Fields.{Scopes}

abbrev pub InTime : ℕ → Type 0
InTime t = (1 ≤ t) × (t < 2 ^ 62)

-- what is done with an answer was done with one
made : {A B : Type 0} (x : Result A Cause) (f : A → Result B Cause) (r : B) → and_then x f ≡ Ok r → (a : A) × (x ≡ Ok a) × (f a ≡ Ok r)
made (Ok a) f r e = (a, refl, e)
made (Err c) f r e = absurd (cc)

abbrev okay : {A : Type 0} → A → Result A Cause
okay x = Ok x

from_okay : {A : Type 0} (x y : A) → okay x ≡ okay y → x ≡ y
from_okay x y e = cc

ranged : (z : ℤ) (n : ℕ) → in_range z ≡ Ok n → InTime n
ranged (pos m) n e = by (nat_le 1 m) (nat_le m 4611686018427387903) refl refl e
  where
    by : (b c : Bool) → nat_le 1 m ≡ b → nat_le m 4611686018427387903 ≡ c → (if b && c then Ok m else Err cause.TimeRange) ≡ Ok n → InTime n
    by true true l h e = let same : m ≡ n = cc in (omega (arith, same, leb-true 1 m l), omega (arith, same, leb-true m 4611686018427387903 h))
    by true false l h e = absurd (cc)
    by false c l h e = absurd (cc)
ranged (negsuc m) n e = absurd (cc)

timed_ranged : (meta : TraceMetaModel) (timestamp : Option Timestamp) (clock : ℕ) (r : ℕ × ℕ) → time_after meta timestamp clock ≡ Ok r → InTime r.1
unfolding time_after
timed_ranged meta timestamp clock r e =
    let one = made (clock_after clock timestamp) _ r e in
    let two = made (in_range (time_of (rate_of meta (clock_of timestamp)) one.0)) (λ time. Ok (one.0, time)) r one.2 in
    subst InTime (ap (λ p. p.1) (from_okay (one.0, two.0) r two.2)) (ranged (time_of (rate_of meta (clock_of timestamp)) one.0) two.0 two.1)

-- the event of a packet of this processor
abbrev Raw : ℕ → RawEvent → Type 0
Raw cpu r = InTime r.time × (r.cpu ≡ cpu)

event_ranged : (w : PacketModel) (c : Cursor) (head : EventHead) (fields : Option Field) (at : ℕ) (r : RawEvent × Cursor) → event_timed w c head fields at ≡ Ok r → Raw w.cpu r.0
event_ranged w c head fields at r e = by (nat_eq at c.at) e
  where
    by : (b : Bool) → (if b then Err cause.NoBits else and_then (time_after w.meta head.timestamp c.clock) (λ t. Ok (record { time = t.1; cpu = w.cpu; event = head.event; fields = field_or_none fields }, record { clock = t.0; at = at }))) ≡ Ok r → Raw w.cpu r.0
    by true e = absurd (cc)
    by false e =
        let t = made (time_after w.meta head.timestamp c.clock) _ r e in
        (subst InTime (ap (λ p. p.0.time) (from_okay _ r t.2)) (timed_ranged w.meta head.timestamp c.clock t.0 t.1), sym (ap (λ p. p.0.cpu) (from_okay _ r t.2)))

one_ranged : (w : PacketModel) (s : Scopes) (c : Cursor) (r : RawEvent × Cursor) → event w s c ≡ Ok r → Raw w.cpu r.0
unfolding event
one_ranged w s c r e =
    let head = made (event_head w s c.at) _ r e in
    let body = made (event_body w (with_scope EventHeader head.0.header s) head.0.parts head.0.at) _ r head.2 in
    event_ranged w c head.0 body.0.0 body.0.1 r body.2

all_both : {A : Type 0} (P : A → Type 0) (xs ys : List A) → AllByRecursion P xs → AllByRecursion P ys → AllByRecursion P (xs ++ ys)
all_both P [] ys h g = g
all_both P (x ∷ xs) ys h g = (h.0, all_both P xs ys h.1 g)

from_ranged : (most : ℕ) (w : PacketModel) (s : Scopes) (done : List RawEvent) (c : Cursor) (es : List RawEvent) → AllByRecursion (Raw w.cpu) done → events_from most w s done c ≡ Ok es → AllByRecursion (Raw w.cpu) es
unfolding events_from
from_ranged zero w s done c es h e = subst (AllByRecursion (Raw w.cpu)) (from_okay done es e) h
from_ranged (suc most) w s done c es h e = by (nat_lt c.at w.end) (λ d k g f. from_ranged most w s d k es g f) e
  where
    by : (b : Bool) → ((d : List RawEvent) (k : Cursor) → AllByRecursion (Raw w.cpu) d → events_from most w s d k ≡ Ok es → AllByRecursion (Raw w.cpu) es)
        → (if b then and_then (event_added w s done c) (λ r. events_from most w s r.0 r.1) else Ok done) ≡ Ok es → AllByRecursion (Raw w.cpu) es
    by true rest e =
        let added = made (event_added w s done c) (λ r. events_from most w s r.0 r.1) es e in
        let one = made (event w s c) (λ r. Ok (done ++ r.0 ∷ [], r.1)) added.0 added.1 in
        rest added.0.0 added.0.1 (subst (AllByRecursion (Raw w.cpu)) (ap (λ p. p.0) (from_okay _ added.0 one.2)) (all_both (Raw w.cpu) done (one.0.0 ∷ []) h (one_ranged w s c one.0 one.1, tt))) added.2
    by false rest e = subst (AllByRecursion (Raw w.cpu)) (from_okay done es e) h

packet_ranged : (x : Result (List RawEvent) Cause) (raws : List RawEvent) → as_packet x ≡ result.Events raws → x ≡ Ok raws
packet_ranged (Ok es) raws e = cc
packet_ranged (Err c) raws e = absurd (cc)

decoded_ranged : (meta : TraceMetaModel) (file : List ℕ) (span : PacketSpan) (raws : List RawEvent) → decoded meta file span ≡ result.Events raws → AllByRecursion (Raw span.cpu) raws
unfolding decoded packet_events
decoded_ranged meta file span raws e =
    let h = made (packet_head meta (drop span.offset file)) (packet_events meta (drop span.offset file) span) raws (packet_ranged _ raws e) in
    from_ranged span.content_bits (within meta (drop span.offset file) span h.0) (cleared h.0.scopes) [] _ raws tt h.2

-- an event of a host, as it stands on a line
pub record IsDecoded (host : ℕ) (meta : TraceMetaModel) (e : Event) : Type 0 where
  pub time : InTime e.time
  pub host_is : e.host ≡ host
  pub cpu : e.cpu < 2 ^ 32
  pub kind : Fits meta.declared.event_names e.kind

abbrev KeptGood : ℕ → TraceMetaModel → AcceptedPacket → Type 0
KeptGood host meta k = (k.cpu < 2 ^ 32) × AllByRecursion (IsDecoded host meta) k.events

abbrev PartGood : ℕ → TraceMetaModel → DecodedPacket → Type 0
PartGood host meta (part.Accepted k) = KeptGood host meta k
PartGood host meta (part.Refused offset cause) = Unit {0}

mapped : (host : ℕ) (meta : TraceMetaModel) (cpu : ℕ) (raws : List RawEvent) → cpu < 2 ^ 32 → AllByRecursion (Raw cpu) raws → AllByRecursion (IsDecoded host meta) (map (event_of host meta) raws)
mapped host meta cpu [] few h = tt
mapped host meta cpu (r ∷ rs) few h = (record { time = h.0.0; host_is = refl; cpu = subst (λ n. n < 2 ^ 32) (sym h.0.1) few; kind = kind_fits meta r }, mapped host meta cpu rs few h.1)

-- ---- the processors of packets

abbrev PieceCpu : Piece → Type 0
PieceCpu (piece.Packet span) = span.cpu < 2 ^ 32
PieceCpu (piece.Bad offset cause) = Unit {0}

or_zero : (o : Option ℤ) → unwrap_or (below_if_any 4294967296 o) 0 < 2 ^ 32
or_zero o = by (below_if_any 4294967296 o) refl
  where
    by : (x : Option ℕ) → below_if_any 4294967296 o ≡ x → unwrap_or x 0 < 2 ^ 32
    by (Some n) e = lies 4294967296 o n e
    by None e = lit< tt

span_cpu : (t : Table) (offset : ℕ) (context : Option Field) (h : PacketHead) (s : Option (ℕ × ℕ)) (span : PacketSpan) → span_by t offset context h s ≡ Ok span → span.cpu < 2 ^ 32
span_cpu t offset context h (Some s) span e = subst (λ n. n < 2 ^ 32) (ap (λ p. p.cpu) (from_okay _ span e)) (or_zero (value_named t (codes "cpu_id") context))
span_cpu t offset context h None span e = absurd (cc)

packet_cpu : (meta : TraceMetaModel) (offset : ℕ) (rest : List ℕ) (span : PacketSpan) → packet_at meta offset rest ≡ Ok span → span.cpu < 2 ^ 32
unfolding packet_at span_of
packet_cpu meta offset rest span e =
    let h = made (packet_head meta rest) (span_of meta.table offset (8 * length rest)) span e in
    span_cpu meta.table offset h.0.scopes.packet_context h.0 _ span h.2

pieces_cpu : (most : ℕ) (meta : TraceMetaModel) (offset : ℕ) (rest : List ℕ) → AllByRecursion PieceCpu (pieces_from most meta offset rest)
unfolding pieces_from
pieces_cpu zero meta offset rest = tt
pieces_cpu (suc most) meta offset [] = tt
pieces_cpu (suc most) meta offset (b ∷ rest) = by (packet_at meta offset (b ∷ rest)) refl (λ span. pieces_cpu most meta (offset + span.bytes) (drop span.bytes (b ∷ rest)))
  where
    by : (x : Result PacketSpan Cause) → packet_at meta offset (b ∷ rest) ≡ x → ((span : PacketSpan) → AllByRecursion PieceCpu (pieces_from most meta (offset + span.bytes) (drop span.bytes (b ∷ rest))))
        → AllByRecursion PieceCpu (pieces_by x offset (λ span. pieces_from most meta (offset + span.bytes) (drop span.bytes (b ∷ rest))))
    by (Ok span) e more = (packet_cpu meta offset (b ∷ rest) span e, more span)
    by (Err c) e more = (tt, tt)

-- ---- the events of pieces and of files

piece_good : (host : ℕ) (meta : TraceMetaModel) (file : List ℕ) (p : Piece) → PieceCpu p → PartGood host meta (part_of host meta file p)
unfolding part_of
piece_good host meta file (piece.Packet span) few = by (decoded meta file span) refl
  where
    by : (x : PacketResult) → decoded meta file span ≡ x → PartGood host meta (part_by host meta span x)
    by (result.Events raws) e = (few, mapped host meta span.cpu raws few (decoded_ranged meta file span raws e))
    by (result.Refused cause) e = tt
piece_good host meta file (piece.Bad offset cause) few = tt

parts_good : (host : ℕ) (meta : TraceMetaModel) (file : List ℕ) (ps : List Piece) → AllByRecursion PieceCpu ps → AllByRecursion (PartGood host meta) (map (part_of host meta file) ps)
parts_good host meta file [] few = tt
parts_good host meta file (p ∷ ps) few = (piece_good host meta file p few.0, parts_good host meta file ps few.1)

kept_good : (host : ℕ) (meta : TraceMetaModel) (ps : List DecodedPacket) → AllByRecursion (PartGood host meta) ps → AllByRecursion (KeptGood host meta) (accepted_in ps)
kept_good host meta [] h = tt
kept_good host meta (part.Accepted k ∷ ps) h = (h.0, kept_good host meta ps h.1)
kept_good host meta (part.Refused offset cause ∷ ps) h = kept_good host meta ps h.1

mark_good : (host : ℕ) (meta : TraceMetaModel) (k : AcceptedPacket) (first : Event) (lost : LostEvents) → lost.events < 2 ^ 64 → k.cpu < 2 ^ 32 → IsDecoded host meta first → AllByRecursion (IsDecoded host meta) (mark k first lost)
mark_good host meta k first lost few cpu is = by (lost.events == 0 && not lost.gap)
  where
    by : (b : Bool) → AllByRecursion (IsDecoded host meta) (if b then [] else record { time = first.time; host = first.host; cpu = k.cpu; kind = Lost lost.events lost.gap } ∷ [])
    by true = tt
    by false = (record { time = is.time; host_is = is.host_is; cpu = cpu; kind = λ bytes. (refl, few) }, tt)

added_good : (host : ℕ) (meta : TraceMetaModel) (k : AcceptedPacket) (lost : LostEvents) (es : List Event) → lost.events < 2 ^ 64 → k.cpu < 2 ^ 32 → AllByRecursion (IsDecoded host meta) es → AllByRecursion (IsDecoded host meta) (added_by k lost es)
added_good host meta k lost [] few cpu h = tt
added_good host meta k lost (e ∷ es) few cpu h = all_both (IsDecoded host meta) (mark k e lost) (e ∷ es) (mark_good host meta k e lost few cpu h.0) h

few_lost : (lost : LostEvents) (before now : Counts) → (plus_lost lost before now).events < 2 ^ 64
few_lost lost before now = omega arith

listed_good : (host : ℕ) (meta : TraceMetaModel) (before : Counts) (lost : LostEvents) (ks : List AcceptedPacket) → AllByRecursion (KeptGood host meta) ks → AllByRecursion (IsDecoded host meta) (listed before lost ks)
listed_good host meta before lost [] h = tt
listed_good host meta before lost (k ∷ ks) h =
    all_both (IsDecoded host meta) (added k (plus_lost lost before (counts_of k))) _ (added_good host meta k (plus_lost lost before (counts_of k)) k.events (few_lost lost before (counts_of k)) h.0.0 h.0.1) (listed_good host meta (counts_of k) (left k (plus_lost lost before (counts_of k))) ks h.1)

pub all_decoded : (host : ℕ) (meta : TraceMetaModel) (files : List FileBytes) → AllByRecursion (IsDecoded host meta) (all_events host meta files)
all_decoded host meta [] = tt
all_decoded host meta (f ∷ fs) =
    all_both (IsDecoded host meta) (file_events (parts_of host meta f.bytes.items)) _
    (listed_good host meta no_counts nothing_lost _ (kept_good host meta _ (parts_good host meta f.bytes.items (pieces meta f.bytes.items) (pieces_cpu (length f.bytes.items) meta 0 f.bytes.items))))
    (all_decoded host meta fs)
