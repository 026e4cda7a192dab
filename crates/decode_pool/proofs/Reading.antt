-- A packet's events, each made a kernel event as it is read.
use Rattle.std.proofs.Common.{◌≡◌, ◌∙◌, ℕ, ◌+◌, ◌≤◌, Bool, true, false, if◌then◌else◌, nat_le, List, [], ◌∷◌, ◌++◌, append_assoc, append-nil, length, map, Option, None, Some, Result, Ok, Err, refl, sym, ap, ap₂, subst, arith}
use Rattle.std.proofs.lemmas.Bool.{leb-true}
use Rattle.std.proofs.lemmas.List.{length-append}
use Rattle.type_table.specs.TraceMetas.{TraceMetaModel}
use Rattle.ctf_fields.specs.declared.raw.RawEvent.{RawEvent}
use Rattle.trace_types.specs.declared.event.Event.{Event}
use Rattle.trace_types.specs.declared.cause.Cause.{Cause}
use Rattle.packet_decoder.specs.Events.{as_packet}
use Rattle.packet_decoder.specs.EventReaders.{IsReadAs, and_before, refusal}
use Rattle.packet_decoder.specs.declared.piece.PacketSpan.{PacketSpan}
use Rattle.packet_decoder.specs.declared.events.ReadEvent.{ReadEvent}
use Rattle.kernel_layout.specs.Kinds.{kind_by, kind_of, name_of}
use Rattle.kernel_layout.specs.Tracepoints.{skips_of}
use Rattle.read_plan.specs.Placed.{AreFieldsOf}
use Rattle.ctf_fields.specs.declared.field.Field.{Field}
use Rattle.trace_types.specs.declared.event.KernelEvent.{KernelEvent}
use Rattle.decode_pool.specs.declared.decoded_packet.AcceptedPacket.{AcceptedPacket}
use Rattle.decode_pool.specs.declared.decoded_packet.DecodedPacket.{DecodedPacket}
use Rattle.decode_pool.specs.declared.decoded_packet.DecodedPacket.TheVariants as part
use Rattle.decode_pool.specs.Excess.{part_within}
use Rattle.decode_pool.specs.Parts.{event_of, incomplete_in, part_by}

-- a packet of which these events are made, and so many are incomplete
abbrev pub kept_so_far : PacketSpan → List Event → ℕ → AcceptedPacket
kept_so_far span events incomplete = record { cpu = span.cpu; seq = span.seq; discarded = span.discarded; events = events; incomplete = incomplete }

-- what the packet holds, with what is left of it
abbrev pub with_left : ℕ → TraceMetaModel → PacketSpan → List Event → ℕ → Result (List RawEvent) Cause → DecodedPacket
with_left host meta span events incomplete (Ok raws) = part.Accepted (kept_so_far span (events ++ map (event_of host meta) raws) (incomplete + incomplete_in meta raws))
with_left host meta span events incomplete (Err cause) = part.Refused span.offset cause

pub at_first : (host : ℕ) (meta : TraceMetaModel) (span : PacketSpan) (left : Result (List RawEvent) Cause) → part_by host meta span (as_packet left) ≡ with_left host meta span [] 0 left
at_first host meta span (Ok raws) = let e : 0 + incomplete_in meta raws ≡ incomplete_in meta raws = omega arith in ap (λ n. part.Accepted (kept_so_far span (map (event_of host meta) raws) n)) (sym e)
at_first host meta span (Err cause) = refl

lacking : TraceMetaModel → RawEvent → ℕ
lacking meta raw = if (kind_of meta raw).1 then 1 else 0

pub one_more : (host : ℕ) (meta : TraceMetaModel) (span : PacketSpan) (events : List Event) (incomplete n : ℕ) (raw : RawEvent) (left : Result (List RawEvent) Cause) → n ≡ (if (kind_of meta raw).1 then 1 else 0)
    → with_left host meta span events incomplete (and_before raw left) ≡ with_left host meta span (events ++ event_of host meta raw ∷ []) (incomplete + n) left
one_more host meta span events incomplete n raw (Ok raws) e =
    let sum : incomplete + ((if (kind_of meta raw).1 then 1 else 0) + incomplete_in meta raws) ≡ (incomplete + n) + incomplete_in meta raws = omega (arith, e) in
    ap₂ (λ es k. part.Accepted (kept_so_far span es k)) (sym (append_assoc events (event_of host meta raw ∷ []) (map (event_of host meta) raws))) sum
one_more host meta span events incomplete n raw (Err cause) e = refl

pub at_last : (host : ℕ) (meta : TraceMetaModel) (span : PacketSpan) (events : List Event) (incomplete : ℕ) → with_left host meta span events incomplete (Ok []) ≡ part.Accepted (kept_so_far span events incomplete)
at_last host meta span events incomplete = let none : incomplete + 0 ≡ incomplete = omega arith in ap₂ (λ es n. part.Accepted (kept_so_far span es n)) (append-nil events) none

-- an event that is made of what was read is what is made of it whole
pub one_event : (host : ℕ) (m meta : TraceMetaModel) (bytes bytes' : List ℕ) (end end' : ℕ) (skips : List (Option ℕ)) (read : ReadEvent) (whole : RawEvent) (kind : KernelEvent × Bool)
    → m ≡ meta → bytes' ≡ bytes → end' ≡ end → skips ≡ skips_of meta → IsReadAs m bytes end skips whole read
    → ((f : Field) → AreFieldsOf meta bytes' end' (skips_of meta) read.raw.event f read.raw.fields read.fields_at → kind ≡ kind_by meta (name_of meta read.raw.event) f)
    → (Path Event (record { time = read.raw.time; host = host; cpu = read.raw.cpu; kind = kind.0 }) (event_of host meta whole)) × (kind ≡ kind_of meta whole)
one_event host m meta bytes bytes' end end' skips read whole kind same_meta same_bytes same_end same_skips so kinds =
    let from_bytes = subst (λ x. AreFieldsOf m x end skips read.raw.event whole.fields read.raw.fields read.fields_at) (sym same_bytes) so.fields in
    let to_end = subst (λ x. AreFieldsOf m bytes' x skips read.raw.event whole.fields read.raw.fields read.fields_at) (sym same_end) from_bytes in
    let by_skips = subst (λ x. AreFieldsOf m bytes' end' x read.raw.event whole.fields read.raw.fields read.fields_at) same_skips to_end in
    let fields = subst (λ x. AreFieldsOf x bytes' end' (skips_of meta) read.raw.event whole.fields read.raw.fields read.fields_at) same_meta by_skips in
    let same : kind ≡ kind_of meta whole = kinds whole.fields fields ∙ ap (λ event. kind_by meta (name_of meta event) whole.fields) so.event in
    (by read.raw.time whole.time read.raw.cpu whole.cpu kind (kind_of meta whole) so.time so.cpu same, same)
  where
    by : (time time' cpu cpu' : ℕ) (k k' : KernelEvent × Bool) → time ≡ time' → cpu ≡ cpu' → k ≡ k' → Path Event (record { time = time; host = host; cpu = cpu; kind = k.0 }) (record { time = time'; host = host; cpu = cpu'; kind = k'.0 })
    by time time' cpu cpu' k k' t c e =
        ap (λ n. record { time = n; host = host; cpu = cpu; kind = k.0 }) t
        ∙ ap (λ n. record { time = time'; host = host; cpu = n; kind = k.0 }) c
        ∙ ap (λ n. record { time = time'; host = host; cpu = cpu'; kind = n.0 }) e

-- where so many events were read and one more follows, they are too many
pub too_many : (host : ℕ) (meta : TraceMetaModel) (span : PacketSpan) (events : List Event) (incomplete most : ℕ) (raw : RawEvent) (left : Result (List RawEvent) Cause) → most ≤ length events → refusal left ≡ None
    → part_within most (with_left host meta span events incomplete (and_before raw left)) ≡ None
too_many host meta span events incomplete most raw (Ok raws) many e = by (nat_le (length all) most) refl
  where
    all : List Event
    all = events ++ event_of host meta raw ∷ map (event_of host meta) raws

    by : (b : Bool) → nat_le (length all) most ≡ b → (if b then Some (part.Accepted (kept_so_far span all (incomplete + incomplete_in meta (raw ∷ raws)))) else None) ≡ None
    by true h = let within = leb-true (length all) most h in absurd (omega (arith, many, within, length-append events (event_of host meta raw ∷ map (event_of host meta) raws)))
    by false h = refl
too_many host meta span events incomplete most raw (Err cause) many e = absurd (cc)

-- where what stands behind an event is refused, the packet is
pub refused_behind : (host : ℕ) (meta : TraceMetaModel) (span : PacketSpan) (events : List Event) (incomplete : ℕ) (raw : RawEvent) (left : Result (List RawEvent) Cause) (cause : Cause) → refusal left ≡ Some cause
    → with_left host meta span events incomplete (and_before raw left) ≡ part.Refused span.offset cause
refused_behind host meta span events incomplete raw (Ok raws) cause e = absurd (cc)
refused_behind host meta span events incomplete raw (Err other) cause e = let same : other ≡ cause = cc in ap (part.Refused span.offset) same
