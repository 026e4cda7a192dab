-- Fields that are passed over, and events that are read without them.
use Rattle.std.proofs.Common.{◌≡◌, ◌∙◌, ℕ, ◌+◌, ◌%◌, ◌^◌, ◌≤◌, ◌&&◌, false, true, is_none, nat_eq, if◌then◌else◌, List, Option, None, Some, IfSome, Result, Ok, Err, refl, sym, ap, arith}
use Rattle.ctf_fields.specs.declared.error.FieldError.TheVariants.{ShortContent, NoVariant, TooLong, OutOfMemory}
use Rattle.ctf_fields.specs.declared.field.Field.{Field}
use Rattle.ctf_fields.specs.Fields.{Scopes}
use Rattle.read_plan.specs.FixedSizes.{FieldsTake, Passes}
use Rattle.read_plan.specs.Placed.{AreKeptOrAt, IsReadFrom}
use Rattle.ctf_fields.specs.Reading.{Reads, Got, Fails, as_read, scope_read}
use Rattle.ctf_fields.specs.declared.raw.RawEvent.{RawEvent}
use Rattle.read_plan.proofs.Passing.{as_passes}
use Rattle.type_table.specs.PerScope.{with_scope}
use Rattle.type_table.specs.Table.{Table}
use Rattle.type_table.specs.declared.meta.ScopeName.TheVariants.{EventContext, EventHeader, StreamContext}
use Rattle.type_table.specs.declared.declared.EventParts.{EventParts}
use Rattle.packet_decoder.specs.declared.events.Cursor.{Cursor}
use Rattle.packet_decoder.specs.declared.events.EventHead.{EventHead}
use Rattle.packet_decoder.specs.declared.events.ReadEvent.{ReadEvent}
use Rattle.packet_decoder.specs.Events.{PacketModel, as_result, event, event_body, event_fields, event_head, event_timed, field_or_none, from_of, scope_at}
use Rattle.packet_decoder.specs.declared.failure.Failure.{Failure}
use Rattle.packet_decoder.specs.declared.failure.Failure.TheVariants.{Refused}
use Rattle.packet_decoder.specs.declared.failure.Failure.TheVariants.{OutOfMemory as NoMemory}
use Rattle.packet_decoder.specs.EventReaders.{EndsAs, EventPassedAs, EventReadAs, FieldsReadAs, HeadToldAs, IsHeadReadAs, IsReadAs, is_bare}
use Rattle.packet_decoder.specs.PacketHeads.{and_then, read_scope}
use Rattle.packet_decoder.proofs.PlannedHeads.{body_same}
use Rattle.packet_decoder.specs.Times.{in_range, rate_of, time_after, time_of}
use Rattle.type_table.specs.TraceMetas.{TraceMetaModel}
use Rattle.trace_types.specs.declared.cause.Cause.{Cause}
use Rattle.trace_types.specs.declared.cause.Cause.TheVariants as cause

-- the fields of an event take so many bits
pub passes_scope : (w : PacketModel) (s : Scopes) (ty : Option ℕ) (at bits : ℕ) → FieldsTake w.meta.table ty bits → at % 8 ≡ 0 → Passes (read_scope (from_of w s) ty at) at bits w.end
passes_scope w s None at bits h whole = (omega (arith, h), λ some. absurd (omega (arith, h, some)))
passes_scope w s (Some ty) at bits h whole = as_passes Some (scope_read (from_of w s) ty at) at bits w.end (h w.bytes w.end s at whole)

-- all of them lie before the end
pub passed : (x : Reads (Option Field)) (at bits end next : ℕ) → Passes x at bits end → next ≡ at + bits → (1 ≤ bits → at + bits ≤ end) → (whole : Option Field) × (as_result x ≡ Ok (whole, next))
passed (Got f bit) at bits end next h is fits = (f, ap (λ b. Ok (f, b)) (h.0 ∙ sym is))
passed (Fails ShortContent) at bits end next h is fits = absurd (omega (arith, h.0, h.1, fits h.0))
passed (Fails NoVariant) at bits end next h is fits = absurd h
passed (Fails TooLong) at bits end next h is fits = absurd h
passed (Fails OutOfMemory) at bits end next h is fits = absurd h

-- what is read of the fields of an event is what stands from their first bit on
pub read_from : (w : PacketModel) (s : Scopes) (ty : Option ℕ) (at next : ℕ) (whole : Option Field) → scope_at w s ty at ≡ Ok (whole, next) → IsReadFrom w.meta.table w.bytes w.end ty at (field_or_none whole)
read_from w s None at next whole is =
    let both : Path (Option Field × ℕ) (whole, next) (None, at) = cc in
    ap (λ p. field_or_none p.0) both
read_from w s (Some ty) at next whole is = by (scope_read (from_of w s) ty at) refl is
  where
    by : (x : Reads Field) → scope_read (from_of w s) ty at ≡ x → as_result (as_read Some x) ≡ Ok (whole, next) → IsReadFrom w.meta.table w.bytes w.end (Some ty) at (field_or_none whole)
    by (Got f bit) there is =
        let both : Path (Option Field × ℕ) (Some f, bit) (whole, next) = cc in
        (s, bit, there ∙ ap (λ p. Got (field_or_none p.0) bit) both)
    by (Fails e) there is = absurd (cc)

-- the first bit of fields that were passed over is small
at_within : (t : Table) (bytes : List ℕ) (end : ℕ) (ty skip : Option ℕ) (whole kept : Field) (from : Option ℕ) → AreKeptOrAt t bytes end ty skip whole kept from → IfSome from (λ at. at ≤ 2 ^ 63)
at_within t bytes end ty skip whole kept None fields = tt
at_within t bytes end ty skip whole kept (Some at) fields = fields.1

pub begins_within : (m : TraceMetaModel) (bytes : List ℕ) (end : ℕ) (skips : List (Option ℕ)) (whole : RawEvent) (read : ReadEvent) → IsReadAs m bytes end skips whole read → IfSome read.fields_at (λ at. at ≤ 2 ^ 63)
begins_within m bytes end skips whole read is = at_within m.table bytes end is.fields.parts.fields _ whole.fields read.raw.fields read.fields_at is.fields.fields

-- an event of whose parts each is read, its header with its fields or without
pub event_read : (w : PacketModel) (s : Scopes) (c : Cursor) (first head : EventHead) (whole : Option Field) (at clock time : ℕ) → IsHeadReadAs w.meta.table first head → event_head w s c.at ≡ Ok first
    → event_body w (with_scope EventHeader head.header s) head.parts head.at ≡ Ok (whole, at) → nat_eq at c.at ≡ false → time_after w.meta head.timestamp c.clock ≡ Ok (clock, time)
    → event w s c ≡ Ok (record { time = time; cpu = w.cpu; event = head.event; fields = field_or_none whole }, record { clock = clock; at = at })
unfolding event
event_read w s c first head whole at clock time read heads bodies moved times =
    ap (λ x. and_then x (λ h. and_then (event_body w (with_scope EventHeader h.header s) h.parts h.at) (λ body. event_timed w c h body.0 body.1))) heads
    ∙ ap (λ x. and_then x (λ body. event_timed w c first body.0 body.1)) (sym (body_same w s first head read) ∙ bodies)
    ∙ ap (λ b. if b then Err cause.NoBits else and_then (time_after w.meta first.timestamp c.clock) (λ t. Ok (record { time = t.1; cpu = w.cpu; event = first.event; fields = field_or_none whole }, record { clock = t.0; at = at }))) moved
    ∙ ap (λ x. and_then x (λ t. Ok (record { time = t.1; cpu = w.cpu; event = first.event; fields = field_or_none whole }, record { clock = t.0; at = at }))) (ap (λ t. time_after w.meta t c.clock) (sym read.timestamp) ∙ times)
    ∙ ap (λ e. Ok (record { time = time; cpu = w.cpu; event = e; fields = field_or_none whole }, record { clock = clock; at = at })) (sym read.event)

-- what stands after a header refuses, or takes no bit, or its time does
pub body_refused : (w : PacketModel) (s : Scopes) (c : Cursor) (first head : EventHead) (e : Cause) → IsHeadReadAs w.meta.table first head → event_head w s c.at ≡ Ok first
    → event_body w (with_scope EventHeader head.header s) head.parts head.at ≡ Err e → event w s c ≡ Err e
unfolding event
body_refused w s c first head e read heads bodies =
    ap (λ x. and_then x (λ h. and_then (event_body w (with_scope EventHeader h.header s) h.parts h.at) (λ body. event_timed w c h body.0 body.1))) heads
    ∙ ap (λ x. and_then x (λ body. event_timed w c first body.0 body.1)) (sym (body_same w s first head read) ∙ bodies)

pub no_bits : (w : PacketModel) (s : Scopes) (c : Cursor) (first head : EventHead) (whole : Option Field) (at : ℕ) → IsHeadReadAs w.meta.table first head → event_head w s c.at ≡ Ok first
    → event_body w (with_scope EventHeader head.header s) head.parts head.at ≡ Ok (whole, at) → nat_eq at c.at ≡ true → event w s c ≡ Err cause.NoBits
unfolding event
no_bits w s c first head whole at read heads bodies still =
    ap (λ x. and_then x (λ h. and_then (event_body w (with_scope EventHeader h.header s) h.parts h.at) (λ body. event_timed w c h body.0 body.1))) heads
    ∙ ap (λ x. and_then x (λ body. event_timed w c first body.0 body.1)) (sym (body_same w s first head read) ∙ bodies)
    ∙ ap (λ b. if b then Err cause.NoBits else and_then (time_after w.meta first.timestamp c.clock) (λ t. Ok (record { time = t.1; cpu = w.cpu; event = first.event; fields = field_or_none whole }, record { clock = t.0; at = at }))) still

pub time_refused : (w : PacketModel) (s : Scopes) (c : Cursor) (first head : EventHead) (whole : Option Field) (at : ℕ) (e : Cause) → IsHeadReadAs w.meta.table first head → event_head w s c.at ≡ Ok first
    → event_body w (with_scope EventHeader head.header s) head.parts head.at ≡ Ok (whole, at) → nat_eq at c.at ≡ false → time_after w.meta head.timestamp c.clock ≡ Err e → event w s c ≡ Err e
unfolding event
time_refused w s c first head whole at e read heads bodies moved times =
    ap (λ x. and_then x (λ h. and_then (event_body w (with_scope EventHeader h.header s) h.parts h.at) (λ body. event_timed w c h body.0 body.1))) heads
    ∙ ap (λ x. and_then x (λ body. event_timed w c first body.0 body.1)) (sym (body_same w s first head read) ∙ bodies)
    ∙ ap (λ b. if b then Err cause.NoBits else and_then (time_after w.meta first.timestamp c.clock) (λ t. Ok (record { time = t.1; cpu = w.cpu; event = first.event; fields = field_or_none whole }, record { clock = t.0; at = at }))) moved
    ∙ ap (λ x. and_then x (λ t. Ok (record { time = t.1; cpu = w.cpu; event = first.event; fields = field_or_none whole }, record { clock = t.0; at = at }))) (ap (λ t. time_after w.meta t c.clock) (sym read.timestamp) ∙ times)

-- what stands after a header can't be read, and so the event can't be
pub by_fields : (skips : List (Option ℕ)) (ty skip : Option ℕ) (w : PacketModel) (s : Scopes) (c : Cursor) (first head : EventHead) (e : Failure) → IsHeadReadAs w.meta.table first head → event_head w s c.at ≡ Ok first
    → FieldsReadAs w ty skip (event_body w (with_scope EventHeader head.header s) head.parts head.at) (Err e) → EventReadAs w skips (event w s c) (Err e)
by_fields skips ty skip w s c first head (Refused cause) read heads bodies = body_refused w s c first head cause read heads bodies
by_fields skips ty skip w s c first head NoMemory read heads bodies = tt

-- where nothing is declared to stand after a header, nothing does
nothing_behind : (w : PacketModel) (s : Scopes) (parts : EventParts) (at : ℕ) → w.parts.event_context ≡ None → parts.context ≡ None → parts.fields ≡ None → event_body w s parts at ≡ Ok (None, at)
unfolding event_body event_fields
nothing_behind w s parts at outer context fields =
    ap (λ ty. and_then (scope_at w s ty at) (λ x. event_fields w (with_scope StreamContext x.0 s) parts x.1)) outer
    ∙ ap (λ ty. and_then (scope_at w (with_scope StreamContext None s) ty at) (λ x. scope_at w (with_scope EventContext x.0 (with_scope StreamContext None s)) parts.fields x.1)) context
    ∙ ap (λ ty. scope_at w (with_scope EventContext None (with_scope StreamContext None s)) ty at) fields

all_none : (a b c : Option ℕ) → is_none a && is_none b && is_none c ≡ true → (a ≡ None) × (b ≡ None) × (c ≡ None)
all_none None None None bare = (refl, refl, refl)
all_none None None (Some c) bare = absurd (cc)
all_none None (Some b) c bare = absurd (cc)
all_none (Some a) b c bare = absurd (cc)

pub bare_ends : (w : PacketModel) (s : Scopes) (parts : EventParts) (at : ℕ) → true ≡ is_bare w parts → EndsAs (event_body w s parts at) (Ok at)
bare_ends w s parts at bare =
    let none = all_none w.parts.event_context parts.context parts.fields (sym bare) in
    (None, nothing_behind w s parts at none.0 none.1 none.2)

-- the end of what stands after a header, by how it is read
pub ends_as : (w : PacketModel) (ty skip : Option ℕ) (x : Result (Option Field × ℕ) Cause) (e : Failure) → FieldsReadAs w ty skip x (Err e) → EndsAs x (Err e)
ends_as w ty skip x (Refused cause) h = h
ends_as w ty skip x NoMemory h = tt

-- what stands after a header can't be read, and so the event can't be passed over
pub by_end : (w : PacketModel) (s : Scopes) (c : Cursor) (first head : EventHead) (e : Failure) → IsHeadReadAs w.meta.table first head → event_head w s c.at ≡ Ok first
    → EndsAs (event_body w (with_scope EventHeader head.header s) head.parts head.at) (Err e) → EventPassedAs (event w s c) (Err e)
by_end w s c first head (Refused cause) read heads bodies = body_refused w s c first head cause read heads bodies
by_end w s c first head NoMemory read heads bodies = tt

-- a header can't be read, and so the event can't be passed over
pub by_head : (w : PacketModel) (s : Scopes) (c : Cursor) (e : Failure) → HeadToldAs w (event_head w s c.at) (Err e) → EventPassedAs (event w s c) (Err e)
unfolding event
by_head w s c (Refused cause) heads = ap (λ x. and_then x (λ h. and_then (event_body w (with_scope EventHeader h.header s) h.parts h.at) (λ body. event_timed w c h body.0 body.1))) heads
by_head w s c NoMemory heads = tt

-- without a timestamp the clock's value stays
pub unstamped : (meta : TraceMetaModel) (clock value time : ℕ) → time_after meta None clock ≡ Ok (value, time) → time_after meta None clock ≡ Ok (clock, time)
unfolding time_after
unstamped meta clock value time is = is ∙ ap (λ v. Ok (v, time)) (by (in_range (time_of (rate_of meta None) clock)) is)
  where
    by : (x : Result ℕ Cause) → and_then {B = ℕ × ℕ} x (λ t. Ok (clock, t)) ≡ Ok (value, time) → value ≡ clock
    by (Ok t) is = let both : Path (ℕ × ℕ) (value, time) (clock, t) = cc in ap (λ p. p.0) both
    by (Err cause) is = absurd (cc)
