-- The events of a packet into whose context no type looks are the same without its fields.
use Rattle.std.proofs.Common.{◌≡◌, ◌∙◌, ℕ, zero, suc, if◌then◌else◌, nat_lt, List, [], ◌∷◌, ◌++◌, Option, None, Result, Ok, Err, drop, refl, sym, ap}
use Rattle.type_table.specs.PerScope.{with_scope}
use Rattle.type_table.specs.TraceMetas.{TraceMetaModel}
use Rattle.type_table.specs.declared.meta.ScopeName.TheVariants.{EventHeader, PacketContext}
use Rattle.ctf_fields.specs.declared.field.Field.{Field}
use Rattle.ctf_fields.specs.declared.raw.RawEvent.{RawEvent}
use Rattle.ctf_fields.specs.Fields.{Scopes}
use Rattle.read_plan.specs.Lone.{HasLoneContexts}
use Rattle.trace_types.specs.declared.cause.Cause.{Cause}
use Rattle.packet_decoder.specs.declared.events.Cursor.{Cursor}
use Rattle.packet_decoder.specs.declared.failure.Failure.{Failure}
use Rattle.packet_decoder.specs.declared.failure.Failure.TheVariants as failure
use Rattle.packet_decoder.specs.declared.packet_head.PacketHead.{PacketHead}
use Rattle.packet_decoder.specs.declared.packet_head.ToldPacketHead.{ToldPacketHead}
use Rattle.packet_decoder.specs.declared.piece.PacketSpan.{PacketSpan}
use Rattle.packet_decoder.specs.declared.piece.PacketResult.TheVariants as packet
use Rattle.packet_decoder.specs.Events.{PacketModel, as_packet, decoded, event, event_added, event_body, event_head, event_of, event_timed, events_from, head_by, packet_events, within}
use Rattle.packet_decoder.specs.PacketHeads.{Answers, and_then, packet_head}
use Rattle.packet_decoder.specs.ToldHeads.{HeadOpenedAs, PacketToldAs, whole_head}
use Rattle.packet_decoder.proofs.Alone.{IsUnseen, after, body_alone, scope_alone}

module _ (w : PacketModel) (context : Option Field) (lone : HasLoneContexts w.meta.table) where
  abbrev change : Scopes → Scopes
  change s = with_scope PacketContext context s

  unseen : IsUnseen w change
  unseen = record { reads = λ s ty at. lone w.bytes w.end s context ty at; stream = λ x s. refl; event = λ x s. refl }

  head_alone : (s : Scopes) (at : ℕ) → event_head w (change s) at ≡ event_head w s at
  unfolding event_head
  head_alone s at = ap (λ r. and_then r (λ h. head_by w h.0 h.1 (event_of w.meta w.stream h.0))) (scope_alone w change unseen s w.parts.event_header at)

  event_alone : (s : Scopes) (c : Cursor) → event w (change s) c ≡ event w s c
  unfolding event
  event_alone s c =
      ap (λ r. and_then r (λ head. and_then (event_body w (with_scope EventHeader head.header (change s)) head.parts head.at) (λ body. event_timed w c head body.0 body.1))) (head_alone s c.at)
      ∙ after (event_head w s c.at) _ _ (λ head. ap (λ r. and_then r (λ body. event_timed w c head body.0 body.1)) (body_alone w change unseen (with_scope EventHeader head.header s) head.parts head.at))

  pub events_alone : (n : ℕ) (s : Scopes) (done : List RawEvent) (c : Cursor) → events_from n w (change s) done c ≡ events_from n w s done c
  unfolding events_from
  events_alone zero s done c = refl
  events_alone (suc n) s done c =
      ap (λ r. if nat_lt c.at w.end then and_then r (λ (x : List RawEvent × Cursor). events_from n w (change s) x.0 x.1) else Ok done) (ap (λ x. and_then x (λ (r : RawEvent × Cursor). Ok (done ++ r.0 ∷ [], r.1))) (event_alone s c))
      ∙ ap (λ x. if nat_lt c.at w.end then x else Ok done) (after (event_added w s done c) _ _ (λ (x : List RawEvent × Cursor). events_alone n s x.0 x.1))

-- without the fields of its context a packet has the same events
same_events : (meta : TraceMetaModel) (rest : List ℕ) (span : PacketSpan) (told : ToldPacketHead) (context : Option Field) → HasLoneContexts meta.table
    → packet_events meta rest span (whole_head told context) ≡ packet_events meta rest span (whole_head told None)
unfolding packet_events
same_events meta rest span told context lone =
    events_alone (within meta rest span (whole_head told None)) context lone span.content_bits (whole_head told None).scopes [] (record { clock = span.begin; at = span.start_bit })

-- so they are read after a head that was told
pub opened_told : (meta : TraceMetaModel) (rest : List ℕ) (span : PacketSpan) (told : ToldPacketHead) (h : PacketHead) → HasLoneContexts meta.table → PacketToldAs meta.table (packet_head meta rest) (Ok told) → h ≡ whole_head told None → HeadOpenedAs meta rest span (Ok h)
opened_told meta rest span told h lone read is =
    ap (λ r. and_then r (packet_events meta rest span)) read.1 ∙ same_events meta rest span told read.0 lone ∙ ap (packet_events meta rest span) (sym is)

pub refused_told : (meta : TraceMetaModel) (rest : List ℕ) (span : PacketSpan) (e : Failure) → PacketToldAs meta.table (packet_head meta rest) (Err e) → HeadOpenedAs meta rest span (Err e)
refused_told meta rest span (failure.Refused cause) read = ap (λ r. and_then r (packet_events meta rest span)) read
refused_told meta rest span failure.OutOfMemory read = tt

-- and after one that was read
pub opened_read : (meta : TraceMetaModel) (rest : List ℕ) (span : PacketSpan) (r : Result PacketHead Failure) → Answers (packet_head meta rest) r → HeadOpenedAs meta rest span r
opened_read meta rest span (Ok h) read = ap (λ x. and_then x (packet_events meta rest span)) read
opened_read meta rest span (Err (failure.Refused cause)) read = ap (λ x. and_then x (packet_events meta rest span)) read
opened_read meta rest span (Err failure.OutOfMemory) read = tt

-- a packet whose head is refused is refused for the same cause
pub refuses : {A : Type 0} (meta : TraceMetaModel) (file : List ℕ) (span : PacketSpan) (cause : Cause) (e : Failure) → Path (Result A Failure) (Err (failure.Refused cause)) (Err e) → HeadOpenedAs meta (drop span.offset file) span (Err e) → decoded meta file span ≡ packet.Refused cause
unfolding decoded
refuses meta file span cause (failure.Refused other) same h = let is : cause ≡ other = cc in ap as_packet h ∙ ap (λ x. packet.Refused x) (sym is)
refuses meta file span cause failure.OutOfMemory same h = absurd (cc)
