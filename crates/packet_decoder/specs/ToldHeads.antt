-- What stands before the events of a packet, where a context is read without keeping its fields (contexts are those of CTF 1.8, section 5.2; that they are read so is this project's own).
use Rattle.std.specs.Prelude.{◌≡◌, ℕ, ℤ, ◌%◌, ◌^◌, nat_eq, List, Option, Some, None, Result, Ok, Err, option_and_then, option_map, unwrap_or, if◌then◌else◌}
use Rattle.type_table.specs.Table.{Table}
use Rattle.type_table.specs.TraceMetas.{TraceMetaModel}
use Rattle.ctf_fields.specs.declared.field.Field.{Field}
use Rattle.ctf_fields.specs.declared.raw.RawEvent.{RawEvent}
use Rattle.read_plan.specs.Contexts.{IsContextPlan, IsReadableContext, context_numbers, plan_at}
use Rattle.read_plan.specs.declared.context.ContextPlan.{ContextPlan}
use Rattle.packet_decoder.specs.Events.{packet_events}
use Rattle.packet_decoder.specs.PacketHeads.{and_then, context_read, packet_head, with_context}
use Rattle.packet_decoder.specs.Pieces.{sizes}
use Rattle.packet_decoder.specs.Values.{below_if_any, counter_in}
use Rattle.trace_types.specs.declared.cause.Cause.{Cause}
use Rattle.trace_types.specs.declared.cause.Cause.TheVariants as cause
use Rattle.packet_decoder.specs.declared.failure.Failure.{Failure}
use Rattle.packet_decoder.specs.declared.failure.Failure.TheVariants as failure
use Rattle.packet_decoder.specs.declared.packet_head.JudgedHeader.{JudgedHeader}
use Rattle.packet_decoder.specs.declared.packet_head.PacketHead.{PacketHead}
use Rattle.packet_decoder.specs.declared.packet_head.ToldPacketHead.{ToldPacketHead}
use Rattle.packet_decoder.specs.declared.piece.PacketSpan.{PacketSpan}

-- a call answers a packet's header, behind which the context is left to be read; or it refuses as the packet is refused
abbrev pub HeaderJudgedAs : TraceMetaModel → List ℕ → Result PacketHead Cause → Result JudgedHeader Failure → Type 0
HeaderJudgedAs meta rest answer (Ok h) = answer ≡ context_read meta rest h.header h.at h.stream h.parts
HeaderJudgedAs meta rest answer (Err (failure.Refused cause)) = answer ≡ Err cause
HeaderJudgedAs meta rest answer (Err failure.OutOfMemory) = Unit {0}

-- by the plan a context of this type is read that begins at this bit, a whole byte
abbrev pub ContextFits : Table → Option ℕ → ℕ → ContextPlan → Type 0
ContextFits t None at plan = ⊥
ContextFits t (Some ty) at plan = (at % 8 ≡ 0) × IsReadableContext plan × IsContextPlan t ty plan

-- the plan by which a context of this type is read that begins at this bit, where it has one and this is a whole byte (this project's own)
abbrev pub plan_from : List (Option ContextPlan) → Option ℕ → ℕ → Option ContextPlan
plan_from plans ty at = if nat_eq (at % 8) 0 then option_and_then (plan_at plans) ty else None

-- the whole head of which these parts were told, with the fields of its context
abbrev pub whole_head : ToldPacketHead → Option Field → PacketHead
whole_head told context = record { scopes = with_context told.header context; start = told.start; stream = told.stream; parts = told.parts }

-- a call tells the head of a packet, and of its context the numbers; or it refuses as the packet is refused
abbrev pub PacketToldAs : Table → Result PacketHead Cause → Result ToldPacketHead Failure → Type 0
PacketToldAs t answer (Ok told) = (context : Option Field) × (answer ≡ Ok (whole_head told context)) × (told.numbers ≡ context_numbers t context)
PacketToldAs t answer (Err (failure.Refused cause)) = answer ≡ Err cause
PacketToldAs t answer (Err failure.OutOfMemory) = Unit {0}

-- the value of a number whose type is known
abbrev pub value_of : Option (ℤ × ℕ) → Option ℤ
value_of number = option_map (λ n. n.0) number

abbrev pub span_by : Table → ℕ → ToldPacketHead → Option (ℕ × ℕ) → Result PacketSpan Cause
span_by t offset told None = Err cause.BadSize
span_by t offset told (Some s) = Ok (record {
  offset = offset;
  bytes = s.0;
  start_bit = told.start;
  content_bits = s.1;
  stream = told.stream;
  begin = unwrap_or (below_if_any (2 ^ 64) (value_of told.numbers.timestamp_begin)) 0;
  cpu = unwrap_or (below_if_any 4294967296 (value_of told.numbers.cpu_id)) 0;
  seq = counter_in t told.numbers.packet_seq_num;
  discarded = counter_in t told.numbers.events_discarded;
})

-- a packet with this head, at this offset in a file of which so many bits are left, by the numbers of its context
abbrev pub span_told : Table → ℕ → ℕ → ToldPacketHead → Result PacketSpan Cause
span_told t offset left told = span_by t offset told (sizes left told.start (value_of told.numbers.packet_size) (value_of told.numbers.content_size))

-- the events of the packet that these bytes begin with, in a file where it lies so, or the first cause for which it is refused
abbrev pub events_of : TraceMetaModel → List ℕ → PacketSpan → Result (List RawEvent) Cause
events_of meta rest span = and_then (packet_head meta rest) (packet_events meta rest span)

-- a call answers a head by which the packet's events are read, or refuses as the packet is refused
abbrev pub HeadOpenedAs : TraceMetaModel → List ℕ → PacketSpan → Result PacketHead Failure → Type 0
HeadOpenedAs meta rest span (Ok h) = events_of meta rest span ≡ packet_events meta rest span h
HeadOpenedAs meta rest span (Err (failure.Refused cause)) = events_of meta rest span ≡ Err cause
HeadOpenedAs meta rest span (Err failure.OutOfMemory) = Unit {0}
