-- What stands before the events of a packet: its header and its context (CTF 1.8, sections 5.1 and 5.2; the order of the checks is this project's own).
use Rattle.std.specs.Prelude.{◌≡◌, ℕ, ◌*◌, List, length, Option, Some, None, Result, Ok, Err, codes, nat_eq, if◌then◌else◌, option_map}
use Rattle.std.specs.Map.{lookup}
use Rattle.type_table.specs.PerScope.{no_scopes, scopes_before}
use Rattle.type_table.specs.TraceMetas.{TraceMetaModel}
use Rattle.type_table.specs.declared.declared.StreamScopes.{StreamScopes}
use Rattle.ctf_fields.specs.declared.field.Field.{Field}
use Rattle.ctf_fields.specs.Named.{first_named}
use Rattle.ctf_fields.specs.Reading.{SourceModel, Reads, Got, Fails, as_read, scope_read}
use Rattle.ctf_fields.specs.Fields.{Scopes}
use Rattle.packet_decoder.specs.Values.{uuid_matches, id_in, magic_matches, number_named}
use Rattle.trace_types.specs.declared.cause.Cause.{Cause}
use Rattle.trace_types.specs.declared.cause.Cause.TheVariants as cause
use Rattle.packet_decoder.specs.declared.failure.Failure.{Failure}
use Rattle.packet_decoder.specs.declared.failure.Failure.TheVariants as failure
use Rattle.packet_decoder.specs.declared.packet_head.PacketHead.{PacketHead}

-- a call answers this, or refuses with this cause; lack of memory is the one free answer
abbrev pub Answers : {A : Type 0} → Result A Cause → Result A Failure → Type 0
Answers answer (Ok a) = answer ≡ Ok a
Answers answer (Err (failure.Refused cause)) = answer ≡ Err cause
Answers answer (Err failure.OutOfMemory) = Unit {0}

abbrev pub and_then : {A B : Type 0} → Result A Cause → (A → Result B Cause) → Result B Cause
and_then (Ok a) next = next a
and_then (Err cause) next = Err cause

-- the field of a scope that may be declared
abbrev pub read_scope : SourceModel → Option ℕ → ℕ → Reads (Option Field)
read_scope from None at = Got None at
read_scope from (Some ty) at = as_read Some (scope_read from ty at)

-- the scopes that are read before a packet's context
abbrev pub with_header : Option Field → Scopes
with_header header = scopes_before header None None None

-- the scopes that are read before a packet's events
abbrev pub with_context : Option Field → Option Field → Scopes
with_context header context = scopes_before header context None None

-- all bits of these bytes
abbrev pub from_all : TraceMetaModel → List ℕ → Scopes → SourceModel
from_all meta bytes scopes = record { table = meta.table; bytes = bytes; end = 8 * length bytes; scopes = scopes }

-- the stream that a header names
abbrev pub stream_by : TraceMetaModel → Option ℕ → Option (ℕ × StreamScopes)
stream_by meta None = None
stream_by meta (Some id) = option_map (λ parts. (id, parts)) (lookup (nat_eq id) meta.declared.streams)

abbrev pub stream_of : TraceMetaModel → Option Field → Option (ℕ × StreamScopes)
stream_of meta header = stream_by meta (id_in (number_named meta.table (codes "stream_id") header))

abbrev pub by_context : Option Field → ℕ → StreamScopes → Reads (Option Field) → Result PacketHead Cause
by_context header stream parts (Fails e) = Err cause.ShortHeader
by_context header stream parts (Got context start) = Ok (record { scopes = with_context header context; start = start; stream = stream; parts = parts })

unfoldable pub context_read : TraceMetaModel → List ℕ → Option Field → ℕ → ℕ → StreamScopes → Result PacketHead Cause
context_read meta rest header at stream parts = by_context header stream parts (read_scope (from_all meta rest (with_header header)) parts.packet_context at)

abbrev pub by_stream : TraceMetaModel → List ℕ → Option Field → ℕ → Option (ℕ × StreamScopes) → Result PacketHead Cause
by_stream meta rest header at None = Err cause.UnknownStream
by_stream meta rest header at (Some s) = context_read meta rest header at s.0 s.1

unfoldable pub header_judged : TraceMetaModel → List ℕ → Option Field → ℕ → Result PacketHead Cause
header_judged meta rest header at =
    if magic_matches (first_named meta.table.names (codes "magic") header)
    then if uuid_matches meta.declared.uuid (first_named meta.table.names (codes "uuid") header)
    then by_stream meta rest header at (stream_of meta header)
    else Err cause.WrongUuid
    else Err cause.BadMagic

abbrev pub by_header : TraceMetaModel → List ℕ → Reads (Option Field) → Result PacketHead Cause
by_header meta rest (Fails e) = Err cause.ShortHeader
by_header meta rest (Got header at) = header_judged meta rest header at

-- the head of the packet that these bytes begin with
unfoldable pub packet_head : TraceMetaModel → List ℕ → Result PacketHead Cause
packet_head meta rest = by_header meta rest (read_scope (from_all meta rest no_scopes) meta.packet_header 0)
