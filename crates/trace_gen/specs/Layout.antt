-- The bytes of stream files, by the layout that the metadata declares: all numbers little endian, all fields at whole bytes (CTF 1.8; which fields there are is this project's own).
use Rattle.std.specs.Prelude.{ℕ, zero, suc, ◌+◌, ◌-◌, ◌*◌, ◌/◌, ◌%◌, ◌^◌, List, [], ◌∷◌, ◌++◌, drop, length, replicate, slice_get, take, Option, None, Some}
use Rattle.byteorder.specs.Endian.{little_bytes}
use Rattle.trace_gen.specs.declared.field.Field.{Field}
use Rattle.trace_gen.specs.declared.field.Field.TheVariants.{Byte, Short, Word, Long}
use Rattle.trace_gen.specs.declared.events.MadeEvent.{MadeEvent}
use Rattle.trace_gen.specs.declared.events.MadeKind.{MadeKind}
use Rattle.trace_gen.specs.declared.events.MadeKind.TheVariants.{Switched, Sent, Received}

-- the bytes of a number of 8, 16, 32 or 64 bits
unfoldable pub field_bytes : Field → List ℕ
field_bytes (Byte n) = n ∷ []
field_bytes (Short n) = little_bytes 2 n
field_bytes (Word n) = little_bytes 4 n
field_bytes (Long n) = little_bytes 8 n

-- those of numbers one after the other
unfoldable pub fields_bytes : List Field → List ℕ
fields_bytes [] = []
fields_bytes (f ∷ fs) = field_bytes f ++ fields_bytes fs

-- a compact header: the id in 5 bits, then the low 27 bits of the clock
abbrev pub header : ℕ → ℕ → Field
header id clock = Word (id + 32 * (clock % 2 ^ 27))

-- the first four of the 16 bytes of a thread's name: `t`, its digit and zeros
abbrev pub name_start : ℕ → ℕ
name_start thread = 116 + 256 * (48 + thread)

-- the fields of a switch: the name, tid, priority and state of the thread that left, and the name, tid and priority of the next
abbrev pub switch_fields : ℕ → ℕ → ℕ → ℕ → List Field
switch_fields clock prev state next =
    header 0 clock
    ∷ Word (name_start prev) ∷ Word 0 ∷ Long 0 ∷ Word (1000 + prev) ∷ Word 20 ∷ Long state
    ∷ Word (name_start next) ∷ Word 0 ∷ Long 0 ∷ Word (1000 + next) ∷ Word 20 ∷ []

-- the fields of a message: IPv4, the addresses, ports 40000 and 80, the number, nothing acknowledged, and the flag ACK
abbrev pub message_fields : ℕ → ℕ → ℕ → ℕ → ℕ → List Field
message_fields id clock message source target =
    header id clock ∷ Byte 4
    ∷ Byte 10 ∷ Short 0 ∷ Byte source ∷ Byte 10 ∷ Short 0 ∷ Byte target
    ∷ Short 40000 ∷ Short 80 ∷ Word message ∷ Word 0 ∷ Short 16 ∷ []

-- the fields of an event: id 0 is a switch, 1 a message that is sent, 2 one that is received
abbrev pub kind_fields : ℕ → MadeKind → List Field
kind_fields clock (Switched prev state next) = switch_fields clock prev state next
kind_fields clock (Sent message source target) = message_fields 1 clock message source target
kind_fields clock (Received message source target) = message_fields 2 clock message source target

-- the bytes of events, one after the other
abbrev pub events_bytes : List MadeEvent → List ℕ
events_bytes [] = []
events_bytes (e ∷ es) = fields_bytes (kind_fields e.clock e.kind) ++ events_bytes es

-- the clock of the event at a place; 0 where there is none
abbrev pub clock_of : Option MadeEvent → ℕ
clock_of None = 0
clock_of (Some e) = e.clock

-- the fields before a packet's events: magic number and stream, the first and the last clock, the bits of the content and of all, the packet's number, no lost events, processor 0
abbrev pub head_fields : ℕ → ℕ → ℕ → ℕ → ℕ → List Field
head_fields number begin end content size =
    Word 3254525889 ∷ Word 0
    ∷ Long begin ∷ Long end ∷ Long (8 * content) ∷ Long (8 * size) ∷ Long number ∷ Long 0 ∷ Word 0 ∷ []

-- the bytes of a packet's content: 60 before the events
abbrev pub content_of : List MadeEvent → ℕ
content_of events = 60 + length (events_bytes events)

-- the least multiple of 4,096 that holds so many bytes
abbrev pub size_for : ℕ → ℕ
size_for content = 4096 * ((content + 4095) / 4096)

-- a packet: its fields, its events, and zeros
abbrev pub packet : ℕ → List MadeEvent → List ℕ
packet number events =
    fields_bytes (head_fields number (clock_of (slice_get events 0)) (clock_of (slice_get events (length events - 1))) (content_of events) (size_for (content_of events)))
    ++ (events_bytes events ++ replicate (size_for (content_of events) - content_of events) 0)

-- the first packets of a file, of 100 events each, or of what is left
abbrev pub packets : ℕ → List MadeEvent → List ℕ
packets zero events = []
packets (suc n) events = packets n events ++ packet n (take 100 (drop (100 * n) events))

-- all packets of a file
abbrev pub file_bytes : List MadeEvent → List ℕ
file_bytes events = packets ((length events + 99) / 100) events
