-- The text of merged events: a first line, and one line an event (this project's own format).
pub use Rattle.trace_types.specs.CallNames.{is_call_in, is_call_out}
pub use Rattle.trace_types.specs.Ranges.{AreBytes, IsKind, IsPlain, IsRequested, IsSegKey, IsSwitched, IsWoken}
use Rattle.std.specs.Prelude.{Bool, if◌then◌else◌, get_or, map, ◌≡◌, ◌≢◌, ◌⊎◌, ◌+◌, length, ℕ, ◌^◌, ◌<◌, ◌≤◌, List, [], ◌∷◌, ◌++◌, codes, flat_map, ℤ}
use Rattle.std.specs.List.{AllByRecursion, join_with_byte}
use Rattle.std.specs.Fmt.{decimal, signed_decimal}
use Rattle.trace_types.specs.ByteTexts.{byte_text}
use Rattle.trace_types.specs.EventKinds.{kind_of_event, word_of}
use Rattle.trace_types.specs.declared.event.Merged.{Merged}
use Rattle.trace_types.specs.declared.segment.SegKey.{SegKey}
use Rattle.trace_types.specs.declared.event.KernelEvent.{KernelEvent}
use Rattle.trace_types.specs.declared.event.KernelEvent.TheVariants.{Switch, Wakeup, WakeupNew, Waking, Fork, Exit, Free, Migrate, IrqIn, IrqOut, SoftIn, SoftOut, Process, Send, Receive, DiskIssue, DiskDone, Lost, CallIn, CallOut, Other}
use Rattle.trace_types.specs.declared.limits.TheConstants.{MAX_EVENTS}
use Rattle.trace_types.specs.Numbers.{IsNumber}
use Rattle.event_list.specs.Order.{RiseFrom}
use Rattle.event_list.specs.declared.parsed_line.ParsedLine.{ParsedLine}
use Rattle.event_list.specs.declared.parsed_line.ParsedKind.{ParsedKind}
use Rattle.event_list.specs.declared.line_head.LineHead.{LineHead}

-- the fields of a switch
abbrev pub switch_words : ℤ → ℕ → ℕ → ℤ → ℤ → List ℕ → List ℕ → List (List ℕ)
switch_words prev_state prev_tid next_tid prev_prio next_prio prev_comm next_comm =
    decimal prev_tid ∷ byte_text prev_comm ∷ signed_decimal prev_prio ∷ signed_decimal prev_state ∷ decimal next_tid ∷ byte_text next_comm ∷ signed_decimal next_prio ∷ []

-- the fields of a wakeup
abbrev pub woken_words : ℕ → List ℕ → ℤ → ℕ → List (List ℕ)
woken_words tid comm prio target_cpu = decimal tid ∷ byte_text comm ∷ signed_decimal prio ∷ decimal target_cpu ∷ []

-- the fields of a thread that was there before the trace
abbrev pub process_words : ℕ → ℕ → List ℕ → ℕ → List (List ℕ)
process_words tid ppid name status = decimal tid ∷ decimal ppid ∷ byte_text name ∷ decimal status ∷ []

-- the fields of a segment
abbrev pub segment_words : SegKey → List (List ℕ)
segment_words key = decimal key.saddr ∷ decimal key.daddr ∷ decimal key.source_port ∷ decimal key.dest_port ∷ decimal key.seq ∷ decimal key.ack_seq ∷ decimal key.flags ∷ []

-- the fields of a request of a disk
abbrev pub request_words : ℕ → ℕ → ℕ → List (List ℕ)
request_words sector dev nr_sector = decimal dev ∷ decimal sector ∷ decimal nr_sector ∷ []

-- the fields of a mark of lost events: how many, and 1 where packets are missing, else 0
abbrev pub lost_words : ℕ → Bool → List (List ℕ)
lost_words events gap = decimal events ∷ decimal (if gap then 1 else 0) ∷ []

-- the name of a number; the empty one where there is none
abbrev pub name_at : List (List ℕ) → ℕ → List ℕ
name_at names n = get_or names n []

-- the fields of an event, with the event names of its host: those that its tracepoint records, or the event's name
abbrev pub field_words : List (List ℕ) → KernelEvent → List (List ℕ)
field_words names (Switch prev_state prev_tid next_tid prev_prio next_prio prev_comm next_comm) = switch_words prev_state prev_tid next_tid prev_prio next_prio prev_comm next_comm
field_words names (Wakeup tid comm prio target_cpu) = woken_words tid comm prio target_cpu
field_words names (WakeupNew tid comm prio target_cpu) = woken_words tid comm prio target_cpu
field_words names (Waking tid comm prio target_cpu) = woken_words tid comm prio target_cpu
field_words names (Fork parent_tid child_tid child_comm) = decimal parent_tid ∷ decimal child_tid ∷ byte_text child_comm ∷ []
field_words names (Exit tid) = decimal tid ∷ []
field_words names (Free tid) = decimal tid ∷ []
field_words names (Migrate tid dest_cpu) = decimal tid ∷ decimal dest_cpu ∷ []
field_words names (IrqIn irq) = decimal irq ∷ []
field_words names (IrqOut irq) = decimal irq ∷ []
field_words names (SoftIn vec) = decimal vec ∷ []
field_words names (SoftOut vec) = decimal vec ∷ []
field_words names (Process tid ppid name status) = process_words tid ppid name status
field_words names (CallIn name) = byte_text (name_at names name) ∷ []
field_words names (CallOut name) = byte_text (name_at names name) ∷ []
field_words names (Send key) = segment_words key
field_words names (Receive key) = segment_words key
field_words names (DiskIssue sector dev nr_sector) = request_words sector dev nr_sector
field_words names (DiskDone sector dev nr_sector) = request_words sector dev nr_sector
field_words names (Lost events gap) = lost_words events gap
field_words names (Other name) = byte_text (name_at names name) ∷ []

-- the words of an event: that of its kind, and its fields
abbrev pub kind_words : List (List ℕ) → KernelEvent → List (List ℕ)
kind_words names event = word_of (kind_of_event event) ∷ field_words names event

-- the words of an event's line: its key, host, processor and own time, and its kind
abbrev pub words_of : List (List ℕ) → Merged → List (List ℕ)
words_of names m = decimal m.key ∷ decimal m.event.host ∷ decimal m.event.cpu ∷ decimal m.event.time ∷ kind_words names m.event.kind

-- one space between words, and a line feed at the end
abbrev pub line_text : List (List ℕ) → Merged → List ℕ
line_text names m = join_with_byte 32 (words_of names m) ++ 10 ∷ []

-- what stands in an event's line before its fields: its key, host, processor and own time, and the word of its kind
abbrev pub head_text : Merged → List ℕ
head_text m = join_with_byte 32 (decimal m.key ∷ decimal m.event.host ∷ decimal m.event.cpu ∷ decimal m.event.time ∷ word_of (kind_of_event m.event.kind) ∷ [])

abbrev pub first_line : List ℕ
first_line = codes "hosttrace events 1\n"

-- the words of a line that was read by itself: its event has its name beside it
abbrev pub parsed_words : ParsedLine → List (List ℕ)
parsed_words t = words_of (t.name ∷ []) t.event

abbrev pub parsed_text : ParsedLine → List ℕ
parsed_text t = line_text (t.name ∷ []) t.event

-- the ranges of an event's fields
pub record IsParsedLine (t : ParsedLine) : Type 0 where
  pub key : t.event.key < 2 ^ 62
  pub host : t.event.event.host < 64
  pub cpu : t.event.event.cpu < 2 ^ 32
  pub time : (1 ≤ t.event.event.time) × (t.event.event.time < 2 ^ 62)
  pub kind : IsKind t.name t.event.event.kind

-- the words are those of the event's line
pub record IsLine (words : List (List ℕ)) (t : ParsedLine) : Type 0 where
  pub spelling : words ≡ parsed_words t
  pub is_parsed_line : IsParsedLine t

-- the words are those of the kind, with its name
pub record IsKindLine (words : List (List ℕ)) (t : ParsedKind) : Type 0 where
  pub spelling : words ≡ kind_words (t.name ∷ []) t.kind
  pub is_kind : IsKind t.name t.kind

-- the first four words are those of the place, which is in its ranges
pub record IsLineHead (key host cpu time : List ℕ) (p : LineHead) : Type 0 where
  pub key_is : IsNumber key p.key
  pub key_below : p.key < 2 ^ 62
  pub host_is : IsNumber host p.host
  pub host_below : p.host < 64
  pub cpu_is : IsNumber cpu p.cpu
  pub cpu_below : p.cpu < 2 ^ 32
  pub time_is : IsNumber time p.time
  pub time_in : (1 ≤ p.time) × (p.time < 2 ^ 62)

abbrev pub events_of : List ParsedLine → List Merged
events_of parsed_lines = map (λ t. t.event) parsed_lines

-- the text is these lines, with keys from `least` on that never fall
pub record AreLines (least : ℕ) (parsed_lines : List ParsedLine) (text : List ℕ) : Type 0 where
  pub spelling : text ≡ flat_map parsed_text parsed_lines
  pub each : AllByRecursion IsParsedLine parsed_lines
  pub order : RiseFrom least (events_of parsed_lines)

-- the bytes are the event list of these lines
abbrev pub IsEventList : List ℕ → List ParsedLine → Type 0
IsEventList bytes parsed_lines = (text : List ℕ) × (bytes ≡ first_line ++ text) × AreLines 0 parsed_lines text

-- more lines than a list may have stand at the front of a text
pub record HasMany (text : List ℕ) : Type 0 where
  pub front : List ℕ
  pub rest : List ℕ
  pub parts : text ≡ front ++ rest
  pub parsed_lines : List ParsedLine
  pub lines : AreLines 0 parsed_lines front
  pub many : MAX_EVENTS < length parsed_lines

-- the bytes begin with an event list of too many events
abbrev pub IsCrowded : List ℕ → Type 0
IsCrowded bytes = (text : List ℕ) × (bytes ≡ first_line ++ text) × HasMany text

-- lines stand at the front of a text, and no further line follows that could stand after them
pub record EndsBehind (text : List ℕ) (parsed_lines : List ParsedLine) : Type 0 where
  pub front : List ℕ
  pub rest : List ℕ
  pub parts : text ≡ front ++ rest
  pub lines : AreLines 0 parsed_lines front
  pub few : length parsed_lines ≤ MAX_EVENTS
  pub no_more : (t : ParsedLine) (after : List ℕ) → rest ≡ parsed_text t ++ after → ¬ (AreLines 0 (parsed_lines ++ t ∷ []) (front ++ parsed_text t))

-- the first bad line, from 1: the first one, or the one after the events, which aren't too many
abbrev pub IsFirstBad : List ℕ → ℕ → Type 0
IsFirstBad bytes line =
    ((line ≡ 1) × ((text : List ℕ) → bytes ≢ first_line ++ text))
    ⊎ ((text : List ℕ) × (parsed_lines : List ParsedLine) × (bytes ≡ first_line ++ text) × EndsBehind text parsed_lines × (line ≡ length parsed_lines + 2))
