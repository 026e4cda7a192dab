-- Which system calls were made on each host, and how often: lines of a report (this project's own).
use Rattle.std.specs.Prelude.{◌≡◌, ◌+◌, ◌<◌, ℕ, zero, suc, ◌==◌, Bool, false, List, [], ◌∷◌, ◌++◌, codes, count_by, filter, flat_map, get_or, length, map, nat_lt}
use Rattle.std.specs.Fmt.{decimal}
use Rattle.std.specs.List.{range_with_len}
use Rattle.std.specs.Ordering.{is_lt, nat_cmp, ordering_then}
use Rattle.std.specs.Cmp.Lexicographic.{slice_cmp}
use Rattle.std.specs.declared.cmp.Ordering.{Ordering}
use Rattle.event_list.specs.Lines.{name_at}
use Rattle.trace_types.specs.ByteTexts.{byte_text}
use Rattle.trace_types.specs.declared.event.Event.{Event}
use Rattle.trace_types.specs.declared.event.KernelEvent.{KernelEvent}
use Rattle.trace_types.specs.declared.event.KernelEvent.TheVariants.{CallIn}
use Rattle.trace_types.specs.declared.host.HostEvents.{HostEvents}
use Rattle.report_views.specs.declared.call_lines.Call.{Call}
use Rattle.report_views.specs.Ordered.{ordered}
use Rattle.report_views.specs.Values.{call_name}

-- whether an event is an entry into the call whose event name has this number
abbrev pub is_kind_call : ℕ → KernelEvent → Bool
is_kind_call number (CallIn name) = name == number
is_kind_call number kind = false

abbrev pub is_call : ℕ → Event → Bool
is_call number event = is_kind_call number event.kind

-- how many entries there are
abbrev pub call_count : List Event → ℕ → ℕ
call_count events number = count_by (is_call number) events

-- the call of the name of a number
abbrev pub call_of : List (List ℕ) → ℕ → Call
call_of names number = record { name = call_name (name_at names number); number = number }

-- calls by the bytes of their names, those of one name by their numbers
abbrev pub compare_calls : Call → Call → Ordering
compare_calls a b = ordering_then (slice_cmp nat_cmp a.name b.name) (nat_cmp a.number b.number)

-- the calls that are made, by their numbers below n
abbrev pub calls_below : List (List ℕ) → (ℕ → ℕ) → ℕ → List Call
calls_below names count n = map (call_of names) (filter (λ k. nat_lt 0 (count k)) (range_with_len 0 n))

-- a call: its host, its name, and how often it was made
abbrev pub call_line : ℕ → (ℕ → ℕ) → Call → List ℕ
call_line host count call = codes "calls " ++ decimal host ++ 32 ∷ byte_text call.name ++ 32 ∷ decimal (count call.number) ++ 10 ∷ []

-- the calls of names that events count
abbrev pub counted_lines : ℕ → List (List ℕ) → (ℕ → ℕ) → List ℕ
counted_lines host names count = flat_map (call_line host count) (ordered compare_calls (calls_below names count (length names)))

-- the calls of a host's events, which the merge keeps
abbrev pub call_lines : HostEvents → List ℕ
call_lines h = counted_lines h.host h.names.items (call_count h.events.items)

-- ---- what is counted on the way

-- one more at the place of a number, where there is one
abbrev pub set_more : List ℕ → ℕ → List ℕ
set_more [] number = []
set_more (n ∷ ns) zero = (n + 1) ∷ ns
set_more (n ∷ ns) (suc number) = n ∷ set_more ns number

-- the second call isn't listed before the first
abbrev pub IsNotLess : Call → Call → Type 0
IsNotLess a b = is_lt (compare_calls b a) ≡ false

-- the number of entries into each call of these many names, at the place of its number
pub record AreCalls (names : ℕ) (events : List Event) (counts : List ℕ) : Type 0 where
  pub count : length counts ≡ names
  pub each : (number : ℕ) → number < names → get_or counts number 0 ≡ call_count events number

-- the numbers after an event
abbrev pub counted_kind : KernelEvent → List ℕ → List ℕ
counted_kind (CallIn name) counts = set_more counts name
counted_kind kind counts = counts
