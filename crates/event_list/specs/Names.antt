-- The names that the events of a list carry, and their numbers (this project's own).
use Rattle.std.specs.Prelude.{◌≡◌, ◌<◌, ℕ, ◌==◌, ◌&&◌, Bool, true, false, if◌then◌else◌, List, [], ◌∷◌, ◌++◌, length, map, fold, flat_map, get_or, nat_eq}
use Rattle.std.specs.List.{position_or_len}
use Rattle.std.specs.Cmp.Lexicographic.{pointwise}
use Rattle.indexmap.specs.IndexSet.{insert_key}
use Rattle.trace_types.specs.declared.event.Merged.{Merged}
use Rattle.trace_types.specs.declared.event.KernelEvent.{KernelEvent}
use Rattle.trace_types.specs.declared.event.KernelEvent.TheVariants.{CallIn, CallOut, Other}
use Rattle.event_list.specs.Lines.{first_line, line_text}
use Rattle.event_list.specs.Order.{host_count}
use Rattle.event_list.specs.declared.parsed_line.ParsedLine.{ParsedLine}
use Rattle.event_list.specs.declared.trace.MergedTrace.{MergedTrace}

abbrev pub same_name : List ℕ → List ℕ → Bool
same_name = pointwise nat_eq

-- the kinds that carry the name of an event: system calls and other events
abbrev pub carries_name : KernelEvent → Bool
carries_name (CallIn n) = true
carries_name (CallOut n) = true
carries_name (Other n) = true
carries_name kind = false

-- the names that a host's lines carry, one after the other
abbrev pub names_parsed : ℕ → List ParsedLine → List (List ℕ)
names_parsed host [] = []
names_parsed host (t ∷ ts) = if (t.event.event.host == host) && carries_name t.event.event.kind then t.name ∷ names_parsed host ts else names_parsed host ts

-- and each of them once, in the order in which they first appear
abbrev pub names_of : ℕ → List ParsedLine → List (List ℕ)
names_of host parsed_lines = fold (insert_key same_name) [] (names_parsed host parsed_lines)

-- a kind with this number of its name
abbrev pub with_number : ℕ → KernelEvent → KernelEvent
with_number number (CallIn n) = CallIn number
with_number number (CallOut n) = CallOut number
with_number number (Other n) = Other number
with_number number kind = kind

-- the event of a line, with the place of its name among these names
abbrev pub numbered_in : List (List ℕ) → ParsedLine → Merged
numbered_in names t = record t.event { event = record t.event.event { kind = with_number (position_or_len (same_name t.name) names) t.event.event.kind } }

-- the events of lines, with the places of their names among those of their hosts
abbrev pub numbered : List ParsedLine → List Merged
numbered parsed_lines = map (λ t. numbered_in (names_of t.event.event.host parsed_lines) t) parsed_lines

-- the names of a host among the lists of all
abbrev pub names_at : List (List (List ℕ)) → ℕ → List (List ℕ)
names_at lists host = get_or lists host []

-- the trace has the events of these lines, and for each host from 0 to the greatest its names
pub record IsTrace (parsed_lines : List ParsedLine) (trace : MergedTrace) : Type 0 where
  pub events : trace.events.items ≡ numbered parsed_lines
  pub hosts : length trace.names.items ≡ host_count trace.events.items
  pub names : (h : ℕ) → h < host_count trace.events.items → names_at trace.names.items h ≡ names_of h parsed_lines

-- the whole text of events, whose hosts have these names
abbrev pub lines_of : (ℕ → List (List ℕ)) → List Merged → List ℕ
lines_of names ms = first_line ++ flat_map (λ m. line_text (names m.event.host) m) ms
