-- The texts of what commands write (this project's own).
use Rattle.std.specs.Prelude.{ℕ, List, Option, flat_map}
use Rattle.std.specs.Io.KnownBytes.{Appends}
use Rattle.trace_types.specs.declared.event.Merged.{Merged}
use Rattle.event_list.specs.Lines.{line_text}
use Rattle.event_list.specs.Names.{lines_of, names_at}
use Rattle.hosttrace.specs.Writing.{AppendsFront}
use Rattle.hosttrace.specs.declared.outputs.Output.{Output}
use Rattle.hosttrace.specs.declared.outputs.Output.TheVariants.{Text, Events}

-- the lines of events, whose hosts have these names
abbrev pub event_lines : (ℕ → List (List ℕ)) → List Merged → List ℕ
event_lines names ms = flat_map (λ m. line_text (names m.event.host) m) ms

-- known bytes grow by those lines
abbrev pub AppendsLines : Option (List ℕ) → Option (List ℕ) → List (List (List ℕ)) → List Merged → Type 0
AppendsLines old new names ms = Appends old new (event_lines (names_at names) ms)

-- or by a front of them
abbrev pub AppendsLinesFront : Option (List ℕ) → Option (List ℕ) → List (List (List ℕ)) → List Merged → Type 0
AppendsLinesFront old new names ms = AppendsFront old new (event_lines (names_at names) ms)

-- the text that is written
abbrev pub output_text : Output → List ℕ
output_text (Text text) = text.items
output_text (Events trace) = lines_of (names_at trace.names.items) trace.events.items
