-- The lines of stretches of events (this project's own).
use Rattle.std.specs.Prelude.{◌≡◌, ◌≤◌, ℕ, All, List, flat_map, length, sum_by}
use Rattle.trace_types.specs.declared.event.Merged.{Merged}
use Rattle.event_list.specs.Lines.{line_text}
use Rattle.event_list.specs.Written.{SpellBytes, name_parsed}

-- the text is the lines of these events, whose hosts have these names, and the texts that they spell are bytes
pub record IsStretchText (names : ℕ → List (List ℕ)) (ms : List Merged) (text : List ℕ) : Type 0 where
  pub lines : text ≡ flat_map (λ m. line_text (names m.event.host) m) ms
  pub bytes : SpellBytes names ms

-- how many bytes the names have together that the lines of these events print
abbrev pub printed_size : (ℕ → List (List ℕ)) → List Merged → ℕ
printed_size names ms = sum_by (λ m. length (name_parsed (names m.event.host) m.event.kind)) ms

-- no name has more than so many bytes
abbrev pub AreShort : ℕ → List (List ℕ) → Type 0
AreShort most = All (λ name. length name ≤ most)
