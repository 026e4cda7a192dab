-- Events that are read one by one, and the names so far.
use Rattle.std.specs.Prelude.{◌≡◌, ◌≢◌, ◌<◌, true, ℕ, if◌then◌else◌, List, [], ◌∷◌, ◌++◌, length, map}
use Rattle.indexmap.specs.IndexSet.{insert_key}
use Rattle.std.specs.List.{AllByRecursion, list_any}
use Rattle.event_list.specs.Names.{carries_name, names_at, names_of, numbered_in, same_name}
use Rattle.event_list.specs.declared.parsed_line.ParsedLine.{ParsedLine}
use Rattle.event_list.specs.declared.numbering.Numbering.{Numbering}

-- a table for each host that there can be
abbrev pub HasTables : Numbering → Type 0
HasTables n = length n.tables.items ≡ 64

-- the event of a line is added after the others, and its name to its host's names
pub record Adds (old : Numbering) (t : ParsedLine) (new : Numbering) : Type 0 where
  pub events : new.events.items ≡ old.events.items ++ numbered_in (names_at old.tables.items t.event.event.host) t ∷ []
  pub names : names_at new.tables.items t.event.event.host ≡ (if carries_name t.event.event.kind then insert_key same_name (names_at old.tables.items t.event.event.host) t.name else names_at old.tables.items t.event.event.host)
  pub others : (h : ℕ) → h ≢ t.event.event.host → names_at new.tables.items h ≡ names_at old.tables.items h
  pub tables : HasTables new

-- the name of a line is among its host's
abbrev pub IsHeld : (ℕ → List (List ℕ)) → ParsedLine → Type 0
IsHeld names t = carries_name t.event.event.kind ≡ true → list_any (same_name t.name) (names t.event.event.host) ≡ true

-- the events are those of these lines, and each host's names are those that its lines carry
pub record IsNumbered (parsed_lines : List ParsedLine) (n : Numbering) : Type 0 where
  pub events : n.events.items ≡ map (λ t. numbered_in (names_at n.tables.items t.event.event.host) t) parsed_lines
  pub names : (h : ℕ) → h < 64 → names_at n.tables.items h ≡ names_of h parsed_lines
  pub held : AllByRecursion (IsHeld (names_at n.tables.items)) parsed_lines
  pub tables : HasTables n
