-- The commands by name (this project's own).
use Rattle.std.specs.Prelude.{ℕ, List, codes}
use Rattle.command_words.specs.declared.command_name.CommandName.{CommandName}
use Rattle.command_words.specs.declared.command_name.CommandName.TheVariants as name

-- the word of a command (this project's own)
abbrev pub name_word : CommandName → List ℕ
name_word name.Check = codes "check"
name_word name.Report = codes "report"
name_word name.Events = codes "events"
name_word name.State = codes "state"
name_word name.Ask = codes "ask"
name_word name.Path = codes "path"
name_word name.Make = codes "make"
name_word name.Range = codes "range"
name_word name.Disks = codes "disks"
