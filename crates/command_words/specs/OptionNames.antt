-- The options by name (this project's own).
use Rattle.std.specs.Prelude.{ℕ, Bool, true, false, List, [], ◌∷◌, ◌++◌, Option, Some, None, codes}
use Rattle.command_words.specs.declared.option_name.OptionName.{OptionName}
use Rattle.command_words.specs.declared.option_name.OptionName.TheVariants as name

-- the name of an option (this project's own)
abbrev pub name_text : OptionName → List ℕ
name_text name.At = codes "at"
name_text name.Attribute = codes "attribute"
name_text name.Drift = codes "drift"
name_text name.From = codes "from"
name_text name.Host = codes "host"
name_text name.Hosts = codes "hosts"
name_text name.List = codes "list"
name_text name.Number = codes "number"
name_text name.Once = codes "once"
name_text name.Questions = codes "questions"
name_text name.Rounds = codes "rounds"
name_text name.Tid = codes "tid"
name_text name.To = codes "to"
name_text name.Workers = codes "workers"

-- whether an option has a value; else it is a flag (this project's own)
abbrev pub takes_value : OptionName → Bool
takes_value name.At = true
takes_value name.Attribute = true
takes_value name.Drift = true
takes_value name.From = true
takes_value name.Host = true
takes_value name.Hosts = true
takes_value name.List = true
takes_value name.Number = true
takes_value name.Once = false
takes_value name.Questions = true
takes_value name.Rounds = true
takes_value name.Tid = true
takes_value name.To = true
takes_value name.Workers = true

-- what stands after a name in the same word: `=value`, or nothing (this project's own)
abbrev pub attached : Option (List ℕ) → List ℕ
attached None = []
attached (Some value) = 61 ∷ value

-- `--name=value`, or `--name` (this project's own)
abbrev pub option_word : OptionName → Option (List ℕ) → List ℕ
option_word n value = 45 ∷ 45 ∷ name_text n ++ attached value
