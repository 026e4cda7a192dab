-- The words of options and positional words in one order, as they are written for `clap` (this project's own).
use Rattle.std.specs.Prelude.{ℕ, List, [], ◌∷◌, ◌++◌, Option, Some, None, codes}
use Rattle.command_words.specs.OptionNames.{option_word}
use Rattle.command_words.specs.Shapes.{Shape}
use Rattle.command_words.specs.declared.option_name.OptionName.{OptionName}
use Rattle.command_words.specs.declared.option_name.OptionName.TheVariants as name

-- the options by name, with the value of each that is given (this project's own)
abbrev pub slots : Shape → List (OptionName × Option (List ℕ))
slots shape =
    (name.At, shape.at) ∷
    (name.Attribute, shape.attribute) ∷
    (name.Drift, shape.drift) ∷
    (name.From, shape.from) ∷
    (name.Host, shape.host) ∷
    (name.Hosts, shape.hosts) ∷
    (name.List, shape.list) ∷
    (name.Number, shape.number) ∷
    (name.Once, shape.once) ∷
    (name.Questions, shape.questions) ∷
    (name.Rounds, shape.rounds) ∷
    (name.Tid, shape.tid) ∷
    (name.To, shape.to) ∷
    (name.Workers, shape.workers) ∷ []

-- the words of those that are given, each with its value (this project's own)
abbrev pub slot_words : List (OptionName × Option (List ℕ)) → List (List ℕ)
slot_words [] = []
slot_words ((n, None) ∷ rest) = slot_words rest
slot_words ((n, Some value) ∷ rest) = option_word n (Some value) ∷ slot_words rest

-- the options, then `--` and the positional words (this project's own)
abbrev pub ordered_words : Shape → List (List ℕ)
ordered_words shape = slot_words (slots shape) ++ codes "--" ∷ shape.positional
