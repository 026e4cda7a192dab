-- The command that `clap` is given: all options, and the positional words (this project's own).
use Rattle.std.specs.Prelude.{◌≡◌, ℕ, List, [], Some, true, codes, option_map, unwrap_or}
use Rattle.clap.specs.Lexer.{usize_max}
use Rattle.clap.specs.Simple.{on_top}
use Rattle.clap.specs.Words.{App, Rule, first_value, matched_of, new_app, new_rule, raw_values, with_rule}
use Rattle.clap.specs.declared.parser.matches.Found.{Found}
use Rattle.clap.specs.declared.builder.action.ArgAction.TheVariants.{Append}
use Rattle.command_words.specs.OptionNames.{name_text}
use Rattle.command_words.specs.Shapes.{Shape}
use Rattle.command_words.specs.declared.option_name.OptionName.TheVariants as name

-- an option with a value (this project's own)
abbrev pub option_rule : List ℕ → Rule
option_rule name = record (new_rule name) { long = Some name }

-- one or more positional words (this project's own)
abbrev pub words_rule : Rule
words_rule = record (new_rule (codes "words")) { action = Some Append; range = Some (record { start_inclusive = 1; end_inclusive = usize_max }) }

-- a command without arguments, whose words are all after the program's name (this project's own)
abbrev pub bare_app : App
bare_app = on_top (λ s. record s { disable_help_flag = true; no_binary_name = true }) (new_app (codes "hosttrace"))

-- with the options up to `list` (this project's own)
abbrev pub first_app : App
first_app = with_rule (with_rule (with_rule (with_rule (with_rule (with_rule (with_rule bare_app (option_rule (name_text name.At))) (option_rule (name_text name.Attribute))) (option_rule (name_text name.Drift))) (option_rule (name_text name.From))) (option_rule (name_text name.Host))) (option_rule (name_text name.Hosts))) (option_rule (name_text name.List))

-- with those up to `rounds` (this project's own)
abbrev pub middle_app : App
middle_app = with_rule (with_rule (with_rule (with_rule first_app (option_rule (name_text name.Number))) (option_rule (name_text name.Once))) (option_rule (name_text name.Questions))) (option_rule (name_text name.Rounds))

-- with all of them, and the positional words (this project's own)
abbrev pub app : App
app = with_rule (with_rule (with_rule (with_rule middle_app (option_rule (name_text name.Tid))) (option_rule (name_text name.To))) (option_rule (name_text name.Workers))) words_rule

-- options and positional words are those that were found (this project's own)
pub record IsFound (found : Found) (shape : Shape) : Type 0 where
  pub at_is : shape.at ≡ first_value found (name_text name.At)
  pub attribute_is : shape.attribute ≡ first_value found (name_text name.Attribute)
  pub drift_is : shape.drift ≡ first_value found (name_text name.Drift)
  pub from_is : shape.from ≡ first_value found (name_text name.From)
  pub host_is : shape.host ≡ first_value found (name_text name.Host)
  pub hosts_is : shape.hosts ≡ first_value found (name_text name.Hosts)
  pub list_is : shape.list ≡ first_value found (name_text name.List)
  pub number_is : shape.number ≡ first_value found (name_text name.Number)
  pub once_is : shape.once ≡ first_value found (name_text name.Once)
  pub questions_is : shape.questions ≡ first_value found (name_text name.Questions)
  pub rounds_is : shape.rounds ≡ first_value found (name_text name.Rounds)
  pub tid_is : shape.tid ≡ first_value found (name_text name.Tid)
  pub to_is : shape.to ≡ first_value found (name_text name.To)
  pub workers_is : shape.workers ≡ first_value found (name_text name.Workers)
  pub positional_are : shape.positional ≡ unwrap_or (option_map raw_values (matched_of found (codes "words"))) []
