-- What a command line gives: one value of an option at most, and the positional words (this project's own).
use Rattle.std.specs.Prelude.{◌≡◌, ◌++◌, ℕ, cond, List, [], ◌∷◌, Option, Some, None}
use Rattle.command_words.specs.Parts.{Part, AreParts, same_name}
use Rattle.command_words.specs.declared.option_name.OptionName.{OptionName}
use Rattle.command_words.specs.declared.option_name.OptionName.TheVariants as name

-- the list of what may be there (this project's own)
abbrev pub option_list : Option (List ℕ) → List (List ℕ)
option_list None = []
option_list (Some text) = text ∷ []

-- the value of an option, where an option with this value is that one (this project's own)
abbrev pub value_if : OptionName → Option OptionName → List ℕ → Option (List ℕ)
value_if n None text = None
value_if n (Some m) text = cond (same_name m n) (Some text) None

-- a positional word, where there is no option (this project's own)
abbrev pub word_if : Option OptionName → List ℕ → Option (List ℕ)
word_if None text = Some text
word_if (Some m) text = None

-- the values of an option, in order (this project's own)
abbrev pub values : OptionName → List Part → List (List ℕ)
values n [] = []
values n (p ∷ ps) = option_list (value_if n p.option p.text) ++ values n ps

-- the positional words, in order (this project's own)
abbrev pub positional_words : List Part → List (List ℕ)
positional_words [] = []
positional_words (p ∷ ps) = option_list (word_if p.option p.text) ++ positional_words ps

-- the value of each option that is given, a flag's being empty, and the positional words (this project's own)
pub record Shape : Type 0 where
  pub at : Option (List ℕ)
  pub attribute : Option (List ℕ)
  pub drift : Option (List ℕ)
  pub from : Option (List ℕ)
  pub host : Option (List ℕ)
  pub hosts : Option (List ℕ)
  pub list : Option (List ℕ)
  pub number : Option (List ℕ)
  pub once : Option (List ℕ)
  pub questions : Option (List ℕ)
  pub rounds : Option (List ℕ)
  pub tid : Option (List ℕ)
  pub to : Option (List ℕ)
  pub workers : Option (List ℕ)
  pub positional : List (List ℕ)

-- parts give each option once at most, and no others than these values and words (this project's own)
pub record HaveShape (parts : List Part) (shape : Shape) : Type 0 where
  pub at_is : values name.At parts ≡ option_list shape.at
  pub attribute_is : values name.Attribute parts ≡ option_list shape.attribute
  pub drift_is : values name.Drift parts ≡ option_list shape.drift
  pub from_is : values name.From parts ≡ option_list shape.from
  pub host_is : values name.Host parts ≡ option_list shape.host
  pub hosts_is : values name.Hosts parts ≡ option_list shape.hosts
  pub list_is : values name.List parts ≡ option_list shape.list
  pub number_is : values name.Number parts ≡ option_list shape.number
  pub once_is : values name.Once parts ≡ option_list shape.once
  pub questions_are : values name.Questions parts ≡ option_list shape.questions
  pub rounds_are : values name.Rounds parts ≡ option_list shape.rounds
  pub tid_is : values name.Tid parts ≡ option_list shape.tid
  pub to_is : values name.To parts ≡ option_list shape.to
  pub workers_are : values name.Workers parts ≡ option_list shape.workers
  pub positional_are : positional_words parts ≡ shape.positional

-- a command line gives these values and words (this project's own)
pub record Gives (words : List (List ℕ)) (shape : Shape) : Type 0 where
  pub parts : List Part
  pub are_parts : AreParts words parts
  pub have_shape : HaveShape parts shape
