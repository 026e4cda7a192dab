-- The parts of a command line, options with their values and positional words, as they follow one another (this project's own).
use Rattle.std.specs.Prelude.{◌≡◌, ◌==◌, ◌++◌, ◌⊎◌, ℕ, Bool, true, false, List, [], ◌∷◌, Option, Some, None, map, codes}
use Rattle.command_words.specs.OptionNames.{option_word, takes_value}
use Rattle.command_words.specs.declared.option_name.OptionName.{OptionName}
use Rattle.command_words.specs.contracts.option_name.OptionNamePartialEq.TheImpl as name

-- an option with its value, which a flag has empty, or, with no option, a positional word (this project's own)
pub record Part : Type 0 where
  pub option : Option OptionName
  pub text : List ℕ

-- a positional word (this project's own)
abbrev pub positional : List ℕ → Part
positional word = record { option = None; text = word }

-- an option and its value (this project's own)
abbrev pub valued : OptionName → List ℕ → Part
valued n value = record { option = Some n; text = value }

-- whether a word begins with a minus sign and isn't one alone (this project's own)
abbrev pub is_dashed : List ℕ → Bool
is_dashed [] = false
is_dashed (b ∷ []) = false
is_dashed (b ∷ c ∷ cs) = b == 45

-- words begin with a part, and others follow it (this project's own)
pub data BeginsWith : List (List ℕ) → Part → List (List ℕ) → Type 0 where
  word : (ws : List (List ℕ)) (part : Part) (rest : List (List ℕ)) → (w : List ℕ) → part ≡ positional w → is_dashed w ≡ false → ws ≡ w ∷ rest → BeginsWith ws part rest
  flag : (ws : List (List ℕ)) (part : Part) (rest : List (List ℕ)) → (n : OptionName) → part ≡ valued n [] → takes_value n ≡ false → ws ≡ option_word n None ∷ rest → BeginsWith ws part rest
  attached : (ws : List (List ℕ)) (part : Part) (rest : List (List ℕ)) → (n : OptionName) (v : List ℕ) → part ≡ valued n v → takes_value n ≡ true → ws ≡ option_word n (Some v) ∷ rest → BeginsWith ws part rest
  separate : (ws : List (List ℕ)) (part : Part) (rest : List (List ℕ)) → (n : OptionName) (v : List ℕ) → part ≡ valued n v → takes_value n ≡ true → is_dashed v ≡ false → ws ≡ option_word n None ∷ v ∷ rest → BeginsWith ws part rest

-- words begin with these parts, and others follow them (this project's own)
abbrev pub BeginsWithParts : List (List ℕ) → List Part → List (List ℕ) → Type 0
BeginsWithParts ws [] rest = ws ≡ rest
BeginsWithParts ws (p ∷ ps) rest = (after : List (List ℕ)) × BeginsWith ws p after × BeginsWithParts after ps rest

-- no part begins these words (this project's own)
abbrev pub BeginsWithNone : List (List ℕ) → Type 0
BeginsWithNone ws = (part : Part) (rest : List (List ℕ)) → BeginsWith ws part rest → ⊥

-- these words follow the parts, and are positional: none, or those after `--` (this project's own)
abbrev pub Ends : List (List ℕ) → List (List ℕ) → Type 0
Ends rest words = ((rest ≡ []) × (words ≡ [])) ⊎ (rest ≡ codes "--" ∷ words)

-- words have these parts: those up to the first `--`, and then positional words (this project's own)
pub record AreParts (ws : List (List ℕ)) (parts : List Part) : Type 0 where
  pub front : List Part
  pub rest : List (List ℕ)
  pub last : List (List ℕ)
  pub begins : BeginsWithParts ws front rest
  pub ends : Ends rest last
  pub parts_are : parts ≡ front ++ map positional last

-- whether two options are one: the comparison that the type derives, which tells all of them apart (this project's own)
abbrev pub same_name : OptionName → OptionName → Bool
same_name = name.ghosts.eq
