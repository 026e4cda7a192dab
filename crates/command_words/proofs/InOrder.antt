-- Words in one order, part by part.
use Rattle.std.proofs.Common.{◌≡◌, ℕ, List, [], ◌∷◌, ◌++◌, Option, codes, ap, ap₂, ◌∙◌, append_assoc}
use Rattle.command_words.specs.OrderedWords.{ordered_words, slot_words, slots}
use Rattle.command_words.specs.Shapes.{Shape}
use Rattle.command_words.specs.declared.option_name.OptionName.{OptionName}

pub in_order : (s : Shape) (options : List (OptionName × Option (List ℕ))) (none first second third : List (List ℕ)) → none ≡ [] → first ≡ none ++ slot_words options → options ≡ slots s → second ≡ first ++ codes "--" ∷ [] → third ≡ second ++ s.positional → third ≡ ordered_words s
in_order s options none first second third empty begins are dashes ends =
    ends ∙ (ap (λ l. l ++ s.positional) (dashes ∙ ap (λ l. l ++ codes "--" ∷ []) (begins ∙ ap₂ (λ l os. l ++ slot_words os) empty are))
    ∙ append_assoc (slot_words (slots s)) (codes "--" ∷ []) s.positional)
