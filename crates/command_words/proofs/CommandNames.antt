-- Each command has a name.
use Rattle.std.proofs.Common.{◌≡◌, ◌≢◌, [], ◌∷◌, List, ℕ, get_or, refl, sym, ap, ◌∙◌}
use Rattle.command_words.specs.CommandNames.{name_word}
use Rattle.command_words.specs.Shapes.{Shape}
use Rattle.command_words.specs.Words.{IsAsked, command_name}
use Rattle.command_words.specs.declared.command.PlainCommand.{PlainCommand}
use Rattle.command_words.specs.declared.command.PlainCommand.TheVariants.{Check, Report, Events, State, Ask, Path, Make, Range, Disks}
use Rattle.command_words.specs.declared.command_name.CommandName.{CommandName}
use Rattle.command_words.specs.declared.command_name.CommandName.TheVariants as name

named : (c : PlainCommand) → (n : CommandName) × (command_name c ≡ name_word n)
named (Check folders) = (name.Check, refl)
named (Report folders drift) = (name.Report, refl)
named (Events folders drift) = (name.Events, refl)
named (State source at) = (name.State, refl)
named (Ask source questions once) = (name.Ask, refl)
named (Path source host tid from to) = (name.Path, refl)
named (Make number hosts rounds) = (name.Make, refl)
named (Range source from to path) = (name.Range, refl)
named (Disks source) = (name.Disks, refl)

-- where the first positional word names no command, nothing is asked
pub asks_none : (s : Shape) (word : List ℕ) (words : List (List ℕ)) → s.positional ≡ word ∷ words → ((n : CommandName) → word ≢ name_word n) → (c : PlainCommand) → IsAsked s c → ⊥
asks_none s word words cut none c h =
    let n = named c in
    none n.0 (ap (λ l. get_or l 0 []) (sym cut ∙ h.positional_are) ∙ n.1)
