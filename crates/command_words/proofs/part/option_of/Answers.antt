use Rattle.std.proofs.Common.{rules, ◌≡◌, ◌∷◌, List, ℕ, sym, ap, ◌∙◌}
use Rattle.command_words.proofs.OptionWords.{other_name}
use Rattle.command_words.proofs.part.option_of.Goals as goal

pub returns-in_err-option_named-in-Some-clause-none : goal.returns-in_err-option_named-in-Some-clause-none
returns-in_err-option_named-in-Some-clause-none c =
    let spelled = c.in_ok-name.ensures.found ∙ ap (λ (l : List ℕ). 45 ∷ 45 ∷ l) c.in-Some.ensures.found.0 in
    let same : c.as_bytes.result.now ≡ c.in-Some.name.now = search rules in
    let none = c.in_err-option_named-in-Some.ensures.none in
    rw c.from_residual-in_err-option_named-in-Some.ensures (λ n a e. other_name c.in-Some.name.now c.in-Some.value.now c.in-Some.ensures.found.1 (λ m g. none m (same ∙ g)) n a (sym spelled ∙ e))
