use Rattle.std.proofs.Common.{rules, ◌≡◌, ◌∷◌, map}
use Rattle.command_words.proofs.CommandNames.{asks_none}
use Rattle.command_words.proofs.table.read_command.Goals as goal

pub returns-in_default-command_named-clause-usage : goal.returns-in_default-command_named-clause-usage
returns-in_default-command_named-clause-usage c =
    let cut : c.args.shape.now.positional ≡ c.as_bytes.result.now ∷ map (λ w. w.now) c.in-Some.words.now = search rules in
    λ e. asks_none c.args.shape.now c.as_bytes.result.now (map (λ w. w.now) c.in-Some.words.now) cut c.in_default-command_named.ensures.none
