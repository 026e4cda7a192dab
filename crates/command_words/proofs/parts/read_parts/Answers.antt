use Rattle.std.proofs.Common.{rules, ◌≡◌, ◌≢◌, ◌∷◌, List, ℕ, map, string_bytes, sym, subst, codes}
use Rattle.command_words.specs.Parts.{Ends}
use Rattle.command_words.proofs.AllParts.{no_parts, other_word}
use Rattle.command_words.proofs.parts.read_parts.Goals as goal

pub returns-then-ne-clause-usage : goal.returns-then-ne-clause-usage
returns-then-ne-clause-usage c =
    let other : string_bytes c.in-Some.dashes.now ≢ codes "--" = search rules in
    let cut : map string_bytes c.in_ok-rest.rest.now ≡ string_bytes c.in-Some.dashes.now ∷ map string_bytes c.in-Some.after.now = search rules in
    λ e. no_parts (map string_bytes c.args.words.now) c.take_parts.new.parts.items (map string_bytes c.in_ok-rest.rest.now) c.in_ok-rest.ensures.found c.in_ok-rest.ensures.stops
    (λ last. subst (λ (ws : List (List ℕ)). Ends ws last → ⊥) (sym cut) (other_word _ (map string_bytes c.in-Some.after.now) last other))
