use Rattle.std.proofs.Common.{rules, ◌≡◌, ◌++◌, ◌∷◌, [], List, map, string_bytes, sym, subst}
use Rattle.command_words.specs.Parts.{BeginsWithParts, Part}
use Rattle.command_words.proofs.AllParts.{one_more}
use Rattle.command_words.proofs.parts.take_parts.Goals as goal

pub loop-part-preserved : goal.loop-part-preserved
loop-part-preserved c =
    let pushed : c.push.new.self.items ≡ c.loop-part.parts.items ++ c.in-Some.part ∷ [] = search rules in
    subst (λ (ps : List Part). BeginsWithParts (map string_bytes c.args.words.now) ps (map string_bytes c.in-Some.after.now)) (sym pushed)
    (one_more (map string_bytes c.args.words.now) c.loop-part.parts.items (map string_bytes c.loop-part.rest.now) c.in-Some.part (map string_bytes c.in-Some.after.now) c.loop-part.invariant c.in-Some.ensures.found)
