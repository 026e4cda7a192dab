use Rattle.std.proofs.Common.{◌≡◌, false, true, Bool, IsTrue}
use Rattle.std.proofs.lemmas.Option.{MatchOption-at_some}
use Rattle.tsdl_parser.proofs.Firsts.{last_is}
use Rattle.tsdl_parser.proofs.types.last_apart.Goals as goal

not_true : (b : Bool) → b ≡ false → IsTrue b → ⊥
not_true true e h = absurd (cc)
not_true false e h = absurd (cc)

pub returns-else-is_empty : goal.returns-else-is_empty
returns-else-is_empty c = last_is c.args.words _ _ (MatchOption-at_some _ _ c.in-Some.last c.in-Some.is c.pop.ensures) (λ none. not_true _ c.if-is_empty.false (c.is_empty.ensures.1 none))
