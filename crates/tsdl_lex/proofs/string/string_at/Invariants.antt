use Rattle.std.proofs.Common.{◌≡◌, ◌≤◌, ◌-◌, length, drop}
use Rattle.tsdl_lex.specs.Strings.{content}
use Rattle.tsdl_lex.proofs.StringFronts.{before}
use Rattle.tsdl_lex.proofs.string.string_at.Given as goal

abbrev pub invariant-loop-at : goal.invariant-loop-at
invariant-loop-at l = (l.at ≤ length l.text) × (content 0 l.text ≡ before l.value.items (content 0 (drop l.at l.text)))

abbrev pub decreases-loop-at : goal.decreases-loop-at
decreases-loop-at l = length l.text - l.at
