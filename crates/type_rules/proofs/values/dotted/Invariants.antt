use Rattle.std.proofs.Common.{◌≡◌, ◌++◌, drop}
use Rattle.type_rules.specs.Attributes.{dotted, dotted_on}
use Rattle.type_rules.proofs.values.dotted.Given as goal

abbrev pub invariant-loop-word : goal.invariant-loop-word
invariant-loop-word l = l.name.items ++ dotted_on (drop l.word-index l.rest) ≡ dotted l.words
