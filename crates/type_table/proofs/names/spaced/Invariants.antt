use Rattle.std.proofs.Common.{◌≡◌, ◌++◌, drop}
use Rattle.type_table.specs.Names.{spaced, spaced_on}
use Rattle.type_table.proofs.names.spaced.Given as goal

abbrev pub invariant-loop-word : goal.invariant-loop-word
invariant-loop-word l = l.name.items ++ spaced_on (drop l.word-index l.rest) ≡ spaced l.words
