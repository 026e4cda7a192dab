use Rattle.std.proofs.Common.{◌≡◌, ◌++◌, drop, map}
use Rattle.command_words.specs.Shapes.{positional_words}
use Rattle.command_words.proofs.shape.positional_of.Given as goal

abbrev pub invariant-loop-part : goal.invariant-loop-part
invariant-loop-part l = map (λ w. w.now) l.words.items ++ positional_words (drop l.part-index l.parts) ≡ positional_words l.parts
