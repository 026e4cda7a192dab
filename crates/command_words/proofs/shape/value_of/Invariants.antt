use Rattle.std.proofs.Common.{◌≡◌, ◌++◌, drop, option_map}
use Rattle.command_words.specs.Shapes.{option_list, values}
use Rattle.command_words.proofs.shape.value_of.Given as goal

abbrev pub invariant-loop-part : goal.invariant-loop-part
invariant-loop-part l = option_list (option_map (λ v. v.now) l.found) ++ values l.option (drop l.part-index l.parts) ≡ values l.option l.parts
