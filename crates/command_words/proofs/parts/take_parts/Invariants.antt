use Rattle.std.proofs.Common.{map, length, string_bytes}
use Rattle.command_words.specs.Parts.{BeginsWithParts}
use Rattle.command_words.proofs.parts.take_parts.Given as goal

abbrev pub invariant-loop-part : goal.invariant-loop-part
invariant-loop-part l = BeginsWithParts (map string_bytes l.words) l.parts.items (map string_bytes l.rest)

abbrev pub decreases-loop-part : goal.decreases-loop-part
decreases-loop-part l = length l.rest
