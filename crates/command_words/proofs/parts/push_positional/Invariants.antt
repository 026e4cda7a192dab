use Rattle.std.proofs.Common.{◌≡◌, ◌++◌, map, drop, string_bytes}
use Rattle.command_words.specs.Parts.{positional}
use Rattle.command_words.proofs.parts.push_positional.Given as goal

abbrev pub invariant-loop-word : goal.invariant-loop-word
invariant-loop-word l = l.parts.items ++ map positional (map string_bytes (drop l.word-index l.words)) ≡ l.fn.parts.items ++ map positional (map string_bytes l.words)
