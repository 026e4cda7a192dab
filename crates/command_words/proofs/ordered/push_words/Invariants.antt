use Rattle.std.proofs.Common.{◌≡◌, ◌++◌, map, drop, string_bytes}
use Rattle.command_words.proofs.ordered.push_words.Given as goal

abbrev pub invariant-loop-word : goal.invariant-loop-word
invariant-loop-word l = map string_bytes l.words.items ++ map (λ w. w.now) (drop l.word-index l.positional) ≡ map string_bytes l.fn.words.items ++ map (λ w. w.now) l.positional
