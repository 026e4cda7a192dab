use Rattle.std.proofs.Common.{◌≡◌, ◌++◌, map, drop, option_map, string_bytes}
use Rattle.command_words.specs.OrderedWords.{slot_words}
use Rattle.command_words.proofs.ordered.push_options.Given as goal

abbrev pub invariant-loop-option : goal.invariant-loop-option
invariant-loop-option l = map string_bytes l.words.items ++ slot_words (map (λ s. (s.0, option_map (λ v. v.now) s.1)) (drop l.option-index l.options)) ≡ map string_bytes l.fn.words.items ++ slot_words (map (λ s. (s.0, option_map (λ v. v.now) s.1)) l.options)
