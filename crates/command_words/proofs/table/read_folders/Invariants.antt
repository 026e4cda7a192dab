use Rattle.std.proofs.Common.{◌≡◌, ◌++◌, drop, map}
use Rattle.command_words.specs.Words.{are_names}
use Rattle.command_words.proofs.table.read_folders.Given as goal

abbrev pub invariant-loop-word : goal.invariant-loop-word
invariant-loop-word l =
    (l.folders ++ map (λ w. w.now) (drop l.word-index l.words) ≡ map (λ w. w.now) l.words) × (are_names (map (λ w. w.now) (drop l.word-index l.words)) ≡ are_names (map (λ w. w.now) l.words))
