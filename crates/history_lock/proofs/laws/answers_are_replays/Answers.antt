use Rattle.std.proofs.Common.{take, drop, sym}
use Rattle.std.proofs.lemmas.List.{take-append-drop, take_all}
use Rattle.kernel_provider.specs.Steps.{steps_of}
use Rattle.history_core.proofs.Agreement.{agreement, whole_agreement}
use Rattle.history_lock.proofs.laws.answers_are_replays.Goals as goal

pub returns : goal.returns
returns c = record {
  at_counts = λ merge is count t p. agreement merge is (take count (steps_of merge)) (drop count (steps_of merge)) (sym (take-append-drop count (steps_of merge))) t p;
  at_the_end = λ merge is count t p all below. rw (take_all count (steps_of merge) all) (whole_agreement merge is t p below);
}
