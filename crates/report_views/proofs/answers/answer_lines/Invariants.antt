use Rattle.std.proofs.Common.{◌≡◌, take}
use Rattle.std.specs.Prelude.{flat_map}
use Rattle.event_list.specs.Names.{names_at}
use Rattle.kernel_provider.specs.Replay.{state_at}
use Rattle.report_views.specs.AnswersText.{asked_text}
use Rattle.report_views.proofs.answers.answer_lines.Given as goal

abbrev pub invariant-loop-question : goal.invariant-loop-question
invariant-loop-question l = l.text.items ≡ flat_map (asked_text (names_at l.trace.names.items) (state_at l.trace.events.items)) (take l.question-index l.questions)
