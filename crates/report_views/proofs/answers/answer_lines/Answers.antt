use Rattle.std.proofs.Common.{◌≡◌, ◌<◌, ◌++◌, length, get_or, sym, ap, ◌∙◌, rules}
use Rattle.trace_types.specs.declared.path.Path.TheVariants.{Cpu}
use Rattle.trace_types.specs.declared.path.CpuLeaf.TheVariants.{Thread}
use Rattle.event_list.specs.Names.{names_at}
use Rattle.kernel_provider.specs.Replay.{state_at}
use Rattle.kernel_provider.specs.Steps.{steps_of}
use Rattle.history_core.specs.declared.question.Question.{Question}
use Rattle.history_core.specs.declared.question.Answer.TheVariants.{State}
use Rattle.history_core.specs.Agreement.{IsMerge}
use Rattle.history_core.proofs.Agreement.{whole_agreement}
use Rattle.report_views.specs.AnswersText.{asked_text, answer_text}
use Rattle.report_views.specs.Asked.{IsTimely}
use Rattle.event_list.proofs.Prefixes.{all_at, take_more}
use Rattle.report_views.proofs.answers.answer_lines.Goals as goal

pub loop-question-preserved : goal.loop-question-preserved
loop-question-preserved c =
    let questions = c.args.questions.now in
    let i = c.loop-question.question-index in
    let none : Question = record { t = 0; path = Cpu 0 0 Thread } in
    let q = get_or questions i none in
    let inside : i < length questions = search rules in
    let is : IsTimely q = all_at IsTimely questions i none c.requires.questions inside in
    let events = c.deref.result.now in
    let merge : IsMerge events = rw c.deref.ensures.value c.requires.merge in
    let here : c.answer-answer.result ≡ State (state_at events q.t q.path) = c.answer-answer.ensures.stands (steps_of events) c.in_ok-history.ensures ∙ whole_agreement events merge q.t q.path is in
    let answer : c.answer-answer.result ≡ State (state_at c.args.trace.now.events.items q.t q.path) = here ∙ ap (λ ms. State (state_at ms q.t q.path)) c.deref.ensures.value in
    c.in_ok-write_answer.ensures
    ∙ (ap (λ ns. c.loop-question.text.items ++ answer_text (names_at ns) q c.answer-answer.result) c.deref-in-loop-question.ensures.value
    ∙ (ap (λ a. c.loop-question.text.items ++ answer_text (names_at c.args.trace.now.names.items) q a) answer
    ∙ (ap (λ l. l ++ asked_text (names_at c.args.trace.now.names.items) (state_at c.args.trace.now.events.items) q) c.loop-question.invariant
    ∙ sym (take_more (asked_text (names_at c.args.trace.now.names.items) (state_at c.args.trace.now.events.items)) questions i none inside))))
