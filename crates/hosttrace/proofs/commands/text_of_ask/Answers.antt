use Rattle.std.proofs.Common.{[], rules}
use Rattle.report_views.proofs.AnswerLines.{all_timely}
use Rattle.ht_outside.specs.Files.{bytes_of}
use Rattle.hosttrace.specs.Inputs.{AreAsked}
use Rattle.hosttrace.specs.Refusals.{AskRefuses}
use Rattle.hosttrace.proofs.Fails.{fails_at, fails_by, known_before}
use Rattle.hosttrace.proofs.Texts.{ask_output, asked_refused, input_refused}
use Rattle.hosttrace.proofs.commands.text_of_ask.Goals as goal

pub returns-clause-text : goal.returns-clause-text
returns-clause-text g c =
    let asked = known_before g.S.Store.holds g.S.Store.faults (λ files. AreAsked (bytes_of files [] c.args.questions.now) c.in_ok-questions.questions.items) c.args.store.now c.read_input.new.store c.in_ok-trace.ensures.reads c.in_ok-questions.ensures.asked in
    ask_output (g.S.Store.holds c.args.store.now) c.args.input.now c.args.questions.now c.in_ok-trace.trace c.in_ok-questions.questions.items c.answers_text.new.out.items c.in_ok-trace.ensures.trace asked (search rules)

pub returns-in_err-trace-clause-fails : goal.returns-in_err-trace-clause-fails
returns-in_err-trace-clause-fails g c =
    let fails = fails_at g.S.Store.holds g.S.Store.faults (λ files r. AskRefuses files c.args.input.now c.args.questions.now r) _ c.args.store.now c.read_input.new.store c.in_err-trace.field-0.0 (input_refused (g.S.Store.holds c.args.store.now) c.args.input.now c.args.questions.now) c.in_err-trace.ensures.fails in
    search rules

pub returns-in_err-questions-clause-fails : goal.returns-in_err-questions-clause-fails
returns-in_err-questions-clause-fails g c =
    let fails = fails_by g.S.Store.holds g.S.Store.faults (λ files r. AskRefuses files c.args.input.now c.args.questions.now r) _ c.args.store.now c.read_input.new.store c.read_asked.new.store c.in_err-questions.field-0.0 c.in_ok-trace.ensures.reads (asked_refused (g.S.Store.holds c.args.store.now) c.args.input.now c.args.questions.now c.in_ok-trace.trace c.in_ok-trace.ensures.trace) c.in_err-questions.ensures.fails in
    search rules

pub answers_text-requires-clause-questions : goal.answers_text-requires-clause-questions
answers_text-requires-clause-questions g c =
    let timely = all_timely c.in_ok-questions.questions.items c.in_ok-questions.ensures.each in
    search rules
