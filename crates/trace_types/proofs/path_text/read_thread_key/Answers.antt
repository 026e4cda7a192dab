use Rattle.std.proofs.Common.{rules, ◌≡◌, subst}
use Rattle.std.specs.Fmt.{decimal}
use Rattle.trace_types.proofs.PathWords.{first_two_are, no_idle, no_tid}
use Rattle.trace_types.proofs.path_text.read_thread_key.Goals as goal

pub returns-in_err-read_number_below-clause-none : goal.returns-in_err-read_number_below-clause-none
returns-in_err-read_number_below-clause-none c = rw c.from_residual.ensures (no_idle c.args.word.now _ (first_two_are c.args.word.now 48 95 (search rules) (search rules) (search rules)) c.in_err-read_number_below.ensures.none)

pub returns-then-tid-eq0-clause-none : goal.returns-then-tid-eq0-clause-none
returns-then-tid-eq0-clause-none c = no_tid c.args.word.now (subst (λ n. c.args.word.now ≡ decimal n) c.if-tid-eq0.true c.in_ok-tid.ensures.found.0)
