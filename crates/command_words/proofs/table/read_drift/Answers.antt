use Rattle.std.proofs.Common.{rules, ◌≡◌}
use Rattle.std.specs.Fmt.{decimal}
use Rattle.command_words.proofs.Drifts.{not_zero}
use Rattle.command_words.proofs.table.read_drift.Goals as goal

pub returns-then-drift-eq0-clause-none : goal.returns-then-drift-eq0-clause-none
returns-then-drift-eq0-clause-none c =
    let zero : c.in-Some.text.now ≡ decimal 0 = search rules in
    rw c.in-Some.is (λ d. not_zero c.in-Some.text.now d zero)
