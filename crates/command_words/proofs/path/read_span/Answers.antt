use Rattle.std.proofs.Common.{option_map, arith}
use Rattle.command_words.proofs.Windows.{no_span}
use Rattle.command_words.proofs.path.read_span.Goals as goal

pub returns-else-from-to-clause-none : goal.returns-else-from-to-clause-none
returns-else-from-to-clause-none c =
    let f = c.in_ok-from.ensures.found in
    let t = c.in_ok-to.ensures.found in
    no_span (option_map (λ t. t.now) c.args.from) (option_map (λ t. t.now) c.args.to) c.in_ok-from.from c.in_ok-to.to f.0 f.1 t.0 t.1 (omega (arith, c.if-from-to.false))
