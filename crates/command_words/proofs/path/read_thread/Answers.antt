use Rattle.std.proofs.Common.{rules, ◌≡◌, Some, option_map}
use Rattle.std.specs.Fmt.{decimal}
use Rattle.command_words.proofs.Windows.{no_thread}
use Rattle.command_words.proofs.path.read_thread.Goals as goal

pub returns-then-tid-eq0-clause-none : goal.returns-then-tid-eq0-clause-none
returns-then-tid-eq0-clause-none c n =
    let zero : option_map (λ t. t.now) c.args.text ≡ Some (decimal 0) = search rules in
    no_thread (option_map (λ t. t.now) c.args.text) n zero
