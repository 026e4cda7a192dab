use Rattle.std.proofs.Common.{rules, ◌≡◌, Some, option_map}
use Rattle.std.specs.Fmt.{decimal}
use Rattle.command_words.proofs.Sizes.{no_count}
use Rattle.command_words.proofs.make.read_count.Goals as goal

pub returns-then-count-eq0-clause-none : goal.returns-then-count-eq0-clause-none
returns-then-count-eq0-clause-none c n =
    let zero : option_map (λ t. t.now) c.args.text ≡ Some (decimal 0) = search rules in
    no_count (option_map (λ t. t.now) c.args.text) n c.args.most (search rules) zero
