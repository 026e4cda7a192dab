use Rattle.std.proofs.Common.{rules, ◌≡◌, Some, option_map}
use Rattle.std.specs.Fmt.{decimal}
use Rattle.command_words.proofs.Sizes.{no_start}
use Rattle.command_words.proofs.make.read_start.Goals as goal

pub returns-else-number-clause-none : goal.returns-else-number-clause-none
returns-else-number-clause-none c n =
    let is : option_map (λ t. t.now) c.args.text ≡ Some (decimal c.in_ok-number.number) = search rules in
    no_start (option_map (λ t. t.now) c.args.text) c.in_ok-number.number n is (search rules) (search rules)
