use Rattle.std.proofs.Common.{rules, ◌≡◌, ◌++◌, [], map, string_bytes}
use Rattle.command_words.proofs.InOrder.{in_order}
use Rattle.command_words.proofs.ordered.ordered_words.Goals as goal

pub returns : goal.returns
returns c =
    let none = map string_bytes c.new-words.result.items in
    let first = map string_bytes c.push_options.new.words.items in
    let second = map string_bytes c.push_word.new.words.items in
    let third = map string_bytes c.push_words.new.words.items in
    let empty : none ≡ [] = search rules in
    let ends : third ≡ second ++ c.args.shape.now.positional = search rules in
    in_order c.args.shape.now _ none first second third empty c.in_ok-push_options.ensures c.slots.ensures c.in_ok-push_word.ensures ends
