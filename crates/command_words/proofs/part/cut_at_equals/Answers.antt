use Rattle.std.proofs.Common.{arith}
use Rattle.std.proofs.lemmas.Str.Pattern.{split_parts}
use Rattle.command_words.proofs.Cuts.{cut_found, cut_none}
use Rattle.command_words.proofs.part.cut_at_equals.Goals as goal

pub returns : goal.returns
returns c =
    let parts = split_parts 61 c.args.text.now c.split_once.result c.split_once.ensures.cases (omega arith) in
    record { found = cut_found c.args.text.now c.split_once.result parts; none = cut_none c.args.text.now c.split_once.result parts }
