use Rattle.std.proofs.Common.{arith}
use Rattle.std.proofs.lemmas.Str.Pattern.{strip_prefix_char}
use Rattle.command_words.proofs.Cuts.{dash_found, dash_none}
use Rattle.command_words.proofs.part.after_dash.Goals as goal

pub returns : goal.returns
returns c =
    let parts = strip_prefix_char 45 c.args.text.now c.strip_prefix.result c.strip_prefix.ensures.cases (omega arith) in
    record { found = dash_found c.args.text.now c.strip_prefix.result parts; none = dash_none c.args.text.now c.strip_prefix.result parts }
