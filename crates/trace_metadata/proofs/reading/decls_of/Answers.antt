use Rattle.std.proofs.Common.{◌≡◌, Err, rules}
use Rattle.tsdl_parser.specs.declared.text.ParseError.TheVariants.{Syntax, TooDeep}
use Rattle.trace_metadata.specs.Files.{HasTokens}
use Rattle.trace_metadata.proofs.reading.decls_of.Goals as goal

pub returns-in-Err-TooDeep-clause-refused : goal.returns-in-Err-TooDeep-clause-refused
returns-in-Err-TooDeep-clause-refused c =
    let has : HasTokens c.args.bytes.now c.deref.result.now = search rules in
    let is : c.parse.result ≡ Err (TooDeep c.in-Err-TooDeep.token) = search rules in
    (c.deref.result.now, has, c.parse.ensures.too_deep c.in-Err-TooDeep.token is)

pub returns-in-Err-Syntax-clause-refused : goal.returns-in-Err-Syntax-clause-refused
returns-in-Err-Syntax-clause-refused c =
    let has : HasTokens c.args.bytes.now c.deref.result.now = search rules in
    let is : c.parse.result ≡ Err (Syntax c.in-Err-Syntax.item) = search rules in
    (c.deref.result.now, has, c.parse.ensures.syntax c.in-Err-Syntax.item is)
