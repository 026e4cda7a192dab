use Rattle.std.proofs.Common.{rules, map, string_bytes}
use Rattle.command_words.proofs.AllParts.{no_shape}
use Rattle.command_words.proofs.shape.read_shape.Goals as goal

pub returns-in_err-parts-clause-usage : goal.returns-in_err-parts-clause-usage
returns-in_err-parts-clause-usage c = λ e s g. c.in_err-parts.ensures.usage (search rules) g.parts g.are_parts

pub returns-clause-usage : goal.returns-clause-usage
returns-clause-usage c = λ e. no_shape (map string_bytes c.args.words.now) c.as_slice.result.now (search rules) (c.shape_of.ensures.usage e)
