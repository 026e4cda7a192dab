use Rattle.std.proofs.Common.{rules, sym, ◌∙◌}
use denote.Enum.Bare.{same_true}
use Rattle.tsdl_parser.specs.contracts.symbol.Symbol.{the_type}
use Rattle.tsdl_parser.specs.Symbols.{same}
use Rattle.tsdl_parser.proofs.symbol.is_same.Goals as goal

pub returns-clause-value : goal.returns-clause-value
unfolding same
returns-clause-value c = search rules

pub returns-clause-same : goal.returns-clause-same
returns-clause-same c is = same_true the_type (search rules) _ _ (sym c.eq.ensures ∙ is)
