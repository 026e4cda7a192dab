use Rattle.std.proofs.Common.{◌∙◌, sym, rules}
use denote.Enum.Bare.{same_false, same_true}
use Rattle.kernel_layout.specs.contracts.sought.Sought.{the_type}
use Rattle.kernel_layout.proofs.KnownNames.{one_counted}
use Rattle.kernel_layout.proofs.planned.is_named.Goals as goal

pub returns : goal.returns
returns c = one_counted c.args.sought c.args.name c.eq.result (λ is. same_true the_type (search rules) _ _ (sym c.eq.ensures ∙ is)) (λ is. same_false the_type _ _ (sym c.eq.ensures ∙ is))
