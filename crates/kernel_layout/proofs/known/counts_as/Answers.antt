use Rattle.std.proofs.Common.{◌≡◌, ◌∙◌, Some, sym, rules}
use denote.Enum.Bare.{same_false, same_true}
use Rattle.type_table.specs.Table.{name_at}
use Rattle.kernel_layout.specs.contracts.sought.Sought.{the_type}
use Rattle.kernel_layout.specs.Sought.{sought_of}
use Rattle.kernel_layout.proofs.KnownNames.{as_counted, none_counted, one_counted}
use Rattle.kernel_layout.proofs.known.counts_as.Goals as goal

pub returns-in-Some : goal.returns-in-Some
returns-in-Some c =
    let is : sought_of (name_at c.args.table.now.names c.args.name) ≡ Some c.in-Some.found = sym c.in-Some.ensures in
    one_counted c.in-Some.found c.args.sought c.eq.result (λ is. same_true the_type (search rules) _ _ (sym c.eq.ensures ∙ is)) (λ is. same_false the_type _ _ (sym c.eq.ensures ∙ is))
    ∙ as_counted (name_at c.args.table.now.names c.args.name) c.in-Some.found c.args.sought is

pub returns-in-None : goal.returns-in-None
returns-in-None c = sym (none_counted (name_at c.args.table.now.names c.args.name) c.args.sought (sym c.in-None.ensures))
