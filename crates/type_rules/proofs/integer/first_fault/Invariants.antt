use Rattle.std.proofs.Common.{◌≡◌, [], drop}
use Rattle.type_rules.specs.Attributes.{first_fault}
use Rattle.type_rules.proofs.integer.first_fault.Given as goal

abbrev pub invariant-loop-attr : goal.invariant-loop-attr
invariant-loop-attr l = first_fault l.order l.clocks.entries l.seen (drop l.attr-index l.attrs) ≡ first_fault l.order l.clocks.entries [] l.attrs
