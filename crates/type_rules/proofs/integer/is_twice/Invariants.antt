use Rattle.std.proofs.Common.{◌≡◌, [], drop}
use Rattle.type_rules.specs.Attributes.{is_twice}
use Rattle.type_rules.proofs.integer.is_twice.Given as goal

abbrev pub invariant-loop-attr : goal.invariant-loop-attr
invariant-loop-attr l = is_twice l.seen (drop l.attr-index l.attrs) ≡ is_twice [] l.attrs
