use Rattle.std.proofs.Common.{◌≡◌, drop}
use Rattle.type_scope.specs.Said.{value_named}
use Rattle.type_scope.proofs.said.value_named.Given as goal

abbrev pub invariant-loop-attr : goal.invariant-loop-attr
invariant-loop-attr l = value_named l.name (drop l.attr-index l.attrs) ≡ value_named l.name l.attrs
