use Rattle.std.proofs.Common.{◌≡◌, drop}
use Rattle.type_scope.specs.Said.{value_named}
use Rattle.tsdl_types.specs.Blocks.{attrs_in}
use Rattle.tsdl_types.proofs.entries.value_in.Given as goal

abbrev pub invariant-loop-entry : goal.invariant-loop-entry
invariant-loop-entry l = value_named l.name (attrs_in (drop l.entry-index l.entries)) ≡ value_named l.name (attrs_in l.entries)
