use Rattle.std.proofs.Common.{◌≡◌, drop}
use Rattle.tsdl_types.specs.Blocks.{tree_declared, two}
use Rattle.tsdl_types.proofs.scopes.tree_of_two.Given as goal

abbrev pub invariant-loop-entry : goal.invariant-loop-entry
invariant-loop-entry l = tree_declared (two l.a l.b) (drop l.entry-index l.entries) ≡ tree_declared (two l.a l.b) l.entries
