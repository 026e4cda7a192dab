use Rattle.std.proofs.Common.{◌≡◌, ◌∷◌, [], drop}
use Rattle.tsdl_types.specs.Blocks.{tree_declared}
use Rattle.tsdl_types.proofs.scopes.tree_of_one.Given as goal

abbrev pub invariant-loop-entry : goal.invariant-loop-entry
invariant-loop-entry l = tree_declared (l.name ∷ []) (drop l.entry-index l.entries) ≡ tree_declared (l.name ∷ []) l.entries
