use Rattle.std.proofs.Common.{◌≡◌, ◌+◌, drop}
use Rattle.tsdl_types.specs.Items.{declared_in, declared_from}
use Rattle.type_scope.specs.View.{state}
use Rattle.tsdl_types.proofs.items.declare_types.Given as goal

abbrev pub invariant-loop-at : goal.invariant-loop-at
invariant-loop-at l = declared_from l.order (l.at + 1) (drop l.at l.decls) (state l.types).known ≡ declared_in l.order l.decls
