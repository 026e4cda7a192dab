use Rattle.std.proofs.Common.{◌≡◌, ◌-◌, length, take}
use Rattle.type_scope.specs.References.{nearest}
use Rattle.type_table.specs.Table.{name_at}
use Rattle.type_scope.specs.View.{read_at}
use Rattle.type_scope.proofs.scope.references.nearest.Given as goal

abbrev pub invariant-loop-behind : goal.invariant-loop-behind
invariant-loop-behind l = nearest (name_at l.table.names l.name) (read_at l.table (take (length l.fields - l.behind) l.fields)) ≡ nearest (name_at l.table.names l.name) (read_at l.table l.fields)
