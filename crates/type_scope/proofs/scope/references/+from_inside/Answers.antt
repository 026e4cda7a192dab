use Rattle.std.proofs.Common.{map, arith}
use Rattle.type_table.specs.Table.{name_at}
use Rattle.type_scope.proofs.Inside.{none_inside}
use Rattle.type_scope.proofs.scope.references.+from_inside.Goals as goal

pub returns-in_default-clause-found : goal.returns-in_default-clause-found
returns-in_default-clause-found t c = none_inside c.args.table.now c.args.frames.now (name_at c.args.table.now.names c.args.name) (map (name_at c.args.table.now.names) c.args.names.now) (omega (arith, c.in_default.len_below))
