use Rattle.std.proofs.Common.{◌∙◌, ◌-◌, length, sym, arith, rules}
use Rattle.type_table.specs.Table.{name_at}
use Rattle.type_scope.proofs.Nearest.{field_in, nearest_before, nearest_here}
use Rattle.type_scope.proofs.scope.references.nearest.Goals as goal

pub returns-then-is_same_name-clause-found : goal.returns-then-is_same_name-clause-found
returns-then-is_same_name-clause-found c =
    sym (nearest_here c.args.table.now (name_at c.args.table.now.names c.args.name) c.args.fields.now c.loop-behind.behind (record { name = 0; ty = 0 }) c.is_same_name.result c.loop-behind-test.true (search rules) c.if-is_same_name.true) ∙ c.loop-behind.invariant

pub returns-then-is_same_name-clause-there : goal.returns-then-is_same_name-clause-there
returns-then-is_same_name-clause-there c = field_in (length c.args.table.now.types) c.args.fields.now (length c.args.fields.now - 1 - c.loop-behind.behind) (record { name = 0; ty = 0 }) (omega (arith, c.loop-behind-test.true)) c.requires.types

pub loop-behind-preserved : goal.loop-behind-preserved
loop-behind-preserved c =
    nearest_before c.args.table.now (name_at c.args.table.now.names c.args.name) c.args.fields.now c.loop-behind.behind (record { name = 0; ty = 0 }) c.is_same_name.result c.loop-behind-test.true (search rules) c.if-is_same_name.false ∙ c.loop-behind.invariant
