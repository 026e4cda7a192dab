use Rattle.std.proofs.Common.{rules}
use Rattle.type_scope.specs.View.{state}
use Rattle.type_scope.proofs.Quiet.{quiet}
use Rattle.type_scope.proofs.Rechecks.{left_fail}
use Rattle.type_table.specs.Table.{tree}
use Rattle.type_scope.proofs.scope.TypeScope.+recheck.Goals as goal

pub recheck_all-returns-in_err-recheck_field-clause-step : goal.recheck_all-returns-in_err-recheck_field-clause-step
recheck_all-returns-in_err-recheck_field-clause-step t c =
    let fails = left_fail c.args.block_context.now c.args.self.now.table c.loop-field.self.table c.args.fields.now c.loop-field.field-index (record { name = 0; ty = 0 }) (state c.loop-field.self).known _ c.in_err-recheck_field.field-0.0 (state c.recheck_field.new.self) c.loop-field-test.true c.loop-field.invariant.1 c.loop-field.invariant.0 c.in_err-recheck_field.ensures.step in
    search rules

pub recheck_at-returns-then-not-type_size-clause-step : goal.recheck_at-returns-then-not-type_size-clause-step
recheck_at-returns-then-not-type_size-clause-step t c =
    let passes = quiet c.args.block_context.now (tree c.args.self.now.table c.args.index) (state c.args.self.now).known in
    search rules
