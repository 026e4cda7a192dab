use Rattle.type_scope.specs.View.{state}
use Rattle.type_scope.proofs.Named.{type_there}
use Rattle.type_scope.proofs.Pushes.{same_types}
use Rattle.type_scope.proofs.scope.TypeScope.recheck.Goals as goal

pub recheck_at-requires : goal.recheck_at-requires
recheck_at-requires c = type_there c.args.self.now c.args.index c.requires

pub returns-clause-step : goal.returns-clause-step
unfolding state
returns-clause-step c = c.recheck_at.ensures.step

pub returns-clause-types : goal.returns-clause-types
unfolding state
returns-clause-types c = same_types c.args.self.now c.recheck_at.new.self c.recheck_at.result c.recheck_at.ensures.table
