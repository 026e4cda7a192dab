use Rattle.type_scope.specs.View.{state}
use Rattle.std.proofs.Common.{rules}
use Rattle.type_scope.proofs.Named.{type_there}
use Rattle.type_scope.proofs.scope.TypeScope.add_array.Goals as goal

pub push-requires-clause-refers : goal.push-requires-clause-refers
push-requires-clause-refers c = type_there c.args.self.now c.args.item c.requires

pub returns : goal.returns
unfolding state
returns c = search rules
