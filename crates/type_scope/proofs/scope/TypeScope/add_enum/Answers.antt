use Rattle.std.proofs.Common.{◌<◌, length, subst, sym}
use Rattle.type_table.specs.Table.{IsWhole, tree_at}
use Rattle.type_scope.specs.View.{state}
use Rattle.type_scope.proofs.Named.{gives_enum, type_there}
use Rattle.type_scope.proofs.scope.TypeScope.add_enum.Goals as goal

pub push-requires-clause-refers : goal.push-requires-clause-refers
push-requires-clause-refers c = type_there _ c.args.base (subst (λ s. c.args.base < length s.types) (sym c.in_ok-labels.ensures.stays) c.requires.there)

pub push-requires-clause-based : goal.push-requires-clause-based
unfolding state
push-requires-clause-based c = subst (λ s. IsWhole (tree_at s.types c.args.base)) (sym c.in_ok-labels.ensures.stays) c.requires.whole

pub returns : goal.returns
unfolding state
returns c = gives_enum (state c.args.self.now) (state c.labels.new.self) (state c.push.new.self) c.args.base c.args.labels.now _ c.push.result c.in_ok-labels.ensures.stays c.in_ok-labels.ensures.labels.1 c.push.ensures
