use Rattle.std.proofs.Common.{◌<◌, length, subst, sym}
use Rattle.type_scope.specs.View.{state}
use Rattle.type_scope.proofs.DeferredPaths.{gives_sequence, way_is}
use Rattle.type_scope.proofs.Named.{type_there}
use Rattle.type_scope.proofs.scope.TypeScope.add_sequence.Goals as goal

pub push-requires-clause-refers : goal.push-requires-clause-refers
push-requires-clause-refers c = type_there _ c.args.item (subst (λ s. c.args.item < length s.types) (sym c.in_ok-length.ensures.stays) c.requires)

pub returns : goal.returns
unfolding state
returns c = gives_sequence (state c.args.self.now) (state c.reference.new.self) (state c.push.new.self) c.args.item _ _ c.push.result c.in_ok-length.ensures.stays (way_is _ _ _ _ c.in_ok-length.ensures.field_path.1 c.in_ok-length.ensures.field_path.2) c.push.ensures
