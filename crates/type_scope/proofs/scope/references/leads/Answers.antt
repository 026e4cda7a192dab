use Rattle.std.proofs.Common.{◌<◌, IfSome, length, subst, sym}
use Rattle.type_scope.proofs.DeferredPaths.{scope_there}
use Rattle.type_scope.proofs.scope.references.leads.Goals as goal

-- src/scope/references.rt:220:11
pub follow-requires-clause-index : goal.follow-requires-clause-index
follow-requires-clause-index c = subst (λ o. IfSome o (λ p. p < length c.args.table.now.types)) (sym c.of.ensures) (scope_there c.args.table.now c.args.field_path.now.scope c.args.scopes c.requires.scopes)
