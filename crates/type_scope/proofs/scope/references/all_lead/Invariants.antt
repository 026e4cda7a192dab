use Rattle.std.proofs.Common.{◌≡◌, drop, map}
use Rattle.type_scope.specs.References.{all_lead}
use Rattle.type_scope.specs.View.{AllDeferredIn, deferred_at, scopes_at}
use Rattle.type_scope.proofs.scope.references.all_lead.Given as goal

abbrev pub invariant-loop-field_path : goal.invariant-loop-field_path
invariant-loop-field_path l = (all_lead (scopes_at l.table l.scopes) (map (deferred_at l.table) (drop l.field_path-index l.deferred)) ≡ all_lead (scopes_at l.table l.scopes) (map (deferred_at l.table) l.deferred)) × AllDeferredIn l.table (drop l.field_path-index l.deferred)
