use Rattle.std.proofs.Common.{◌∙◌, ◌<◌, length, ap, subst, sym}
use Rattle.type_scope.specs.TypeScopes.{fields_inside}
use Rattle.type_table.specs.Table.{fields_at, tree_at, trees}
use Rattle.type_scope.specs.View.{state}
use Rattle.type_scope.proofs.DeferredPaths.{gives_tagged, way_is}
use Rattle.type_scope.proofs.Named.{type_there}
use Rattle.type_scope.proofs.scope.TypeScope.add_tagged.Goals as goal

pub fields_inside-requires : goal.fields_inside-requires
fields_inside-requires c = type_there _ c.args.index (subst (λ s. c.args.index < length s.types) (sym c.in_ok-tag.ensures.stays) c.requires)

pub returns : goal.returns
unfolding state
returns c = gives_tagged (state c.args.self.now) (state c.reference.new.self) (state c.push.new.self) _ _ _ _ c.push.result c.in_ok-tag.ensures.stays (way_is _ _ _ _ c.in_ok-tag.ensures.field_path.1 c.in_ok-tag.ensures.field_path.2)
    (ap (fields_at c.reference.new.self.table.names (trees c.reference.new.self.table)) c.in_ok-from_items.ensures ∙ c.in_ok-fields.ensures.2 ∙ ap (λ s. fields_inside (tree_at s.types c.args.index)) c.in_ok-tag.ensures.stays) c.push.ensures
