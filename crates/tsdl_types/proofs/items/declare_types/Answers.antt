use Rattle.std.proofs.Common.{◌∙◌, ◌+◌, get_or, rules, ap, sym}
use Rattle.std.proofs.lemmas.List.{drop_more}
use Rattle.tsdl_types.specs.Items.{declared_from}
use Rattle.type_scope.specs.View.{TypeScopeModel, state}
use Rattle.tsdl_types.proofs.Refused.{refuses}
use Rattle.tsdl_types.proofs.items.declare_types.Goals as goal

pub returns-in-Err : goal.returns-in-Err
returns-in-Err c =
    let rest = drop_more c.args.decls.now c.loop-at.at c.index-decls-at.result (search rules) in
    let from = ap (λ decls. declared_from c.args.order (c.loop-at.at + 1) decls (state c.loop-at.types).known) (sym rest) ∙ c.loop-at.invariant in
    refuses {A = TypeScopeModel} (λ k. (state k).known) c.args.order c.loop-at.at (get_or c.args.decls.now c.loop-at.at c.index-decls-at.result) _ _ _ c.in-Err.fault c.refused.result (state c.item_of.new.types) c.refused.ensures c.in-Err.ensures from
