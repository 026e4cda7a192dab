use Rattle.std.proofs.Common.{subst, sym}
use Rattle.type_scope.specs.TypeScopes.{Does}
use Rattle.type_scope.specs.View.{state}
use Rattle.tsdl_types.specs.Blocks.{value_by}
use Rattle.tsdl_types.proofs.blocks.value_of.Goals as goal

pub returns-in-Event : goal.returns-in-Event
returns-in-Event c = subst (λ kind. Does (value_by kind c.args.all.now c.args.attr.now (state c.args.types.now).known) c.event_value.result (state c.event_value.new.types)) (sym c.in-Event.is) c.event_value.ensures
