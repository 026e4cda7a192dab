use Rattle.std.proofs.Common.{sym}
use Rattle.type_scope.specs.View.{state}
use Rattle.type_scope.proofs.Views.{kept_rises}
use Rattle.type_scope.proofs.Pushes.{named_after}
use Rattle.type_scope.proofs.scope.TypeScope.intern.Goals as goal

pub invariant_of-self : goal.invariant_of-self
invariant_of-self c = kept_rises c.self.inside.table c.intern.new.self c.intern.ensures.keeps _ c.self.invariant

pub returns-clause-stays : goal.returns-clause-stays
unfolding state
returns-clause-stays c =
    let after = named_after c.self.inside.table c.intern.new.self _ c.intern.result c.intern.ensures.keeps c.self.invariant c.intern.ensures.trees_stay in
    rw (sym c.self.view_is) after
