use Rattle.std.proofs.Common.{sym}
use Rattle.type_scope.specs.View.{state}
use Rattle.type_scope.proofs.Views.{kept_rises}
use Rattle.type_scope.proofs.Pushes.{pushed}
use Rattle.type_scope.proofs.scope.TypeScope.push.Goals as goal

pub invariant_of-self : goal.invariant_of-self
invariant_of-self c = kept_rises c.self.inside.table c.push.new.self c.push.ensures.keeps _ c.self.invariant

pub returns : goal.returns
unfolding state
returns c =
    let gives = pushed c.self.inside.table c.push.new.self _ _ c.push.result c.push.ensures.keeps c.self.invariant c.push.ensures.index c.push.ensures.fits c.push.ensures.breaks in
    rw (sym c.self.view_is) gives
