use Rattle.std.proofs.Common.{arith, subst, IfNone, IfSome}
use Rattle.hull_lines.specs.Worst.{IsNarrowedByOne, IsTight}
use Rattle.std.proofs.lemmas.Result.{err_from_is_err_and}
use Rattle.hull_lines.proofs.Tight.{part_all, part_more, part_none, refused_one}
use Rattle.hull_lines.proofs.slopes.slopes_between.Goals as goal

pub loop-init : goal.loop-init
loop-init c = part_none c.args.lower.now c.args.upper.now c.args.drift c.slopes_within-range.result c.slopes_within-range.ensures

pub returns-in_err-narrowed-clause-refused : goal.returns-in_err-narrowed-clause-refused
returns-in_err-narrowed-clause-refused c =
    let p = err_from_is_err_and c.from_residual.result c.from_residual.ensures.1 in rw (p.1, p.2)
    (refused_one c.args.lower.now c.args.upper.now c.args.drift _ (omega (arith, c.requires.drift)) c.in_err-narrowed.ensures.refused)

pub returns-in-None-clause-range : goal.returns-in-None-clause-range
returns-in-None-clause-range c = part_all c.args.lower.now c.args.upper.now c.args.drift c.slopes_within-range.result c.loop.range c.loop.invariant
    (subst (λ r. IfNone r (IsTight c.args.lower.now c.args.upper.now c.loop.range)) c.in-None.is c.in_ok-narrowed.ensures.tight)

pub loop-preserved : goal.loop-preserved
loop-preserved c = part_more c.args.lower.now c.args.upper.now c.args.drift c.slopes_within-range.result c.loop.range c.in-Some.narrowed c.loop.invariant
    (subst (λ r. IfSome r (IsNarrowedByOne c.args.lower.now c.args.upper.now c.loop.range)) c.in-Some.is c.in_ok-narrowed.ensures.narrowed)
