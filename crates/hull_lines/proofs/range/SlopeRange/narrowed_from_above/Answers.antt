use Rattle.std.proofs.Common.{◌-◌, arith, refl, sym, ◌∙◌}
use Rattle.hull_lines.proofs.Narrowing.{narrowed_to_greatest, narrowed_not_from_above, was_less, was_not_less}
use Rattle.hull_lines.proofs.range.SlopeRange.narrowed_from_above.Goals as goal

pub returns-then-eq-clause-narrowed : goal.returns-then-eq-clause-narrowed
returns-then-eq-clause-narrowed c = narrowed_to_greatest c.args.self c.args.pair _
    (record { bound = refl; run = omega (arith, c.requires); rise = omega (arith, c.if-pair.false) })
    (c.compare.ensures.less.0 (was_less c.compare.result (sym c.eq.ensures ∙ c.if-eq.true)))

pub returns-else-eq-clause-narrowed : goal.returns-else-eq-clause-narrowed
returns-else-eq-clause-narrowed c = narrowed_not_from_above c.args.self c.args.pair (c.args.pair.upper.y - c.args.pair.lower.y) (c.args.pair.upper.x - c.args.pair.lower.x)
    (omega (arith, c.requires)) (omega (arith, c.if-pair.false))
    (was_not_less c.compare.result _ _ (sym c.eq.ensures ∙ c.if-eq.false) (c.compare.ensures.less.1))
