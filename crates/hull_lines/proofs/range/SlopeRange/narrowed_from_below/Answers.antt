use Rattle.std.proofs.Common.{◌-◌, arith, refl, sym, ◌∙◌}
use Rattle.hull_lines.proofs.Narrowing.{narrowed_to_least, narrowed_not_from_below, was_less, was_not_less}
use Rattle.hull_lines.proofs.range.SlopeRange.narrowed_from_below.Goals as goal

pub returns-then-eq : goal.returns-then-eq
returns-then-eq c = narrowed_to_least c.args.self c.args.pair _
    (record { bound = refl; run = omega (arith, c.requires); rise = omega (arith, c.if-pair.false) })
    (c.compare.ensures.less.0 (was_less c.compare.result (sym c.eq.ensures ∙ c.if-eq.true)))

pub returns-else-eq : goal.returns-else-eq
returns-else-eq c = narrowed_not_from_below c.args.self c.args.pair (c.args.pair.lower.y - c.args.pair.upper.y) (c.args.pair.lower.x - c.args.pair.upper.x)
    (omega (arith, c.requires)) (omega (arith, c.if-pair.false))
    (was_not_less c.compare.result _ _ (sym c.eq.ensures ∙ c.if-eq.false) (c.compare.ensures.less.1))
