use Rattle.std.proofs.Common.{◌∙◌, not, sym, ap}
use Rattle.read_plan.proofs.LoneReads.{one_looks, one_passes}
use Rattle.read_plan.proofs.lone.none_looks_into.Goals as goal

pub returns-then-looks_into-clause-is : goal.returns-then-looks_into-clause-is
returns-then-looks_into-clause-is c =
    sym (ap not (c.loop-index.invariant ∙ one_looks c.args.scope c.args.table.now.types c.loop-index.index c.get.result.now c.get.ensures.there (sym c.if-looks_into.ensures)))

pub loop-index-preserved : goal.loop-index-preserved
loop-index-preserved c =
    c.loop-index.invariant ∙ one_passes c.args.scope c.args.table.now.types c.loop-index.index c.get.result.now c.get.ensures.there (sym c.if-looks_into.ensures)
