use Rattle.std.proofs.Common.{sym, ◌∙◌, arith}
use Rattle.history_tree.specs.Records.{content_of}
use Rattle.history_tests.proofs.Free.{free_none, free_further, free_all}
use Rattle.history_tests.proofs.grown.is_free.Goals as goal

pub loop-t-preserved : goal.loop-t-preserved
loop-t-preserved c =
    free_further (content_of c.args.tree.now.nodes) c.args.interval.now.number c.args.interval.now.start c.loop-t.t c.loop-t.invariant (free_none c.find-found.result _ (sym c.is_some.ensures ∙ c.if-is_some.false) c.find-found.ensures.none)

pub returns : goal.returns
returns c = λ _. free_all (content_of c.args.tree.now.nodes) c.args.interval.now c.loop-t.t c.loop-t.invariant (omega (arith, c.loop-t-test.false))
