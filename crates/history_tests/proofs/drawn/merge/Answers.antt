use Rattle.std.proofs.Common.{◌+◌, refl, rules, arith}
use Rattle.history_tests.proofs.Rising.{is_merge, one_more}
use Rattle.history_tests.proofs.drawn.merge.Goals as goal

pub loop-preserved : goal.loop-preserved
loop-preserved c = (
  rw c.in_ok-push.ensures.items (one_more c.loop.key (c.loop.key + c.from-key.result) c.loop.events.items _ c.loop.invariant.0 (omega arith) refl),
  omega (arith, c.loop.invariant.1, c.next.ensures, c.from-key.ensures),
)

pub returns : goal.returns
returns c = is_merge c.loop.key c.loop.events.items (search rules) c.loop.invariant.0
