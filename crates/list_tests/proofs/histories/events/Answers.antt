use Rattle.std.proofs.Common.{rules}
use Rattle.list_tests.proofs.Rising.{is_merge, one_more}
use Rattle.list_tests.proofs.histories.events.Goals as goal

pub loop-key-preserved : goal.loop-key-preserved
loop-key-preserved g c = rw c.in_ok-push.ensures.items (one_more c.loop-key.key c.loop-key.events.items c.event.result c.loop-key.invariant c.event.ensures)

pub returns : goal.returns
returns g c = is_merge c.loop-key.key c.loop-key.events.items (search rules) c.loop-key.invariant
