use Rattle.std.proofs.Common.{rules}
use Rattle.hosttrace.proofs.Written.{Appends-append, written_more}
use Rattle.hosttrace.proofs.writing.write_text.Goals as goal

pub loop-rest-preserved : goal.loop-rest-preserved
loop-rest-preserved g c =
    let before = c.loop-rest.invariant.0 in
    ((_, written_more _ before.0 c.loop-rest.rest.now c.in-Ok.count before.1, Appends-append _ _ _ _ _ before.2 c.in-Ok.ensures.bytes), search rules)
