use Rattle.std.proofs.Common.{rules}
use Rattle.event_list.specs.Names.{names_at}
use Rattle.hosttrace.proofs.Written.{Appends-append, front_after}
use Rattle.hosttrace.proofs.EventLines.{lines_around, lines_more}
use Rattle.hosttrace.proofs.outputs.write_batches.Goals as goal

pub returns-in_err-write_batch-clause-front : goal.returns-in_err-write_batch-clause-front
returns-in_err-write_batch-clause-front g c =
    let before = c.loop-rest.invariant.written in
    let parts = lines_around (names_at c.args.names.now) _ before.0 c.loop-rest.rest.now c.split_at.result.0.now c.split_at.result.1.now before.1 c.split_at.ensures.by_index.0 in
    let front = front_after _ _ _ _ _ _ _ parts before.2 c.in_err-write_batch.ensures.front in
    search rules

pub loop-rest-preserved : goal.loop-rest-preserved
loop-rest-preserved g c =
    let before = c.loop-rest.invariant.written in
    let parts = lines_more (names_at c.args.names.now) _ before.0 c.loop-rest.rest.now c.split_at.result.0.now c.split_at.result.1.now before.1 c.split_at.ensures.by_index.0 in
    record {
      written = (_, parts, Appends-append _ _ _ _ _ before.2 c.in_ok-write_batch.ensures.written);
      grows = search rules;
    }
