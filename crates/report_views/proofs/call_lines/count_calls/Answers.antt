use Rattle.std.proofs.Common.{◌<◌, ◌^◌, length, length-take, take, arith}
use Rattle.report_views.proofs.CallLines.{calls_few, calls_more}
use Rattle.report_views.proofs.call_lines.count_calls.Goals as goal

pub count_event-requires : goal.count_event-requires
count_event-requires c =
    let seen = take c.loop-event.event-index c.args.events.now in
    let few : length seen < 2 ^ 60 = let a = length-take c.loop-event.event-index c.args.events.now in let b = c.requires in omega (arith, a, b) in
    calls_few c.args.names seen c.loop-event.counts.items few c.loop-event.invariant

pub loop-event-preserved : goal.loop-event-preserved
loop-event-preserved c =
    rw c.count_event.ensures (calls_more c.args.names c.args.events.now c.loop-event.event-index c.event-item.result c.loop-event.counts.items c.loop-event-test.true c.event-item.is c.loop-event.invariant)
