use Rattle.std.proofs.Common.{◌≡◌, None, Ok, rules}
use Rattle.packet_decoder.specs.Times.{time_after}
use Rattle.packet_decoder.proofs.PassedOver.{unstamped}
use Rattle.packet_decoder.proofs.passing.clock_after.Goals as goal

pub returns-clause-timed : goal.returns-clause-timed
returns-clause-timed c =
    let time = c.in_ok-value-2.field-0-1 in
    let is : time_after c.args.meta.now None c.args.clock ≡ Ok (c.in_ok-value-2.value, time) = search rules in
    (time, unstamped c.args.meta.now c.args.clock c.in_ok-value-2.value time is)
