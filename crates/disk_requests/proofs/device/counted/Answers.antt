use Rattle.std.proofs.Common.{arith, ◌≡◌, length, rules}
use Rattle.disk_requests.proofs.Digits.{place_counted, place_past}
use Rattle.disk_requests.proofs.device.counted.Goals as goal

pub returns-then-place-lt-DIGITS : goal.returns-then-place-lt-DIGITS
returns-then-place-lt-DIGITS c =
    let long : length c.args.digits ≡ 63 = search rules in
    place_counted c.args.digits c.args.latency c.ranges.latency.fits (omega (arith, long, c.if-place-lt-DIGITS.true))

pub returns-else-place-lt-DIGITS : goal.returns-else-place-lt-DIGITS
returns-else-place-lt-DIGITS c =
    let long : length c.args.digits ≡ 63 = search rules in
    place_past c.args.digits c.args.latency c.ranges.latency.fits (omega (arith, long, c.if-place-lt-DIGITS.false))
