use Rattle.std.proofs.Common.{arith, ◌≤◌, ◌+◌, subst, sym}
use Rattle.std.specs.List.{AllByRecursion}
use Rattle.disk_requests.proofs.Digits.{counted_small}
use Rattle.disk_requests.proofs.device.Device.with_served.Goals as goal

pub returns-clause-small : goal.returns-clause-small
returns-clause-small c n s = record {
  requests = omega (arith, s.requests);
  sectors = omega (arith, s.sectors, c.from.ensures, c.ranges.sectors.fits);
  total = omega (arith, s.total, c.from-2.ensures, c.ranges.latency.fits);
  lone_issues = omega (arith, s.lone_issues);
  lone_dones = omega (arith, s.lone_dones);
  digits = subst (AllByRecursion (λ k. k ≤ n + 1)) (sym c.counted.ensures) (counted_small 0 c.args.self.digits c.args.latency n s.digits);
}
