use Rattle.std.proofs.Common.{ℤ, pos, ◌+ℤ◌}
use Rattle.std.specs.Int.{int_div_euclid}
use Rattle.clock_fraction.proofs.Means.{half_is, made_time_is}
use Rattle.clock_fraction.proofs.pair_map.PairMap.map.Goals as goal

pub returns-clause-value : goal.returns-clause-value
returns-clause-value c =
    let steep : ℤ = c.floor_at.result in
    let flat : ℤ = c.floor_at-2.result in
    record {
      steep = steep;
      flat = flat;
      half = int_div_euclid (steep +ℤ flat) (pos 2);
      steep_is = c.floor_at.ensures.value;
      flat_is = c.floor_at-2.ensures.value;
      half_is = half_is steep flat;
      time_is = (made_time_is steep flat c.div_euclid.result c.clamp.result c.floor_at.ensures.range c.floor_at-2.ensures.range c.div_euclid.ensures c.clamp.ensures.value).0;
    }

pub returns-clause-range : goal.returns-clause-range
returns-clause-range c = (made_time_is c.floor_at.result c.floor_at-2.result c.div_euclid.result c.clamp.result c.floor_at.ensures.range c.floor_at-2.ensures.range c.div_euclid.ensures c.clamp.ensures.value).1
