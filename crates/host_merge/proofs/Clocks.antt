-- Where the map of a pair of clocks takes the times of the points that it was made from.
use Rattle.std.proofs.Common.{◌≡◌, ℕ, ℤ, pos, ◌-◌, ◌<◌, ◌≤◌, ◌^◌, ◌-ℤ◌, ◌≤ℤ◌, List, arith, refl, All, Contains}
use Rattle.std.specs.Int.{int_max, int_min}
use Rattle.std.proofs.lemmas.Int.{ints, clamps}
use Rattle.std.proofs.lemmas.List.Elements.{All-contains}
use Rattle.clock_fraction.specs.ClockMap.{IsFloorAt, IsHalf, IsMapAt}
use Rattle.clock_fraction.specs.declared.pair_map.PairMap.{PairMap}
use Rattle.clock_fraction.specs.declared.slope.Slope.{Slope}
use Rattle.clock_fraction.proofs.Heights.{floors_ordered}
use Rattle.hull_lines.specs.declared.point.ClockPoint.{ClockPoint}
use Rattle.hull_lines.specs.Lines.{through}
use Rattle.hull_lines.specs.Outcomes.{IsMapOf}
use Rattle.hull_lines.specs.Slopes.{Passes}

no_run : (x : ℕ) → pos x -ℤ pos x ≡ pos 0
no_run x = omega (arith, ints)

-- a line through a point has its height there
own_floor : (slope : Slope) (point : ClockPoint) → IsFloorAt (through slope point) point.x (pos point.y)
own_floor slope point =
    let some : 0 < slope.q = slope.q_above in
    record {
      at_or_below = rw (no_run point.y, no_run point.x) (omega (arith, ints));
      greatest = rw (no_run point.y, no_run point.x) (omega (arith, ints, some));
    }

low_half : (s f h : ℤ) (y : ℕ) → pos y ≤ℤ s → pos y ≤ℤ f → IsHalf s f h → pos y ≤ℤ h
low_half s f h y a b u = omega (arith, ints, u.greatest)

high_half : (s f h : ℤ) (y : ℕ) → s ≤ℤ pos y → f ≤ℤ pos y → IsHalf s f h → h ≤ℤ pos y
high_half s f h y a b u = omega (arith, ints, u.at_or_below)

drawn_low : (h : ℤ) (t y : ℕ) → y < 2 ^ 62 → pos y ≤ℤ h → pos t ≡ int_max (pos 0) (int_min h (pos (2 ^ 62 - 1))) → y ≤ t
drawn_low h t y below a e = omega (arith, ints, clamps)

drawn_high : (h : ℤ) (t y : ℕ) → h ≤ℤ pos y → pos t ≡ int_max (pos 0) (int_min h (pos (2 ^ 62 - 1))) → t ≤ y
drawn_high h t y a e = omega (arith, ints, clamps)

module _ (lower upper : List ClockPoint) (drift : ℕ) (map : PairMap) (is : IsMapOf lower upper drift map) where
  -- what was sent is not later than what was received, on the sender's clock
  pub over_lower : (l : ClockPoint) (t : ℕ) → Contains lower l → IsMapAt map l.x t → l.y ≤ t
  over_lower l t among at =
      let s = is.steep.highest.height l.x l.x_below at.steep at.steep_is in
      let f = is.flat.lowest.height l.x l.x_below at.flat at.flat_is in
      let a : pos l.y ≤ℤ at.steep = All-contains (λ k. (g : ℤ) → IsFloorAt (through map.steep.slope k) l.x g → g ≤ℤ at.steep) lower l s.bound among (pos l.y) (own_floor map.steep.slope l) in
      let passes : Passes map.flat.slope.p map.flat.slope.q l f.point =
      All-contains (Passes map.flat.slope.p map.flat.slope.q l) upper f.point (All-contains (λ k. All (Passes map.flat.slope.p map.flat.slope.q k) upper) lower l is.flat.admissible.passes among) f.among in
      let b : pos l.y ≤ℤ at.flat = floors_ordered (through map.flat.slope l) (through map.flat.slope f.point) l.x l.x (pos l.y) at.flat refl refl (omega (arith, passes)) (own_floor map.flat.slope l) f.reached in
      drawn_low at.half t l.y l.y_below (low_half at.steep at.flat at.half l.y a b at.half_is) at.time_is

  pub under_upper : (u : ClockPoint) (t : ℕ) → Contains upper u → IsMapAt map u.x t → t ≤ u.y
  under_upper u t among at =
      let s = is.steep.highest.height u.x u.x_below at.steep at.steep_is in
      let f = is.flat.lowest.height u.x u.x_below at.flat at.flat_is in
      let b : at.flat ≤ℤ pos u.y = All-contains (λ k. (g : ℤ) → IsFloorAt (through map.flat.slope k) u.x g → at.flat ≤ℤ g) upper u f.bound among (pos u.y) (own_floor map.flat.slope u) in
      let passes : Passes map.steep.slope.p map.steep.slope.q s.point u =
      All-contains (Passes map.steep.slope.p map.steep.slope.q s.point) upper u (All-contains (λ k. All (Passes map.steep.slope.p map.steep.slope.q k) upper) lower s.point is.steep.admissible.passes s.among) among in
      let a : at.steep ≤ℤ pos u.y = floors_ordered (through map.steep.slope s.point) (through map.steep.slope u) u.x u.x at.steep (pos u.y) refl refl (omega (arith, passes)) s.reached (own_floor map.steep.slope u) in
      drawn_high at.half t u.y (high_half at.steep at.flat at.half u.y a b at.half_is) at.time_is
