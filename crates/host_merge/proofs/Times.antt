-- Where a map takes a time, as a function.
use Rattle.std.proofs.Common.{◌≡◌, ◌<◌, ℕ, ℤ, ◌-◌, ◌^◌, pos, ◌+ℤ◌, arith, List, [], ◌∷◌, map, refl, ap₂}
use Rattle.std.specs.Int.{int_div_euclid, int_max, int_min}
use Rattle.std.specs.Int.RustNames.{unsigned_abs}
use Rattle.std.proofs.lemmas.Int.{ints, clamps}
use Rattle.clock_fraction.specs.ClockMap.{IsMapAt}
use Rattle.clock_fraction.specs.declared.pair_map.PairMap.{PairMap}
use Rattle.clock_fraction.proofs.Heights.{height, height_is_floor}
use Rattle.clock_fraction.proofs.Means.{half_is, maps_same}
use Rattle.trace_types.specs.declared.event.Merged.{Merged}
use Rattle.host_merge.specs.Lists.{AreTimed}
use Rattle.host_merge.specs.Merge.{AreBrought}

pub time_at : PairMap → ℕ → ℕ
time_at m x = unsigned_abs (int_max (pos 0) (int_min (int_div_euclid (height m.steep x +ℤ height m.flat x) (pos 2)) (pos (2 ^ 62 - 1))))

drawn : (h r : ℤ) → r ≡ int_max (pos 0) (int_min h (pos (2 ^ 62 - 1))) → pos (unsigned_abs r) ≡ r
drawn h r e = omega (arith, ints, clamps)

pub time_is : (m : PairMap) (x : ℕ) → IsMapAt m x (time_at m x)
unfolding time_at
time_is m x =
    let steep : ℤ = height m.steep x in
    let flat : ℤ = height m.flat x in
    let half : ℤ = int_div_euclid (steep +ℤ flat) (pos 2) in
    record {
      steep = steep;
      flat = flat;
      half = half;
      steep_is = height_is_floor m.steep x m.steep.slope.q_above;
      flat_is = height_is_floor m.flat x m.flat.slope.q_above;
      half_is = half_is steep flat;
      time_is = drawn half (int_max (pos 0) (int_min half (pos (2 ^ 62 - 1)))) refl;
    }

time_below : (m : PairMap) (x : ℕ) → time_at m x < 2 ^ 62
time_below m x = omega (arith, ints, clamps, (time_is m x).time_is)

-- an event brought to another clock
abbrev pub brought_to : PairMap → Merged → Merged
brought_to m x = record { key = time_at m x.key; event = x.event }

pub are_brought : (m : PairMap) (xs : List Merged) → AreBrought m xs (map (brought_to m) xs)
are_brought m [] = tt
are_brought m (x ∷ xs) = (refl, time_is m x.key, are_brought m xs)

pub brought_is : (m : PairMap) (xs ys : List Merged) → AreBrought m xs ys → ys ≡ map (brought_to m) xs
brought_is m [] [] a = refl
brought_is m [] (y ∷ ys) a = absurd a
brought_is m (x ∷ xs) [] a = absurd a
brought_is m (x ∷ xs) (y ∷ ys) a =
    let key : y.key ≡ time_at m x.key = maps_same m x.key y.key (time_at m x.key) a.1 (time_is m x.key) in
    let same : y ≡ record { key = time_at m x.key; event = x.event } = ap₂ (λ k e. record { key = k; event = e }) key a.0 in
    ap₂ (λ z zs. z ∷ zs) same (brought_is m xs ys a.2)

pub brought_timed : (m : PairMap) (xs : List Merged) → AreTimed (map (brought_to m) xs)
brought_timed m [] = tt
brought_timed m (x ∷ xs) = (time_below m x.key, brought_timed m xs)
