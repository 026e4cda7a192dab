-- The mean of two heights, drawn into the times that there are.
use Rattle.std.proofs.Common.{◌≡◌, ℕ, ℤ, ◌-◌, ◌<◌, ◌≤◌, ◌^◌, pos, ◌+ℤ◌, ◌≤ℤ◌, arith, ◌∙◌, ap}
use Rattle.std.specs.Int.{int_div_euclid, int_max, int_min}
use Rattle.std.specs.Int.RustNames.{unsigned_abs}
use Rattle.std.proofs.lemmas.Int.{ints, clamps}
use Rattle.clock_fraction.specs.ClockMap.{IsHalf, IsMapAt}
use Rattle.clock_fraction.specs.declared.pair_map.PairMap.{PairMap}
use Rattle.clock_fraction.proofs.Heights.{floors_rise, euclid, div_abs, through_bits, through_bits_fits}

-- a mean of greater numbers isn't less
halves_rise : (a b s f g h : ℤ) → a ≤ℤ s → b ≤ℤ f → IsHalf a b g → IsHalf s f h → g ≤ℤ h
halves_rise a b s f g h l m u v = omega (arith, ints, u.at_or_below, v.greatest)

-- what is drawn into the times keeps its order
drawn_rise : (g h : ℤ) (s t : ℕ) → g ≤ℤ h → pos s ≡ int_max (pos 0) (int_min g (pos (2 ^ 62 - 1))) → pos t ≡ int_max (pos 0) (int_min h (pos (2 ^ 62 - 1))) → s ≤ t
drawn_rise g h s t l a b = omega (arith, ints, clamps)

-- a map keeps the order of times
pub maps_rise : (map : PairMap) (x y s t : ℕ) → x ≤ y → IsMapAt map x s → IsMapAt map y t → s ≤ t
maps_rise map x y s t h m n =
    let a : m.steep ≤ℤ n.steep = floors_rise map.steep x y m.steep n.steep h m.steep_is n.steep_is in
    let b : m.flat ≤ℤ n.flat = floors_rise map.flat x y m.flat n.flat h m.flat_is n.flat_is in
    let c : m.half ≤ℤ n.half = halves_rise m.steep m.flat n.steep n.flat m.half n.half a b m.half_is n.half_is in
    drawn_rise m.half n.half s t c m.time_is n.time_is

-- a map takes a time to one time
pub maps_same : (map : PairMap) (x s t : ℕ) → IsMapAt map x s → IsMapAt map x t → s ≡ t
maps_same map x s t m n =
    let a : s ≤ t = maps_rise map x x s t (omega arith) m n in
    let b : t ≤ s = maps_rise map x x t s (omega arith) n m in
    omega arith

-- ---- in 128 bits
pub half_is : (s f : ℤ) → IsHalf s f (int_div_euclid (s +ℤ f) (pos 2))
half_is s f = let k = euclid (s +ℤ f) 2 (omega arith) in record { at_or_below = omega (arith, ints, k.0); greatest = omega (arith, ints, k.1) }

-- the mean as the code makes it
made_mean_is : (s f : ℤ) → unsigned_abs s < 2 ^ 125 → unsigned_abs f < 2 ^ 125
    → through_bits (int_div_euclid (through_bits (through_bits s +ℤ through_bits f)) (pos 2)) ≡ int_div_euclid (s +ℤ f) (pos 2)
made_mean_is s f hs hf =
    let a : unsigned_abs (s +ℤ f) ≤ 2 ^ 126 = grind (arith, ints) in
    let d : unsigned_abs (int_div_euclid (s +ℤ f) (pos 2)) ≤ 2 ^ 126 = div_abs (s +ℤ f) 2 (2 ^ 126) a in
    rw (through_bits_fits s (2 ^ 125) (omega arith) (omega arith), through_bits_fits f (2 ^ 125) (omega arith) (omega arith))
    (rw (through_bits_fits (s +ℤ f) (2 ^ 126) a (omega arith)) (through_bits_fits (int_div_euclid (s +ℤ f) (pos 2)) (2 ^ 126) d (omega arith)))

drawn_abs : (h r : ℤ) → r ≡ int_max (pos 0) (int_min h (pos (2 ^ 62 - 1))) → (unsigned_abs r < 2 ^ 62) × (pos (unsigned_abs r) ≡ r)
drawn_abs h r e = (omega (arith, ints, clamps), omega (arith, ints, clamps))

-- the time as the code makes it
pub made_time_is : (s f d r : ℤ) → unsigned_abs s < 2 ^ 125 → unsigned_abs f < 2 ^ 125
    → d ≡ int_div_euclid (through_bits (through_bits s +ℤ through_bits f)) (pos 2)
    → r ≡ int_max (pos 0) (int_min (through_bits d) (pos (2 ^ 62 - 1)))
    → (pos (unsigned_abs (through_bits r)) ≡ int_max (pos 0) (int_min (int_div_euclid (s +ℤ f) (pos 2)) (pos (2 ^ 62 - 1)))) × (unsigned_abs (through_bits r) < 2 ^ 62)
made_time_is s f d r hs hf e g =
    let m : through_bits d ≡ int_div_euclid (s +ℤ f) (pos 2) = ap through_bits e ∙ made_mean_is s f hs hf in
    let k = drawn_abs (through_bits d) r g in
    let a : unsigned_abs r ≤ 2 ^ 62 = omega (arith, k.0) in
    rw (through_bits_fits r (2 ^ 62) a (omega arith)) (rw (← m) (k.1 ∙ g), k.0)
