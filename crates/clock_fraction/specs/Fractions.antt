-- The order of fractions, by cross products.
use Rattle.std.specs.Prelude.{◌≡◌, ◌*◌, ◌<◌}
use Rattle.clock_fraction.specs.declared.slope.Slope.{Slope}

-- the first fraction is less than the second
abbrev pub IsBelow : Slope → Slope → Type 0
IsBelow a b = a.p * b.q < b.p * a.q

-- the two fractions are equal
abbrev pub IsSame : Slope → Slope → Type 0
IsSame a b = a.p * b.q ≡ b.p * a.q
