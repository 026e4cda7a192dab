-- What comes of lower and upper points, as a caller sees it (this project's own).
use Rattle.std.specs.Prelude.{ℕ, ◌≡◌, ◌<◌, ◌⊎◌, ⊤, List, length}
use Rattle.clock_fraction.specs.declared.pair_map.PairMap.{PairMap}
use Rattle.hull_lines.specs.declared.point.ClockPoint.{ClockPoint}
use Rattle.hull_lines.specs.declared.outcome.Certificate.{Certificate}
use Rattle.hull_lines.specs.declared.outcome.Fit.{Fit}
use Rattle.hull_lines.specs.declared.outcome.Fit.TheVariants.{Map, Absent, Refused}
use Rattle.hull_lines.specs.Certificates.{IsContradiction}
use Rattle.hull_lines.specs.Lines.{IsSteep, IsFlat}
use Rattle.hull_lines.specs.Slopes.{IsAdmissible}

-- a fact about the map, if there is one
abbrev pub IfMap : Fit → (PairMap → Type 0) → Type 0
IfMap (Map map) P = P map
IfMap (Absent n m) P = ⊤
IfMap (Refused c) P = ⊤

-- a fact about the numbers of points, if points are missing
abbrev pub IfAbsent : Fit → (ℕ → ℕ → Type 0) → Type 0
IfAbsent (Map map) P = ⊤
IfAbsent (Absent n m) P = P n m
IfAbsent (Refused c) P = ⊤

-- a fact about the certificate, if there is one
abbrev pub IfRefused : Fit → (Certificate → Type 0) → Type 0
IfRefused (Map map) P = ⊤
IfRefused (Absent n m) P = ⊤
IfRefused (Refused c) P = P c

-- a map came
abbrev pub IsMap : Fit → Type 0
IsMap (Map map) = ⊤
IsMap (Absent n m) = ⊥
IsMap (Refused c) = ⊥

-- points are missing
abbrev pub IsAbsent : Fit → Type 0
IsAbsent (Map map) = ⊥
IsAbsent (Absent n m) = ⊤
IsAbsent (Refused c) = ⊥

-- a list is empty
abbrev pub LacksPoints : List ClockPoint → List ClockPoint → Type 0
LacksPoints lower upper = (length lower ≡ 0) ⊎ (length upper ≡ 0)

-- the map lies half way between the steepest line and the flattest one, and both rise
pub record IsMapOf (lower upper : List ClockPoint) (drift : ℕ) (map : PairMap) : Type 0 where
  pub some_lower : 0 < length lower
  pub some_upper : 0 < length upper
  pub steep : IsSteep lower upper drift map.steep
  pub flat : IsFlat lower upper drift map.flat
  pub steep_rises : 0 < map.steep.slope.p
  pub flat_rises : 0 < map.flat.slope.p

-- these are the numbers of points
pub record AreCounts (lower upper : List ClockPoint) (n m : ℕ) : Type 0 where
  pub lower_count : n ≡ length lower
  pub upper_count : m ≡ length upper

-- there are points of both kinds, which contradict each other, and no slope is admissible
pub record IsRefusal (lower upper : List ClockPoint) (drift : ℕ) (certificate : Certificate) : Type 0 where
  pub some_lower : 0 < length lower
  pub some_upper : 0 < length upper
  pub contradiction : IsContradiction lower upper drift certificate
  pub no_slope : (p q : ℕ) → ¬ IsAdmissible lower upper drift p q
