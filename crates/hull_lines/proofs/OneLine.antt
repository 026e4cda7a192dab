-- Steep lines and flat lines have one height at each time.
use Rattle.std.proofs.Common.{◌≡◌, ℕ, ℤ, ◌+◌, ◌*◌, ◌<◌, ◌≤◌, ◌^◌, ◌≤ℤ◌, arith, sym, ap, List, mul-le-mul_right}
use Rattle.std.proofs.Math.Nat.{lt_of_mul-lt-mul_right}
use Rattle.std.proofs.lemmas.Int.{ints}
use Rattle.std.proofs.lemmas.List.Elements.{All-contains}
use borrow.Author.Differences.{up, down}
use Rattle.clock_fraction.specs.declared.line.Line.{Line}
use Rattle.clock_fraction.specs.declared.slope.Slope.{Slope}
use Rattle.clock_fraction.specs.ClockMap.{IsFloorAt}
use Rattle.clock_fraction.specs.Fractions.{IsSame}
use Rattle.clock_fraction.proofs.Heights.{below_out, above_out, height, height_is_floor}
use Rattle.hull_lines.specs.declared.point.ClockPoint.{ClockPoint}
use Rattle.hull_lines.specs.Lines.{through, IsHighestAt, IsLowestAt, IsSteep, IsFlat}

-- over plain numbers: F - f is a height of a line of slope p / q, and G - g the next height but one of the same line with slope s / t
ordered : (p q s t x x0 y0 F f G g : ℕ) → 0 < q → 0 < t → p * t ≡ s * q → F * q + p * x0 ≤ (f + y0) * q + p * x → s * x + (g + y0) * t < G * t + t + s * x0 → F + g < G + f + 1
ordered p q s t x x0 y0 F f G g someq somet same below above =
    let a = mul-le-mul_right t below in
    let b = mul-le-mul_right q above in
    let c = ap (λ n. n * x) same in
    let d = ap (λ n. n * x0) same in
    let e : (F + g) * (q * t) < (G + f + 1) * (q * t) = omega (arith, a, b, c, d, someq) in
    lt_of_mul-lt-mul_right (q * t) e

-- lines through one point, with slopes that are equal as fractions, have one height
pub floors_of_same : (s t : Slope) (point : ClockPoint) (x : ℕ) (f g : ℤ) → IsSame s t → IsFloorAt (through s point) x f → IsFloorAt (through t point) x g → f ≤ℤ g
floors_of_same s t point x f g same m n =
    let a = below_out s.p s.q x point.x point.y f m.at_or_below in
    let b = above_out t.p t.q x point.x point.y g n.greatest in
    let c : up f + down g < up g + down f + 1 = ordered s.p s.q t.p t.q x point.x point.y (up f) (down f) (up g) (down g) s.q_above t.q_above same a b in
    omega (arith, ints, c)

-- the greatest height of lines of one slope through the points isn't greater than that with an equal slope
highest_of_same : (points : List ClockPoint) (s t : Slope) (x : ℕ) (f g : ℤ) → IsSame s t → IsHighestAt points s x f → IsHighestAt points t x g → f ≤ℤ g
highest_of_same points s t x f g same a b =
    let h : ℤ = height (through t a.point) x in
    let floor : IsFloorAt (through t a.point) x h = height_is_floor (through t a.point) x t.q_above in
    let k : f ≤ℤ h = floors_of_same s t a.point x f h same a.reached floor in
    let l : h ≤ℤ g = All-contains (λ v. (e : ℤ) → IsFloorAt (through t v) x e → e ≤ℤ g) points a.point b.bound a.among h floor in
    omega (arith, ints, k, l)

lowest_of_same : (points : List ClockPoint) (s t : Slope) (x : ℕ) (f g : ℤ) → IsSame s t → IsLowestAt points s x f → IsLowestAt points t x g → f ≤ℤ g
lowest_of_same points s t x f g same a b =
    let h : ℤ = height (through s b.point) x in
    let floor : IsFloorAt (through s b.point) x h = height_is_floor (through s b.point) x s.q_above in
    let k : h ≤ℤ g = floors_of_same s t b.point x h g same floor b.reached in
    let l : f ≤ℤ h = All-contains (λ v. (e : ℤ) → IsFloorAt (through s v) x e → f ≤ℤ e) points b.point a.bound b.among h floor in
    omega (arith, ints, k, l)

pub steep_slopes : (lower upper : List ClockPoint) (drift : ℕ) (a b : Line) → IsSteep lower upper drift a → IsSteep lower upper drift b → IsSame a.slope b.slope
steep_slopes lower upper drift a b s t =
    let h = s.greatest b.slope.p b.slope.q t.admissible in
    let k = t.greatest a.slope.p a.slope.q s.admissible in
    omega (arith, h, k)

pub flat_slopes : (lower upper : List ClockPoint) (drift : ℕ) (a b : Line) → IsFlat lower upper drift a → IsFlat lower upper drift b → IsSame a.slope b.slope
flat_slopes lower upper drift a b s t =
    let h = s.least b.slope.p b.slope.q t.admissible in
    let k = t.least a.slope.p a.slope.q s.admissible in
    omega (arith, h, k)

pub steep_heights : (lower upper : List ClockPoint) (drift : ℕ) (a b : Line) (x : ℕ) (f g : ℤ) → x < 2 ^ 62 → IsSteep lower upper drift a → IsSteep lower upper drift b → IsFloorAt a x f → IsFloorAt b x g → f ≡ g
steep_heights lower upper drift a b x f g l s t m n =
    let same : IsSame a.slope b.slope = steep_slopes lower upper drift a b s t in
    let h = highest_of_same lower a.slope b.slope x f g same (s.highest.height x l f m) (t.highest.height x l g n) in
    let k = highest_of_same lower b.slope a.slope x g f (sym same) (t.highest.height x l g n) (s.highest.height x l f m) in
    omega (arith, ints, h, k)

pub flat_heights : (lower upper : List ClockPoint) (drift : ℕ) (a b : Line) (x : ℕ) (f g : ℤ) → x < 2 ^ 62 → IsFlat lower upper drift a → IsFlat lower upper drift b → IsFloorAt a x f → IsFloorAt b x g → f ≡ g
flat_heights lower upper drift a b x f g l s t m n =
    let same : IsSame a.slope b.slope = flat_slopes lower upper drift a b s t in
    let h = lowest_of_same upper a.slope b.slope x f g same (s.lowest.height x l f m) (t.lowest.height x l g n) in
    let k = lowest_of_same upper b.slope a.slope x g f (sym same) (t.lowest.height x l g n) (s.lowest.height x l f m) in
    omega (arith, ints, h, k)
