-- The heights of lines at whole numbers, by sums over ℕ: an integer z is read as `up z - down z`.
use Rattle.std.proofs.Common.{◌≡◌, ℕ, ℤ, ◌+◌, ◌*◌, ◌<◌, ◌≤◌, ◌^◌, pos, negsuc, ◌+ℤ◌, ◌*ℤ◌, ◌-ℤ◌, ◌≤ℤ◌, ◌<ℤ◌, arith, refl, sym, ap, subst, mul-le-mul_left, lt_of_mul-lt-mul_right}
use Rattle.std.proofs.Math.Nat.{div-le_self}
use Rattle.std.proofs.lemmas.Nat.{mul-le}
use Rattle.std.specs.Int.{int_div_euclid}
use Rattle.std.specs.Int.RustNames.{unsigned_abs}
use Rattle.std.proofs.lemmas.Int.{ints, fits_signed_from_abs, unsigned_abs-mul, to_z-of_z}
use borrow.Author.Differences.{up, down, product_is}
use mir.Syntax.{w128}
use mir.Val.{to_z, of_z}
use Rattle.clock_fraction.specs.ClockMap.{IsFloorAt}
use Rattle.clock_fraction.specs.declared.line.Line.{Line}

-- a height at or below a line, without a difference
pub below_out : (p q x x0 y0 : ℕ) (f : ℤ) → ((f -ℤ pos y0) *ℤ pos q) ≤ℤ (pos p *ℤ (pos x -ℤ pos x0)) → up f * q + p * x0 ≤ (down f + y0) * q + p * x
below_out p q x x0 y0 f h =
    let z : ℤ = f -ℤ pos y0 in
    let w : ℤ = pos x -ℤ pos x0 in
    let a : up z + (down f + y0) ≡ down z + up f = omega (arith, ints) in
    let b : up w + x0 ≡ down w + x = omega (arith, ints) in
    let c = ap (λ n. n * q) a in
    let d = ap (λ n. p * n) b in
    let e = product_is z (pos q) in
    let g = product_is (pos p) w in
    let l : up (z *ℤ pos q) + down (pos p *ℤ w) ≤ up (pos p *ℤ w) + down (z *ℤ pos q) = omega (arith, ints) in
    omega (arith, c, d, e.0, e.1, g.0, g.1, l)

-- a height above a line, without a difference
pub above_out : (p q x x0 y0 : ℕ) (f : ℤ) → (pos p *ℤ (pos x -ℤ pos x0)) <ℤ ((f -ℤ pos y0 +ℤ pos 1) *ℤ pos q) → p * x + (down f + y0) * q < up f * q + q + p * x0
above_out p q x x0 y0 f h =
    let z : ℤ = f -ℤ pos y0 +ℤ pos 1 in
    let w : ℤ = pos x -ℤ pos x0 in
    let a : up z + (down f + y0) ≡ down z + (up f + 1) = omega (arith, ints) in
    let b : up w + x0 ≡ down w + x = omega (arith, ints) in
    let c = ap (λ n. n * q) a in
    let d = ap (λ n. p * n) b in
    let e = product_is z (pos q) in
    let g = product_is (pos p) w in
    let l : up (pos p *ℤ w) + down (z *ℤ pos q) < up (z *ℤ pos q) + down (pos p *ℤ w) = omega (arith, ints) in
    omega (arith, c, d, e.0, e.1, g.0, g.1, l)

-- of two lines of one slope, the one that isn't lower at x than the other is at y isn't so when rounded down
pub floors_ordered : (a b : Line) (x y : ℕ) (f g : ℤ) → a.slope.p ≡ b.slope.p → a.slope.q ≡ b.slope.q
    → a.slope.q * a.y0 + a.slope.p * x + a.slope.p * b.x0 ≤ a.slope.q * b.y0 + a.slope.p * y + a.slope.p * a.x0
    → IsFloorAt a x f → IsFloorAt b y g → f ≤ℤ g
floors_ordered a b x y f g sp sq h m n =
    let p : ℕ = a.slope.p in
    let q : ℕ = a.slope.q in
    let k : up f * q + p * a.x0 ≤ (down f + a.y0) * q + p * x = below_out p q x a.x0 a.y0 f m.at_or_below in
    let l0 : b.slope.p * y + (down g + b.y0) * b.slope.q < up g * b.slope.q + b.slope.q + b.slope.p * b.x0 = above_out b.slope.p b.slope.q y b.x0 b.y0 g n.greatest in
    let l : p * y + (down g + b.y0) * q < up g * q + q + p * b.x0 = rw (sp, sq) l0 in
    let s : (up f + down g) * q < (up g + down f + 1) * q = omega (arith, h, k, l) in
    let t : up f + down g < up g + down f + 1 = lt_of_mul-lt-mul_right q s in
    omega (arith, ints, t)

-- a line's height doesn't fall
pub floors_rise : (a : Line) (x y : ℕ) (f g : ℤ) → x ≤ y → IsFloorAt a x f → IsFloorAt a y g → f ≤ℤ g
floors_rise a x y f g h m n = floors_ordered a a x y f g refl refl (let k = mul-le-mul_left a.slope.p h in omega (arith, k)) m n

-- a line has one height, rounded down
pub floors_same : (a : Line) (x : ℕ) (f g : ℤ) → IsFloorAt a x f → IsFloorAt a x g → f ≡ g
floors_same a x f g m n =
    let h : f ≤ℤ g = floors_rise a x x f g (omega arith) m n in
    let k : g ≤ℤ f = floors_rise a x x g f (omega arith) n m in
    omega (arith, ints)

-- a quotient that is rounded down
pub euclid : (z : ℤ) (q : ℕ) → 0 < q → (up (int_div_euclid z (pos q)) * q + down z ≤ down (int_div_euclid z (pos q)) * q + up z) × (up z + down (int_div_euclid z (pos q)) * q < down z + up (int_div_euclid z (pos q)) * q + q)
euclid (pos a) q h = (omega arith, omega arith)
euclid (negsuc a) q h = (omega arith, omega arith)

less_in : (e z : ℤ) (q : ℕ) → up e * q + down z ≤ down e * q + up z → (e *ℤ pos q) ≤ℤ z
less_in e z q h = let k = product_is e (pos q) in omega (arith, ints, h, k.0, k.1)

more_in : (e z : ℤ) (q : ℕ) → up z + down e * q < down z + up e * q + q → z <ℤ ((e +ℤ pos 1) *ℤ pos q)
more_in e z q h =
    let a : up (e +ℤ pos 1) + down e ≡ down (e +ℤ pos 1) + (up e + 1) = omega (arith, ints) in
    let b = ap (λ n. n * q) a in
    let k = product_is (e +ℤ pos 1) (pos q) in omega (arith, ints, h, b, k.0, k.1)

-- the height that the code computes
abbrev pub height : Line → ℕ → ℤ
height line x = pos line.y0 +ℤ int_div_euclid (pos line.slope.p *ℤ (pos x -ℤ pos line.x0)) (pos line.slope.q)

-- it is the line's, rounded down
pub height_is_floor : (line : Line) (x : ℕ) → 0 < line.slope.q → IsFloorAt line x (height line x)
height_is_floor line x some =
    let z : ℤ = pos line.slope.p *ℤ (pos x -ℤ pos line.x0) in
    let e : ℤ = int_div_euclid z (pos line.slope.q) in
    let back : (pos line.y0 +ℤ e) -ℤ pos line.y0 ≡ e = omega (arith, ints) in
    let k = euclid z line.slope.q some in
    record { at_or_below = rw back (less_in e z line.slope.q k.0); greatest = rw back (more_in e z line.slope.q k.1) }

-- ---- in 128 bits
abbrev pub through_bits : ℤ → ℤ
through_bits z = to_z w128 (of_z w128 z)

pub through_bits_fits : (z : ℤ) (m : ℕ) → unsigned_abs z ≤ m → m < 2 ^ 127 → through_bits z ≡ z
through_bits_fits z m h l = to_z-of_z w128 z (fits_signed_from_abs w128 z (omega arith))

pub div_abs : (z : ℤ) (q m : ℕ) → unsigned_abs z ≤ m → unsigned_abs (int_div_euclid z (pos q)) ≤ m
div_abs (pos a) q m le = omega (arith, div-le_self a q)
div_abs (negsuc a) q m le = omega (arith, div-le_self a q)

sub_abs : (a c m : ℕ) → a ≤ m → c ≤ m → unsigned_abs (pos a -ℤ pos c) ≤ m
sub_abs a c m ha hc = grind (arith, ints)

add_abs : (a m n : ℕ) (z : ℤ) → a ≤ m → unsigned_abs z ≤ n → unsigned_abs (pos a +ℤ z) ≤ m + n
add_abs a m n z ha hz = grind (arith, ints)

mul_abs : (p m n : ℕ) (z : ℤ) → p ≤ m → unsigned_abs z ≤ n → unsigned_abs (pos p *ℤ z) ≤ m * n
mul_abs p m n z hp hz = subst (λ k. k ≤ m * n) (sym (unsigned_abs-mul (pos p) z)) (mul-le p (unsigned_abs z) m n hp hz)

-- the height as the code makes it
abbrev pub made_height : Line → ℕ → ℤ
made_height line x = through_bits (through_bits (pos line.y0) +ℤ through_bits (int_div_euclid (through_bits (through_bits (pos line.slope.p) *ℤ through_bits (through_bits (pos x) -ℤ through_bits (pos line.x0)))) (through_bits (pos line.slope.q))))

pub made_height_is : (line : Line) (x : ℕ) → x < 2 ^ 62 → (made_height line x ≡ height line x) × (unsigned_abs (height line x) < 2 ^ 125)
made_height_is line x hx =
    let x0 : ℕ = line.x0 in
    let y0 : ℕ = line.y0 in
    let p : ℕ = line.slope.p in
    let q : ℕ = line.slope.q in
    let hx0 : x0 < 2 ^ 62 = line.x0_below in
    let hy0 : y0 < 2 ^ 62 = line.y0_below in
    let hp : p < 2 ^ 62 = line.slope.p_below in
    let hq : q < 2 ^ 62 = line.slope.q_below in
    let d : ℤ = pos x -ℤ pos x0 in
    let ad : unsigned_abs d ≤ 2 ^ 62 = sub_abs x x0 (2 ^ 62) (omega arith) (omega arith) in
    let am : unsigned_abs (pos p *ℤ d) ≤ 2 ^ 62 * 2 ^ 62 = mul_abs p (2 ^ 62) (2 ^ 62) d (omega arith) ad in
    let e : ℤ = int_div_euclid (pos p *ℤ d) (pos q) in
    let af : unsigned_abs e ≤ 2 ^ 124 = div_abs (pos p *ℤ d) q (2 ^ 124) am in
    let ah : unsigned_abs (pos y0 +ℤ e) ≤ 2 ^ 62 + 2 ^ 124 = add_abs y0 (2 ^ 62) (2 ^ 124) e (omega arith) af in (
      rw (through_bits_fits (pos x) (2 ^ 62) (omega arith) (omega arith), through_bits_fits (pos x0) (2 ^ 62) (omega arith) (omega arith), through_bits_fits (pos y0) (2 ^ 62) (omega arith) (omega arith), through_bits_fits (pos p) (2 ^ 62) (omega arith) (omega arith), through_bits_fits (pos q) (2 ^ 62) (omega arith) (omega arith))
          (rw (through_bits_fits d (2 ^ 62) ad (omega arith)) (rw (through_bits_fits (pos p *ℤ d) (2 ^ 124) am (omega arith)) (rw (through_bits_fits e (2 ^ 124) af (omega arith))
          (through_bits_fits (pos y0 +ℤ e) (2 ^ 62 + 2 ^ 124) ah (omega arith))))),
      omega arith,
    )
