-- Bits that are aligned.
use Rattle.std.proofs.Common.{◌≡◌, ◌∙◌, ℕ, zero, suc, ◌+◌, ◌-◌, ◌*◌, ◌/◌, ◌%◌, ◌<◌, ◌≤◌, refl, ap, arith}
use Rattle.std.proofs.Math.Nat.{mod-add-div', mod-eq_of_lt, mod_self, mul-le-mul_right, lt_of_mul-lt-mul_right}
use Rattle.std.specs.Int.{next_multiple_of}

up_by : (x y k r : ℕ) → 1 ≤ y → x ≤ k * y → x % y ≡ r → next_multiple_of x y ≤ k * y
up_by x y k zero pos le even = omega (arith, le, gap ∙ mod_self y)
  where
    gap : (y - x % y) % y ≡ y % y
    gap = ap (λ w. w % y) (omega (arith, even))
up_by x y k (suc r) pos le odd = omega (arith, le, odd, parts, short, times)
  where
    parts : x % y + x / y * y ≡ x
    parts = mod-add-div' x y

    short : (y - x % y) % y ≡ y - x % y
    short = mod-eq_of_lt (omega (arith, pos, odd))

    below : x / y < k
    below = lt_of_mul-lt-mul_right y (omega (arith, le, odd, parts))

    times : (x / y + 1) * y ≤ k * y
    times = mul-le-mul_right y (omega (arith, below))

-- up to a multiple of y there is room for the next one
up : (x y k : ℕ) → 1 ≤ y → x ≤ k * y → next_multiple_of x y ≤ k * y
up x y k pos le = up_by x y k (x % y) pos le refl

-- the greatest bit is a multiple of each alignment
whole : (y : ℕ) → 65536 % y ≡ 0 → 140737488355328 * (65536 / y) * y ≡ 9223372036854775808
whole y h = omega (arith, h, mod-add-div' 65536 y)

pub within_all : (x y : ℕ) → x ≤ 9223372036854775808 → 1 ≤ y → 65536 % y ≡ 0 → (x ≤ next_multiple_of x y) × (next_multiple_of x y ≤ 9223372036854775808)
within_all x y h pos divides =
    let all = whole y divides in
    (omega arith, omega (arith, all, up x y (140737488355328 * (65536 / y)) pos (omega (arith, h, all))))
