-- The time of a clock's value, as it is computed in 128 bits.
use Rattle.std.proofs.Common.{◌≡◌, ◌∙◌, ℕ, ℤ, ◌+◌, ◌*◌, ◌<◌, ◌≤◌, ◌^◌, pos, negsuc, neg_ℤ, ◌+ℤ◌, ◌*ℤ◌, ◌≤ℤ◌, to_z, of_z, arith, sym, ap, subst}
use Rattle.std.proofs.Math.Nat.{div-le_self}
use Rattle.std.proofs.lemmas.Nat.{mul-le}
use Rattle.std.proofs.lemmas.Int.{ints, fits_signed_from_abs, to_z-of_z, unsigned_abs-mul}
use Rattle.std.specs.Int.{int_div_euclid}
use Rattle.std.specs.Int.RustNames.{FitsSigned, unsigned_abs}
use mir.Syntax.{w128}
use Rattle.type_table.specs.TraceMetas.{IsOffset}

abbrev b : ℤ → ℤ
b z = to_z w128 (of_z w128 z)

within : (z : ℤ) (m : ℕ) → unsigned_abs z ≤ m → m < 2 ^ 127 → FitsSigned w128 z
within z m h l = fits_signed_from_abs w128 z (omega (arith, h, l))

back : (z : ℤ) (m : ℕ) → unsigned_abs z ≤ m → m < 2 ^ 127 → b z ≡ z
back z m h l = to_z-of_z w128 z (within z m h l)

offset_abs : (z : ℤ) → IsOffset z → unsigned_abs z ≤ 2 ^ 64
offset_abs (pos n) h = let top : pos n ≤ℤ pos 18446744073709551615 = h.greatest in omega (arith, ints)
offset_abs (negsuc n) h = let low : neg_ℤ (pos 9223372036854775808) ≤ℤ negsuc n = h.least in omega (arith, ints)

plus_abs : (z y : ℤ) (m n : ℕ) → unsigned_abs z ≤ m → unsigned_abs y ≤ n → unsigned_abs (z +ℤ y) ≤ m + n
plus_abs z y m n hz hy = grind (arith, ints)

times_abs : (z : ℤ) (m k : ℕ) → unsigned_abs z ≤ m → unsigned_abs (z *ℤ pos k) ≤ m * k
times_abs z m k h = subst (λ n. n ≤ m * k) (sym (unsigned_abs-mul z (pos k))) (mul-le (unsigned_abs z) k m k h (omega arith))

div_abs : (z : ℤ) (q m : ℕ) → unsigned_abs z ≤ m → unsigned_abs (int_div_euclid z (pos q)) ≤ m
div_abs (pos a) q m h = omega (arith, h, div-le_self a q)
div_abs (negsuc a) q m h = omega (arith, h, div-le_self a q)

-- the parts of a time
record Parts (os off : ℤ) (v freq : ℕ) : Type 0 where
  seconds : b (b os *ℤ pos 1000000000) ≡ os *ℤ pos 1000000000
  counts : b (b (b off +ℤ b (pos v)) *ℤ pos 1000000000) ≡ (off +ℤ pos v) *ℤ pos 1000000000
  rate : b (pos freq) ≡ pos freq
  quotient : b (int_div_euclid ((off +ℤ pos v) *ℤ pos 1000000000) (pos freq)) ≡ int_div_euclid ((off +ℤ pos v) *ℤ pos 1000000000) (pos freq)
  sum : unsigned_abs (os *ℤ pos 1000000000 +ℤ int_div_euclid ((off +ℤ pos v) *ℤ pos 1000000000) (pos freq)) ≤ 2 ^ 64 * 1000000000 + (2 ^ 64 + 2 ^ 64) * 1000000000

parts : (os off : ℤ) (v freq : ℕ) → IsOffset os → IsOffset off → v < 2 ^ 64 → freq < 2 ^ 64 → Parts os off v freq
parts os off v freq hs ho hv hf =
    let s : unsigned_abs os ≤ 2 ^ 64 = offset_abs os hs in
    let o : unsigned_abs off ≤ 2 ^ 64 = offset_abs off ho in
    let n : unsigned_abs (pos v) ≤ 2 ^ 64 = omega (arith, hv) in
    let sk = times_abs os (2 ^ 64) 1000000000 s in
    let on = plus_abs off (pos v) (2 ^ 64) (2 ^ 64) o n in
    let onk = times_abs (off +ℤ pos v) (2 ^ 64 + 2 ^ 64) 1000000000 on in
    let q = div_abs ((off +ℤ pos v) *ℤ pos 1000000000) freq ((2 ^ 64 + 2 ^ 64) * 1000000000) onk in
    record {
      seconds = ap (λ z. b (z *ℤ pos 1000000000)) (back os (2 ^ 64) s (omega arith)) ∙ back (os *ℤ pos 1000000000) (2 ^ 64 * 1000000000) sk (omega arith);
      counts = ap (λ z. b (b (z +ℤ b (pos v)) *ℤ pos 1000000000)) (back off (2 ^ 64) o (omega arith))
          ∙ ap (λ z. b (b (off +ℤ z) *ℤ pos 1000000000)) (back (pos v) (2 ^ 64) n (omega arith))
          ∙ ap (λ z. b (z *ℤ pos 1000000000)) (back (off +ℤ pos v) (2 ^ 64 + 2 ^ 64) on (omega arith))
          ∙ back ((off +ℤ pos v) *ℤ pos 1000000000) ((2 ^ 64 + 2 ^ 64) * 1000000000) onk (omega arith);
      rate = back (pos freq) (2 ^ 64) (omega (arith, hf)) (omega arith);
      quotient = back (int_div_euclid ((off +ℤ pos v) *ℤ pos 1000000000) (pos freq)) ((2 ^ 64 + 2 ^ 64) * 1000000000) q (omega arith);
      sum = plus_abs (os *ℤ pos 1000000000) (int_div_euclid ((off +ℤ pos v) *ℤ pos 1000000000) (pos freq)) (2 ^ 64 * 1000000000) ((2 ^ 64 + 2 ^ 64) * 1000000000) sk q;
    }

quotient_shown : (os off : ℤ) (v freq : ℕ) → Parts os off v freq
    → b (int_div_euclid (b (b (b off +ℤ b (pos v)) *ℤ pos 1000000000)) (b (pos freq))) ≡ int_div_euclid ((off +ℤ pos v) *ℤ pos 1000000000) (pos freq)
quotient_shown os off v freq p = ap (λ z. b (int_div_euclid z (b (pos freq)))) p.counts ∙ ap (λ z. b (int_div_euclid ((off +ℤ pos v) *ℤ pos 1000000000) z)) p.rate ∙ p.quotient

sum_shown : (os off : ℤ) (v freq : ℕ) → Parts os off v freq
    → b (b os *ℤ pos 1000000000) +ℤ b (int_div_euclid (b (b (b off +ℤ b (pos v)) *ℤ pos 1000000000)) (b (pos freq))) ≡ os *ℤ pos 1000000000 +ℤ int_div_euclid ((off +ℤ pos v) *ℤ pos 1000000000) (pos freq)
sum_shown os off v freq p = ap (λ z. z +ℤ b (int_div_euclid (b (b (b off +ℤ b (pos v)) *ℤ pos 1000000000)) (b (pos freq)))) p.seconds ∙ ap (λ z. os *ℤ pos 1000000000 +ℤ z) (quotient_shown os off v freq p)

pub time_fits : (os off : ℤ) (v freq : ℕ) → IsOffset os → IsOffset off → v < 2 ^ 64 → freq < 2 ^ 64
    → FitsSigned w128 (b (b os *ℤ pos 1000000000) +ℤ b (int_div_euclid (b (b (b off +ℤ b (pos v)) *ℤ pos 1000000000)) (b (pos freq))))
time_fits os off v freq hs ho hv hf =
    let p = parts os off v freq hs ho hv hf in
    subst (FitsSigned w128) (sym (sum_shown os off v freq p)) (within _ (2 ^ 64 * 1000000000 + (2 ^ 64 + 2 ^ 64) * 1000000000) p.sum (omega arith))

pub time_shown : (os off : ℤ) (v freq : ℕ) → IsOffset os → IsOffset off → v < 2 ^ 64 → freq < 2 ^ 64
    → b (b (b os *ℤ pos 1000000000) +ℤ b (int_div_euclid (b (b (b off +ℤ b (pos v)) *ℤ pos 1000000000)) (b (pos freq)))) ≡ os *ℤ pos 1000000000 +ℤ int_div_euclid ((off +ℤ pos v) *ℤ pos 1000000000) (pos freq)
time_shown os off v freq hs ho hv hf =
    let p = parts os off v freq hs ho hv hf in
    ap b (sum_shown os off v freq p) ∙ back _ (2 ^ 64 * 1000000000 + (2 ^ 64 + 2 ^ 64) * 1000000000) p.sum (omega arith)
