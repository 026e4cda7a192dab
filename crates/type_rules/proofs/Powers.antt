-- Powers of two.
use Rattle.std.proofs.Common.{◌≡◌, ℕ, zero, suc, ◌≤◌, ◌+◌, ◌-◌, ◌*◌, ◌/◌, ◌%◌, ◌^◌, Bool, true, false, nat_le, refl, ap, ◌∙◌, arith}
use Rattle.std.proofs.lemmas.Bool.{eqb-true, leb-true, leb-false}
use Rattle.std.proofs.lemmas.Nat.{pow-add}
use Rattle.std.proofs.Math.Nat.{mul-mod_left, pow-suc}
use Rattle.std.proofs.Math.Pow.{pow_mono}
use Rattle.std.specs.Int.{is_power_of_two}
use Rattle.std.specs.Int.Count.{ones_in}

no_ones : (d n : ℕ) → n ≤ d → ones_in d n ≡ 0 → n ≡ 0
unfolding ones_in
no_ones zero n h e = omega (arith, h)
no_ones (suc d) n h e =
    let whole : n % 2 + ones_in d (n / 2) ≡ 0 = e in
    let half = no_ones d (n / 2) (omega (arith, h)) (omega (arith, whole)) in
    omega (arith, half, whole)

doubled : (n r d : ℕ) → n / 2 ≤ d → n % 2 ≡ r → r + ones_in d (n / 2) ≡ 1 → (ones_in d (n / 2) ≡ 1 → (k : ℕ) × (n / 2 ≡ 2 ^ k)) → (k : ℕ) × (n ≡ 2 ^ k)
unfolding ones_in
doubled n zero d h r e half = let k = half (omega (arith, e)) in (suc k.0, omega (arith, k.1, r, pow-suc 2 k.0))
doubled n (suc zero) d h r e half = let none = no_ones d (n / 2) h (omega (arith, e)) in (0, omega (arith, none, r))
doubled n (suc (suc m)) d h r e half = absurd (omega (arith, r))

one_digit : (d n : ℕ) → n ≤ d → ones_in d n ≡ 1 → (k : ℕ) × (n ≡ 2 ^ k)
unfolding ones_in
one_digit zero n h e = absurd (let none : 0 ≡ 1 = e in omega (arith, none))
one_digit (suc d) n h e = doubled n (n % 2) d (omega (arith, h)) refl e (one_digit d (n / 2) (omega (arith, h)))

is_power : (n : ℕ) → is_power_of_two n ≡ true → (k : ℕ) × (n ≡ 2 ^ k)
unfolding lib.Count.ones
is_power n e = one_digit n n (omega arith) (eqb-true _ _ e)

divides : (k : ℕ) → k ≤ 16 → 65536 % 2 ^ k ≡ 0
divides k h = ap (λ n. n % 2 ^ k) whole ∙ mul-mod_left (2 ^ (16 - k)) (2 ^ k)
  where
    whole : 65536 ≡ 2 ^ (16 - k) * 2 ^ k
    whole = ap (λ e. 2 ^ e) (split k h) ∙ pow-add 2 (16 - k) k
      where
        split : (k : ℕ) → k ≤ 16 → 16 ≡ 16 - k + k
        split k h = omega (arith, h)

-- a power of two of at most 65,536 divides that
pub power_aligns : (n : ℕ) → is_power_of_two n ≡ true → n ≤ 65536 → (1 ≤ n) × (65536 % n ≡ 0)
power_aligns n e h = by (is_power n e)
  where
    by : ((k : ℕ) × (n ≡ 2 ^ k)) → (1 ≤ n) × (65536 % n ≡ 0)
    by (k, is) = (omega (arith, is, pow_mono {i = 0} {j = k} (omega arith)), ap (λ m. 65536 % m) is ∙ divides k (small (nat_le k 16) refl))
      where
        small : (b : Bool) → nat_le k 16 ≡ b → k ≤ 16
        small true e = leb-true k 16 e
        small false e = let more = pow_mono {i = 17} {j = k} (leb-false k 16 e) in absurd (omega (arith, more, is, h))
