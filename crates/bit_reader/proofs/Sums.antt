-- How the integers of bits split, in both byte orders.
use Rattle.std.proofs.Common.{ℕ, zero, suc, ◌+◌, ◌-◌, ◌*◌, ◌/◌, ◌%◌, ◌^◌, ◌<◌, ◌≤◌, ◌≡◌, List, get_or, refl, sym, ap, ◌∙◌, arith}
use Rattle.std.proofs.lemmas.Nat.{pow-add, shr-shr, mod-pow-add, mod_below}
use Rattle.std.proofs.Math.Nat.{pow-suc, mod-one}
use Rattle.std.specs.Int.{bit_at}
use Rattle.trace_types.specs.declared.byte_order.ByteOrderKind.{ByteOrderKind}
use Rattle.trace_types.specs.declared.byte_order.ByteOrderKind.TheVariants.{Little, Big}
use Rattle.bit_reader.specs.Bits.{bit, sum_below, integer}

-- a function's values at places that are the same
pub along : (f : ℕ → ℕ) (x y : ℕ) → x ≡ y → f x ≡ f y
along f x y h = ap f h

bit_below : (order : ByteOrderKind) (bytes : List ℕ) (p : ℕ) → bit order bytes p < 2
bit_below Little bytes p = mod_below (get_or bytes (p / 8) 0 / 2 ^ (p % 8)) 2 (omega arith)
bit_below Big bytes p = mod_below (get_or bytes (p / 8) 0 / 2 ^ (7 - p % 8)) 2 (omega arith)

-- the powers fall by one, so the sum is twice as great
doubled : (b : ℕ → ℕ) (k c : ℕ) → c ≤ k → sum_below c (λ i. b i * 2 ^ (suc k - 1 - i)) ≡ sum_below c (λ i. b i * 2 ^ (k - 1 - i)) * 2
doubled b k zero h = refl
doubled b k (suc c) h = omega (arith, doubled b k c (omega arith), top)
  where
    top : b c * 2 ^ (suc k - 1 - c) ≡ b c * 2 ^ (k - 1 - c) * 2
    top = let power = pow-suc 2 (k - 1 - c) in let same : 2 ^ (suc k - 1 - c) ≡ 2 ^ suc (k - 1 - c) = ap (λ e. 2 ^ e) (omega arith) in ap (λ w. b c * w) (same ∙ power) ∙ omega arith

-- a further bit stands below all those before
pub big_next : (bytes : List ℕ) (p n : ℕ) → integer Big bytes p (suc n) ≡ integer Big bytes p n * 2 + bit Big bytes (p + n)
big_next bytes p n = omega (arith, doubled (λ i. bit Big bytes (p + i)) n n (omega arith), last)
  where
    last : bit Big bytes (p + n) * 2 ^ (suc n - 1 - n) ≡ bit Big bytes (p + n)
    last = along (λ e. bit Big bytes (p + n) * 2 ^ e) (suc n - 1 - n) (0) (omega arith) ∙ omega arith

pub little_split : (bytes : List ℕ) (p m n : ℕ) → integer Little bytes p (m + n) ≡ integer Little bytes p m + integer Little bytes (p + m) n * 2 ^ m
little_split bytes p m zero = along (integer Little bytes p) (m + 0) (m) (omega arith) ∙ omega arith
little_split bytes p m (suc n) = along (integer Little bytes p) (m + suc n) (suc (m + n)) (omega arith) ∙ omega (arith, little_split bytes p m n, top)
  where
    top : bit Little bytes (p + (m + n)) * 2 ^ (m + n) ≡ bit Little bytes (p + m + n) * 2 ^ n * 2 ^ m
    top = along (λ q. bit Little bytes q * 2 ^ (m + n)) (p + (m + n)) (p + m + n) (omega arith) ∙ ap (λ w. bit Little bytes (p + m + n) * w) (pow-add 2 m n) ∙ omega arith

pub big_split : (bytes : List ℕ) (p m n : ℕ) → integer Big bytes p (m + n) ≡ integer Big bytes p m * 2 ^ n + integer Big bytes (p + m) n
big_split bytes p m zero = along (integer Big bytes p) (m + 0) (m) (omega arith) ∙ omega arith
big_split bytes p m (suc n) = along (integer Big bytes p) (m + suc n) (suc (m + n)) (omega arith) ∙ omega (arith, big_next bytes p (m + n), big_next bytes (p + m) n, big_split bytes p m n, pow-suc 2 n, scaled, place)
  where
    place : bit Big bytes (p + (m + n)) ≡ bit Big bytes (p + m + n)
    place = ap (bit Big bytes) (omega arith)

    scaled : integer Big bytes p m * 2 ^ suc n ≡ integer Big bytes p m * 2 ^ n * 2
    scaled = ap (λ w. integer Big bytes p m * w) (pow-suc 2 n) ∙ omega arith

pub integer_below : (order : ByteOrderKind) (bytes : List ℕ) (p n : ℕ) → integer order bytes p n < 2 ^ n
integer_below Little bytes p zero = omega arith
integer_below Little bytes p (suc n) = omega (arith, integer_below Little bytes p n, scaled (bit Little bytes (p + n)) (bit_below Little bytes (p + n)), pow-suc 2 n)
  where
    scaled : (b : ℕ) → b < 2 → b * 2 ^ n ≤ 2 ^ n
    scaled zero h = omega arith
    scaled (suc zero) h = omega arith
    scaled (suc (suc b)) h = omega (arith, h)
integer_below Big bytes p zero = omega arith
integer_below Big bytes p (suc n) = omega (arith, integer_below Big bytes p n, big_next bytes p n, bit_below Big bytes (p + n), pow-suc 2 n)

-- the bits of one byte, in little endian order
pub little_part : (bytes : List ℕ) (p n : ℕ) → p % 8 + n ≤ 8 → integer Little bytes p n ≡ get_or bytes (p / 8) 0 / 2 ^ (p % 8) % 2 ^ n
little_part bytes p zero h = omega (arith, mod-one (get_or bytes (p / 8) 0 / 2 ^ (p % 8)))
little_part bytes p (suc n) h = omega (arith, little_part bytes p n (omega arith), mod-pow-add (byte / 2 ^ (p % 8)) 1 n, top, size)
  where
    byte : ℕ
    byte = get_or bytes (p / 8) 0

    size : byte / 2 ^ (p % 8) % 2 ^ suc n ≡ byte / 2 ^ (p % 8) % 2 ^ (1 + n)
    size = ap (λ e. byte / 2 ^ (p % 8) % 2 ^ e) (omega arith)

    top : bit Little bytes (p + n) * 2 ^ n ≡ byte / 2 ^ (p % 8) / 2 ^ n % 2 ^ 1 * 2 ^ n
    top = along (λ q. bit_at (get_or bytes q 0) ((p + n) % 8) * 2 ^ n) ((p + n) / 8) (p / 8) (omega arith) ∙ along (λ q. bit_at byte q * 2 ^ n) ((p + n) % 8) (p % 8 + n) (omega arith) ∙ ap (λ w. w % 2 * 2 ^ n) (sym (shr-shr byte (p % 8) n))

-- the bits of one byte, in big endian order
pub big_part : (bytes : List ℕ) (p n : ℕ) → p % 8 + n ≤ 8 → integer Big bytes p n ≡ get_or bytes (p / 8) 0 / 2 ^ (8 - p % 8 - n) % 2 ^ n
big_part bytes p zero h = omega (arith, mod-one (get_or bytes (p / 8) 0 / 2 ^ (8 - p % 8 - 0)))
big_part bytes p (suc n) h = omega (arith, big_next bytes p n, big_part bytes p n (omega arith), mod-pow-add low n 1, size, last, high)
  where
    byte : ℕ
    byte = get_or bytes (p / 8) 0

    low : ℕ
    low = byte / 2 ^ (8 - p % 8 - suc n)

    size : low % 2 ^ suc n ≡ low % 2 ^ (n + 1)
    size = ap (λ e. low % 2 ^ e) (omega arith)

    last : bit Big bytes (p + n) ≡ low % 2 ^ 1
    last = along (λ q. bit_at (get_or bytes q 0) (7 - (p + n) % 8)) ((p + n) / 8) (p / 8) (omega arith) ∙ along (λ q. bit_at byte q) (7 - (p + n) % 8) (8 - p % 8 - suc n) (omega arith)

    high : low / 2 ^ 1 % 2 ^ n ≡ byte / 2 ^ (8 - p % 8 - n) % 2 ^ n
    high = ap (λ w. w % 2 ^ n) (shr-shr byte (8 - p % 8 - suc n) 1 ∙ along (λ e. byte / 2 ^ e) (8 - p % 8 - suc n + 1) (8 - p % 8 - n) (omega arith))
