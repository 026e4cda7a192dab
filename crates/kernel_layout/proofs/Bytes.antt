-- Integers of 8 bits that are bytes.
use Rattle.std.proofs.Common.{◌≡◌, ◌∙◌, ℕ, ℤ, pos, negsuc, ◌-ℤ◌, suc, ◌+◌, ◌-◌, ◌/◌, ◌%◌, ◌^◌, ◌<◌, ◌≤◌, ◌&&◌, nat_le, nat_lt, Bool, true, false, cond, if◌then◌else◌, List, get_or, Option, Some, None, refl, ap, arith}
use Rattle.std.proofs.lemmas.Bool.{leb-false, ltb-false}
use Rattle.std.specs.Int.{cast_unsigned, w128}
use Rattle.trace_types.specs.declared.byte_order.ByteOrderKind.{ByteOrderKind}
use Rattle.trace_types.specs.declared.byte_order.ByteOrderKind.TheVariants.{Little, Big}
use Rattle.type_table.specs.declared.integer.Integer.{Integer}
use Rattle.bit_reader.specs.Bits.{integer}
use Rattle.bit_reader.proofs.Sums.{big_part, little_part}
use Rattle.ctf_fields.specs.Leaves.{integer_at, integer_read, value_of}
use Rattle.read_plan.specs.FixedSizes.{within_byte}
use Rattle.read_plan.proofs.Passing.{there}

-- ---- the value of a byte

below_zero : (n : ℕ) → n < 256 → cast_unsigned w128 (pos n -ℤ pos 256) % 256 ≡ n
below_zero n h = by (nat_lt n 256) refl
  where
    by : (b : Bool) → nat_lt n 256 ≡ b → cast_unsigned w128 (cond b (negsuc (256 - suc n)) (pos (n - 256))) % 256 ≡ n
    by true is = omega (arith, h)
    by false is = omega (arith, h, ltb-false n 256 is)

-- the low 8 bits of a byte's value are the byte, whether it has a sign or not
pub byte_value : (i : Integer) (n : ℕ) → i.size ≡ 8 → n < 256 → cast_unsigned w128 (value_of i n) % 256 ≡ n
byte_value i n size h = ap (λ m. cast_unsigned w128 (if i.signed && nat_le (2 ^ (m - 1)) n then pos n -ℤ pos (2 ^ m) else pos n) % 256) size ∙ by (i.signed && nat_le (2 ^ (8 - 1)) n)
  where
    by : (b : Bool) → cast_unsigned w128 (if b then pos n -ℤ pos (2 ^ 8) else pos n) % 256 ≡ n
    by true = below_zero n h
    by false = omega (arith, h)

-- ---- a byte that is read

byte_integer : (order : ByteOrderKind) (bytes : List ℕ) (at : ℕ) → at % 8 ≡ 0 → get_or bytes (at / 8) 0 < 256 → integer order bytes at 8 ≡ get_or bytes (at / 8) 0
byte_integer Little bytes at whole h = little_part bytes at 8 (omega (arith, whole)) ∙ ap (λ k. get_or bytes (at / 8) 0 / 2 ^ k % 2 ^ 8) whole ∙ omega (arith, h)
byte_integer Big bytes at whole h = big_part bytes at 8 (omega (arith, whole)) ∙ ap (λ k. get_or bytes (at / 8) 0 / 2 ^ (8 - k - 8) % 2 ^ 8) whole ∙ omega (arith, h)

-- an integer of 8 bits at a whole byte is that byte
pub byte_read : (i : Integer) (bytes : List ℕ) (end at : ℕ) → i.size ≡ 8 → within_byte i.align ≡ true → at % 8 ≡ 0 → at + 8 ≤ end → get_or bytes (at / 8) 0 < 256 → integer_read i bytes end at ≡ Some (value_of i (get_or bytes (at / 8) 0), at + 8)
byte_read i bytes end at size aligned whole h small =
    ap (integer_at i bytes end) (there at i.align whole aligned)
    ∙ ap of size
    ∙ by (nat_le (at + 8) end) refl
    ∙ ap (λ n. Some (value_of i n, at + 8)) (byte_integer i.order bytes at whole small)
  where
    of : ℕ → Option (ℤ × ℕ)
    of n = if nat_le (at + n) end then Some (value_of i (integer i.order bytes at n), at + n) else None

    by : (b : Bool) → nat_le (at + 8) end ≡ b → if◌then◌else◌ {A = Option (ℤ × ℕ)} b (Some (value_of i (integer i.order bytes at 8), at + 8)) None ≡ Some (value_of i (integer i.order bytes at 8), at + 8)
    by true is = refl
    by false is = let over = leb-false (at + 8) end is in absurd (omega (arith, h, over))
