-- Bits of a byte list, and the integers that they spell (CTF 1.8, section 4.1.5: a little endian integer is packed from the least significant bit of each byte up, a big endian one from the most significant bit down).
use Rattle.std.specs.Prelude.{ℕ, zero, suc, ◌+◌, ◌-◌, ◌*◌, ◌/◌, ◌%◌, ◌^◌, List, get_or}
use Rattle.std.specs.Int.{bit_at}
use Rattle.trace_types.specs.declared.byte_order.ByteOrderKind.{ByteOrderKind}
use Rattle.trace_types.specs.declared.byte_order.ByteOrderKind.TheVariants.{Little, Big}

-- the bit at a place, counted from 0 through all bytes
abbrev pub bit : ByteOrderKind → List ℕ → ℕ → ℕ
bit Little bytes place = bit_at (get_or bytes (place / 8) 0) (place % 8)
bit Big bytes place = bit_at (get_or bytes (place / 8) 0) (7 - place % 8)

-- f 0 + f 1 + .., so many terms
abbrev pub sum_below : ℕ → (ℕ → ℕ) → ℕ
sum_below zero f = 0
sum_below (suc n) f = sum_below n f + f n

-- the integer of so many bits at a place
abbrev pub integer : ByteOrderKind → List ℕ → ℕ → ℕ → ℕ
integer Little bytes place size = sum_below size (λ i. bit Little bytes (place + i) * 2 ^ i)
integer Big bytes place size = sum_below size (λ i. bit Big bytes (place + i) * 2 ^ (size - 1 - i))
