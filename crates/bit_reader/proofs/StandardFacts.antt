-- Integers of bits that were found by hand, so that a slip in the definition does not check.
use Rattle.std.proofs.Common.{◌≡◌, refl, [], ◌∷◌}
use Rattle.trace_types.specs.declared.byte_order.ByteOrderKind.TheVariants.{Little, Big}
use Rattle.bit_reader.specs.Bits.{bit, integer}

-- the bytes 21 43 65 87, little endian, are 1 in the first five bits, and 43B2A19 in the 27 bits after them
pub little : (integer Little (33 ∷ 67 ∷ 101 ∷ 135 ∷ []) 0 5 ≡ 1) × (integer Little (33 ∷ 67 ∷ 101 ∷ 135 ∷ []) 5 27 ≡ 70986265)
little = (refl, refl)

-- the bytes 50 18, big endian, are 5 in the first four bits, 0 in the next three, and 24 in the last nine
pub big : (integer Big (80 ∷ 24 ∷ []) 0 4 ≡ 5) × (integer Big (80 ∷ 24 ∷ []) 4 3 ≡ 0) × (integer Big (80 ∷ 24 ∷ []) 7 9 ≡ 24)
big = (refl, refl, refl)

-- the first bit of the byte 01 is set in little endian, and its last one in big endian
pub first_bits : (bit Little (1 ∷ []) 0 ≡ 1) × (bit Big (1 ∷ []) 0 ≡ 0) × (bit Big (1 ∷ []) 7 ≡ 1)
first_bits = (refl, refl, refl)
