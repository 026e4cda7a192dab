-- One turn of the loops, which take a byte's bits to those that they have.
use Rattle.std.proofs.Common.{ℕ, ◌+◌, ◌-◌, ◌*◌, ◌/◌, ◌%◌, ◌^◌, ◌<◌, ◌≤◌, ◌≡◌, List, get_or, min, sym, ap, ◌∙◌, arith}
use Rattle.std.proofs.lemmas.Nat.{shl_whole}
use Rattle.std.proofs.Math.Nat.{min-le_left, min-le_right}
use Rattle.std.proofs.Math.Pow.{pow_mono}
use Rattle.trace_types.specs.declared.byte_order.ByteOrderKind.{ByteOrderKind}
use Rattle.trace_types.specs.declared.byte_order.ByteOrderKind.TheVariants.{Little, Big}
use Rattle.bit_reader.specs.Bits.{integer}
use Rattle.bit_reader.proofs.Sums.{little_split, big_split, integer_below, little_part, big_part}

pub in_a_word : (order : ByteOrderKind) (bytes : List ℕ) (p n : ℕ) → n ≤ 64 → integer order bytes p n < 2 ^ 64
in_a_word order bytes p n h = omega (arith, integer_below order bytes p n, pow_mono {i = n} {j = 64} h)

-- the lesser of two is within both
pub within_both : (a b m : ℕ) → m ≡ min a b → (m ≤ a) × (m ≤ b)
within_both a b m e = (omega (arith, e, min-le_left a b), omega (arith, e, min-le_right a b))

pub little_turn : (bytes : List ℕ) (first done taken part : ℕ) → done + taken ≤ 64 → (first + done) % 8 + taken ≤ 8
    → part ≡ get_or bytes ((first + done) / 8) 0 / 2 ^ ((first + done) % 8) % 2 ^ taken
    → integer Little bytes first done + part * 2 ^ done % 2 ^ 64 ≡ integer Little bytes first (done + taken)
little_turn bytes first done taken part room within same = ap (λ w. integer Little bytes first done + w) (ap (λ x. x * 2 ^ done % 2 ^ 64) found ∙ whole) ∙ sym (little_split bytes first done taken)
  where
    next : ℕ
    next = integer Little bytes (first + done) taken

    found : part ≡ next
    found = same ∙ sym (little_part bytes (first + done) taken within)

    whole : next * 2 ^ done % 2 ^ 64 ≡ next * 2 ^ done
    whole = shl_whole next taken done 64 (integer_below Little bytes (first + done) taken) (omega (arith, room))

pub big_turn : (bytes : List ℕ) (first done taken part : ℕ) → done + taken ≤ 64 → (first + done) % 8 + taken ≤ 8
    → part ≡ get_or bytes ((first + done) / 8) 0 / 2 ^ (8 - (first + done) % 8 - taken) % 2 ^ taken
    → integer Big bytes first done * 2 ^ taken % 2 ^ 64 + part ≡ integer Big bytes first (done + taken)
big_turn bytes first done taken part room within same = ap (λ w. w + part) whole ∙ ap (λ x. integer Big bytes first done * 2 ^ taken + x) found ∙ sym (big_split bytes first done taken)
  where
    found : part ≡ integer Big bytes (first + done) taken
    found = same ∙ sym (big_part bytes (first + done) taken within)

    whole : integer Big bytes first done * 2 ^ taken % 2 ^ 64 ≡ integer Big bytes first done * 2 ^ taken
    whole = shl_whole (integer Big bytes first done) done taken 64 (integer_below Big bytes first done) room
