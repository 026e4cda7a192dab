-- Integers within eight bytes, by shifts of the number that the bytes spell.
use Rattle.std.proofs.Common.{ℕ, zero, suc, ◌+◌, ◌-◌, ◌*◌, ◌/◌, ◌%◌, ◌^◌, ◌<◌, ◌≤◌, ◌≡◌, List, drop, get_or, slice_index, bit_and, refl, sym, ap, ◌∙◌, arith}
use Rattle.std.proofs.lemmas.List.{get_or-drop}
use Rattle.std.proofs.lemmas.Nat.{pow-add, shl-shr, shr-shr, shr_high, mod_low, field_of, and_mask}
use Rattle.std.proofs.Math.Nat.{pow-suc, div-one, mod-eq_of_lt}
use Rattle.std.proofs.Math.Pow.{pow_mono}
use Rattle.std.specs.Int.{bit_at}
use Rattle.byteorder.specs.Endian.{little_from, big_from, little_number, big_number}
use Rattle.trace_types.specs.declared.byte_order.ByteOrderKind.{ByteOrderKind}
use Rattle.trace_types.specs.declared.byte_order.ByteOrderKind.TheVariants.{Little, Big}
use Rattle.bit_reader.specs.Bits.{bit, sum_below, integer}
use Rattle.bit_reader.proofs.Sums.{along, little_split, big_split, integer_below, little_part, big_part}

-- shifted up and then down, what stands above and below falls away
pub taken : (word up size : ℕ) → up + size ≤ 64 → word * 2 ^ up % 2 ^ 64 / 2 ^ (64 - size) ≡ word / 2 ^ (64 - size - up) % 2 ^ size
taken word up size h = along (λ e. word * 2 ^ up % 2 ^ e / 2 ^ (64 - size)) (64) (size + (64 - size)) (omega arith) ∙ field_of (word * 2 ^ up) size (64 - size) ∙ ap (λ w. w % 2 ^ size) down
  where
    down : word * 2 ^ up / 2 ^ (64 - size) ≡ word / 2 ^ (64 - size - up)
    down = along (λ e. word * 2 ^ up / 2 ^ e) (64 - size) (up + (64 - size - up)) (omega arith) ∙ sym (shr-shr (word * 2 ^ up) up (64 - size - up)) ∙ ap (λ w. w / 2 ^ (64 - size - up)) (shl-shr word up)

pub little_within : (bytes : List ℕ) (p s n r : ℕ) → integer Little bytes p (s + n + r) / 2 ^ s % 2 ^ n ≡ integer Little bytes (p + s) n
little_within bytes p s n r = ap (λ w. w / 2 ^ s % 2 ^ n) whole ∙ ap (λ w. w % 2 ^ n) (shr_high _ s _ (integer_below Little bytes p s)) ∙ mod_low _ n _ (integer_below Little bytes (p + s) n)
  where
    whole : integer Little bytes p (s + n + r) ≡ (integer Little bytes (p + s + n) r * 2 ^ n + integer Little bytes (p + s) n) * 2 ^ s + integer Little bytes p s
    whole = along (integer Little bytes p) (s + n + r) (s + (n + r)) (omega arith) ∙ omega (arith, little_split bytes p s (n + r), scaled)
      where
        scaled : integer Little bytes (p + s) (n + r) * 2 ^ s ≡ (integer Little bytes (p + s + n) r * 2 ^ n + integer Little bytes (p + s) n) * 2 ^ s
        scaled = ap (λ w. w * 2 ^ s) (little_split bytes (p + s) n r ∙ omega arith)

pub big_within : (bytes : List ℕ) (p s n r : ℕ) → integer Big bytes p (s + n + r) / 2 ^ r % 2 ^ n ≡ integer Big bytes (p + s) n
big_within bytes p s n r = ap (λ w. w / 2 ^ r % 2 ^ n) (big_split bytes p (s + n) r) ∙ ap (λ w. w % 2 ^ n) (shr_high _ r _ (integer_below Big bytes (p + (s + n)) r) ∙ big_split bytes p s n) ∙ mod_low _ n _ (integer_below Big bytes (p + s) n)

-- the bits of a whole byte
whole_little : (bytes : List ℕ) → ((i : ℕ) → get_or bytes i 0 < 256) → (i : ℕ) → integer Little bytes (8 * i) 8 ≡ get_or bytes i 0
whole_little bytes small i = little_part bytes (8 * i) 8 (omega arith) ∙ along (λ q. get_or bytes q 0 / 2 ^ ((8 * i) % 8) % 2 ^ 8) (8 * i / 8) (i) (omega arith) ∙ along (λ e. get_or bytes i 0 / 2 ^ e % 2 ^ 8) ((8 * i) % 8) (0) (omega arith) ∙ ap (λ w. w % 256) (div-one (get_or bytes i 0)) ∙ mod-eq_of_lt (small i)

whole_big : (bytes : List ℕ) → ((i : ℕ) → get_or bytes i 0 < 256) → (i : ℕ) → integer Big bytes (8 * i) 8 ≡ get_or bytes i 0
whole_big bytes small i = big_part bytes (8 * i) 8 (omega arith) ∙ along (λ q. get_or bytes q 0 / 2 ^ (8 - (8 * i) % 8 - 8) % 2 ^ 8) (8 * i / 8) (i) (omega arith) ∙ along (λ e. get_or bytes i 0 / 2 ^ e % 2 ^ 8) (8 - (8 * i) % 8 - 8) (0) (omega arith) ∙ ap (λ w. w % 256) (div-one (get_or bytes i 0)) ∙ mod-eq_of_lt (small i)

bytes_worth : (n : ℕ) → 2 ^ (8 * n) ≡ 256 ^ n
bytes_worth zero = refl
bytes_worth (suc n) = along (λ e. 2 ^ e) (8 * suc n) (8 * n + 8) (omega arith) ∙ pow-add 2 (8 * n) 8 ∙ omega (arith, bytes_worth n, pow-suc 256 n)

pub little_word : (bytes : List ℕ) → ((i : ℕ) → get_or bytes i 0 < 256) → (i n : ℕ) → integer Little bytes (8 * i) (8 * n) ≡ little_from i n bytes
little_word bytes small i zero = refl
little_word bytes small i (suc n) = along (integer Little bytes (8 * i)) (8 * suc n) (8 + 8 * n) (omega arith) ∙ omega (arith, little_split bytes (8 * i) 8 (8 * n), first, rest, little_word bytes small (suc i) n)
  where
    first : integer Little bytes (8 * i) 8 ≡ slice_index bytes i
    first = whole_little bytes small i

    rest : integer Little bytes (8 * i + 8) (8 * n) ≡ integer Little bytes (8 * suc i) (8 * n)
    rest = along (λ p. integer Little bytes p (8 * n)) (8 * i + 8) (8 * suc i) (omega arith)

pub big_word : (bytes : List ℕ) → ((i : ℕ) → get_or bytes i 0 < 256) → (i n : ℕ) → integer Big bytes (8 * i) (8 * n) ≡ big_from i n bytes
big_word bytes small i zero = refl
big_word bytes small i (suc n) = along (integer Big bytes (8 * i)) (8 * suc n) (8 + 8 * n) (omega arith) ∙ big_split bytes (8 * i) 8 (8 * n) ∙ omega (arith, first, rest, big_word bytes small (suc i) n)
  where
    first : integer Big bytes (8 * i) 8 * 2 ^ (8 * n) ≡ slice_index bytes i * 256 ^ n
    first = ap (λ w. w * 2 ^ (8 * n)) (whole_big bytes small i) ∙ ap (λ w. slice_index bytes i * w) (bytes_worth n)

    rest : integer Big bytes (8 * i + 8) (8 * n) ≡ integer Big bytes (8 * suc i) (8 * n)
    rest = along (λ p. integer Big bytes p (8 * n)) (8 * i + 8) (8 * suc i) (omega arith)

moved : (bytes : List ℕ) (first p q : ℕ) → q ≡ 8 * first + p → get_or (drop first bytes) (p / 8) 0 ≡ get_or bytes (q / 8) 0
moved bytes first p q h = get_or-drop first bytes (p / 8) 0 ∙ along (λ i. get_or bytes i 0) (first + p / 8) (q / 8) (omega (arith, h))

same_sum : (n : ℕ) (f g : ℕ → ℕ) → ((i : ℕ) → f i ≡ g i) → sum_below n f ≡ sum_below n g
same_sum zero f g same = refl
same_sum (suc n) f g same = omega (arith, same_sum n f g same, same n)

bit_dropped : (order : ByteOrderKind) (bytes : List ℕ) (first s i : ℕ) → bit order (drop first bytes) (s + i) ≡ bit order bytes (8 * first + s + i)
bit_dropped Little bytes first s i = ap (λ b. bit_at b ((s + i) % 8)) (moved bytes first (s + i) (8 * first + s + i) (omega arith)) ∙ along (bit_at (get_or bytes ((8 * first + s + i) / 8) 0)) ((s + i) % 8) ((8 * first + s + i) % 8) (omega arith)
bit_dropped Big bytes first s i = ap (λ b. bit_at b (7 - (s + i) % 8)) (moved bytes first (s + i) (8 * first + s + i) (omega arith)) ∙ along (bit_at (get_or bytes ((8 * first + s + i) / 8) 0)) (7 - (s + i) % 8) (7 - (8 * first + s + i) % 8) (omega arith)

-- places count from the bytes that are left
pub dropped : (order : ByteOrderKind) (bytes : List ℕ) (first s n : ℕ) → integer order (drop first bytes) s n ≡ integer order bytes (8 * first + s) n
dropped Little bytes first s n = same_sum n _ _ (λ i. ap (λ b. b * 2 ^ i) (bit_dropped Little bytes first s i))
dropped Big bytes first s n = same_sum n _ _ (λ i. ap (λ b. b * 2 ^ (n - 1 - i)) (bit_dropped Big bytes first s i))

pub masked : (n size : ℕ) → size ≤ 8 → bit_and n (1 * 2 ^ size % 4294967296 - 1) ≡ n % 2 ^ size
masked n size h = ap (λ m. bit_and n (m - 1)) whole ∙ and_mask n size
  where
    whole : 1 * 2 ^ size % 4294967296 ≡ 2 ^ size
    whole = along (λ w. w % 4294967296) (1 * 2 ^ size) (2 ^ size) (omega arith) ∙ mod-eq_of_lt (omega (arith, pow_mono {i = size} {j = 8} h))

-- what the two shifts leave of the eight bytes' number
pub little_read : (bytes : List ℕ) → ((i : ℕ) → get_or bytes i 0 < 256) → (s n : ℕ) → s + n ≤ 64 → little_number 8 bytes * 2 ^ (64 - s - n) % 2 ^ 64 / 2 ^ (64 - n) ≡ integer Little bytes s n
little_read bytes small s n h = taken word (64 - s - n) n (omega (arith, h)) ∙ along (λ e. word / 2 ^ e % 2 ^ n) (64 - n - (64 - s - n)) s (omega (arith, h)) ∙ ap (λ w. w / 2 ^ s % 2 ^ n) (sym (little_word bytes small 0 8)) ∙ along (λ t. integer Little bytes 0 t / 2 ^ s % 2 ^ n) 64 (s + n + (64 - s - n)) (omega (arith, h)) ∙ little_within bytes 0 s n (64 - s - n) ∙ along (λ p. integer Little bytes p n) (0 + s) s (omega arith)
  where
    word : ℕ
    word = little_number 8 bytes

pub big_read : (bytes : List ℕ) → ((i : ℕ) → get_or bytes i 0 < 256) → (s n : ℕ) → s + n ≤ 64 → big_number 8 bytes * 2 ^ s % 2 ^ 64 / 2 ^ (64 - n) ≡ integer Big bytes s n
big_read bytes small s n h = taken word s n h ∙ along (λ e. word / 2 ^ e % 2 ^ n) (64 - n - s) (64 - s - n) (omega (arith, h)) ∙ ap (λ w. w / 2 ^ (64 - s - n) % 2 ^ n) (sym (big_word bytes small 0 8)) ∙ along (λ t. integer Big bytes 0 t / 2 ^ (64 - s - n) % 2 ^ n) 64 (s + n + (64 - s - n)) (omega (arith, h)) ∙ big_within bytes 0 s n (64 - s - n) ∙ along (λ p. integer Big bytes p n) (0 + s) s (omega arith)
  where
    word : ℕ
    word = big_number 8 bytes
