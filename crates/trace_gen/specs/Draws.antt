-- Numbers that look random: a linear congruence modulo 2^64 (Knuth's MMIX constants; that the upper 31 bits are the answer is this project's own).
use Rattle.std.specs.Prelude.{ℕ, ◌+◌, ◌*◌, ◌/◌, ◌%◌, ◌^◌}

-- the number after x
abbrev pub next : ℕ → ℕ
next x = (x * 6364136223846793005 + 1442695040888963407) % 2 ^ 64

-- what is drawn by it
abbrev pub drawn : ℕ → ℕ
drawn x = x / 2 ^ 33
