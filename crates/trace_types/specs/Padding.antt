-- A name of at most 15 bytes in an array of 16 (TASK_COMM_LEN of the kernel).
use Rattle.std.specs.Prelude.{◌≡◌, ℕ, ◌-◌, ◌≤◌, List, ◌++◌, length, replicate, take_while, nat_lt}

-- the bytes before the first zero
abbrev pub name_in : List ℕ → List ℕ
name_in bytes = take_while (λ b. nat_lt 0 b) bytes

-- a name, filled up with zeros to 16 bytes
abbrev pub padded : List ℕ → List ℕ
padded name = name ++ replicate (16 - length name) 0

-- 16 bytes that are a name of at most 15 bytes and then zeros
abbrev pub IsPadded : List ℕ → Type 0
IsPadded bytes = (bytes ≡ padded (name_in bytes)) × (length (name_in bytes) ≤ 15)
