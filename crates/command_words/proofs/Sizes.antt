-- The sizes of made traces as texts.
use Rattle.std.proofs.Common.{◌≡◌, ◌≢◌, ℕ, ◌<◌, ◌≤◌, ◌^◌, List, Option, Some, arith, lit≤}
use Rattle.std.proofs.Math.Nat.{lt_of_lt_of_le}
use Rattle.std.specs.Fmt.{decimal}
use Rattle.trace_types.proofs.Decimals.{same_number}
use Rattle.command_words.specs.Words.{AreSizes}
use Rattle.command_words.proofs.Windows.{one_number, same_some}

pub hosts_low : {number hosts rounds : ℕ} → AreSizes number hosts rounds → hosts < 65
hosts_low s = omega (arith, s.hosts_most)

pub rounds_low : {number hosts rounds : ℕ} → AreSizes number hosts rounds → rounds < 100001
rounds_low s = omega (arith, s.rounds_most)

pub one_start : (given : Option (List ℕ)) (m n : ℕ) → given ≡ Some (decimal m) → given ≡ Some (decimal n) → m < 2 ^ 64 → n < 2 ^ 64 → m ≡ n
one_start given m n e f low high = same_number m n (lt_of_lt_of_le low (lit≤ tt)) (lt_of_lt_of_le high (lit≤ tt)) (same_some given (decimal m) (decimal n) e f)

-- the number 0 is no count
pub no_count : (given : Option (List ℕ)) (n most : ℕ) → most < 2 ^ 32 → given ≡ Some (decimal 0) → 1 ≤ n → n ≤ most → given ≢ Some (decimal n)
no_count given n most few zero low high e = let same = one_number given 0 n (2 ^ 32) (omega arith) zero e (omega arith) (omega arith) in omega (arith, same, low)

-- a number of more than 64 bits is none below 2^64
pub no_start : (given : Option (List ℕ)) (m n : ℕ) → given ≡ Some (decimal m) → m < 2 ^ 128 → 2 ^ 64 ≤ m → n < 2 ^ 64 → given ≢ Some (decimal n)
no_start given m n e wide large low f = let same = same_number m n wide (lt_of_lt_of_le low (lit≤ tt)) (same_some given (decimal m) (decimal n) e f) in omega (arith, same, large, low)
