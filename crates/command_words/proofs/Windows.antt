-- Numbers of windows as texts.
use Rattle.std.proofs.Common.{◌≡◌, ◌≢◌, ℕ, ◌<◌, ◌≤◌, ◌^◌, List, Option, Some, sym, ◌∙◌, arith}
use Rattle.std.specs.Fmt.{decimal}
use Rattle.trace_types.proofs.Decimals.{same_decimal}
use Rattle.command_words.specs.Words.{IsWindow}

pub same_some : (a : Option (List ℕ)) (u v : List ℕ) → a ≡ Some u → a ≡ Some v → u ≡ v
same_some a u v e f = let same : Some u ≡ Some v = sym e ∙ f in cc

pub one_number : (given : Option (List ℕ)) (m n limit : ℕ) → limit < 2 ^ 64 → given ≡ Some (decimal m) → given ≡ Some (decimal n) → m < limit → n < limit → m ≡ n
one_number given m n limit fits e f low high = same_decimal m n limit low high fits (same_some given (decimal m) (decimal n) e f)

pub one_instant : (given : Option (List ℕ)) (m n : ℕ) → given ≡ Some (decimal m) → given ≡ Some (decimal n) → m < 2 ^ 62 → n < 2 ^ 62 → m ≡ n
one_instant given m n = one_number given m n (2 ^ 62) (omega arith)

pub starts_low : {host tid from to : ℕ} → IsWindow host tid from to → from < 2 ^ 62
starts_low w = omega (arith, w.order, w.to_below)

-- the number 0 is no thread
pub no_thread : (given : Option (List ℕ)) (n : ℕ) → given ≡ Some (decimal 0) → 1 ≤ n → n < 2 ^ 31 → given ≢ Some (decimal n)
no_thread given n zero low high e = let same = one_number given 0 n (2 ^ 31) (omega arith) zero e (omega arith) high in omega (arith, same, low)

-- two instants that aren't in order are no others
pub no_span : (a b : Option (List ℕ)) (m n : ℕ) → a ≡ Some (decimal m) → m < 2 ^ 62 → b ≡ Some (decimal n) → n < 2 ^ 62 → n ≤ m → (f t : ℕ) → f < t → t < 2 ^ 62 → a ≡ Some (decimal f) → b ≢ Some (decimal t)
no_span a b m n am m_low bn n_low turned f t order t_low af bt =
    let first = one_instant a m f am af m_low (omega (arith, order, t_low)) in
    let second = one_instant b n t bn bt n_low t_low in
    omega (arith, first, second, turned, order)
