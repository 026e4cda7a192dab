-- Numbers as texts.
use Rattle.std.specs.Prelude.{◌≡◌, ◌≢◌, ℕ, ℤ, List, length, slice_index}
use Rattle.std.specs.Fmt.{decimal, signed_decimal}

-- decimal digits with no needless leading zero (this project's own format: one spelling a number)
abbrev pub IsNumber : List ℕ → ℕ → Type 0
IsNumber text n = text ≡ decimal n

-- the same, with a minus sign before a number below 0
abbrev pub IsSigned : List ℕ → ℤ → Type 0
IsSigned text z = text ≡ signed_decimal z

-- digits with no plus sign before them, and no needless zero
abbrev pub BeginsPlainly : List ℕ → Type 0
BeginsPlainly ds = (slice_index ds 0 ≢ 43) × (slice_index ds 0 ≡ 48 → length ds ≡ 1)

-- the same of a number that may have a minus sign, after which no zero stands
abbrev pub BeginsPlainlySigned : List ℕ → Type 0
BeginsPlainlySigned text = (slice_index text 0 ≡ 45 → (slice_index text 1 ≢ 43) × (slice_index text 1 ≢ 48)) × (slice_index text 0 ≢ 45 → BeginsPlainly text)
