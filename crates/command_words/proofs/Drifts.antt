-- Drifts as numbers.
use Rattle.std.proofs.Common.{◌≡◌, ◌^◌, ℕ, List, Some, sym, ◌∙◌, arith}
use Rattle.std.specs.Fmt.{decimal}
use Rattle.trace_types.proofs.Decimals.{same_number, below_wide}
use Rattle.command_words.specs.Words.{GivesDrift}

pub not_zero : (text : List ℕ) (d : ℕ) → text ≡ decimal 0 → GivesDrift (Some text) d → ⊥
not_zero text d zero h =
    let same = same_number 0 d (below_wide 0 (2 ^ 62) (omega arith) (omega arith)) (below_wide d (2 ^ 62) (omega (arith, h.1.1)) (omega arith)) (sym zero ∙ h.0) in
    omega (arith, same, h.1.0)
