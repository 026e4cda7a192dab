-- Words that are no number in range.
use Rattle.std.proofs.Common.{◌≡◌, ℕ, ℤ, rules, subst, Result, Ok, Err, Option, IfNone, FitsSigned, List, sym, ◌∙◌}
use Rattle.std.specs.Result.{result_ok, OkIff}
use Rattle.std.specs.Int.{w32, w64}
use Rattle.std.proofs.lemmas.Fmt.{signed_decimal_injective}
use Rattle.trace_types.specs.Numbers.{IsSigned}
use Rattle.event_list.proofs.Spelling.{mag_32, mag_64}

-- a number of 64 bits that has no 32 bits is no number of 32 bits
pub too_wide : (word : List ℕ) (y x : ℤ) {E : Type 0} (r : Result ℤ E) (o : Option ℤ) → o ≡ result_ok r → OkIff r (FitsSigned w32 x) x → x ≡ y → FitsSigned w64 y → IsSigned word y → IfNone o ((z : ℤ) → FitsSigned w32 z → ¬ (IsSigned word z))
too_wide word y x (Ok v) o e h same fits is = rw e (search rules)
too_wide word y x (Err v) o e h same fits is = rw e (λ z narrow spelled. h (subst (FitsSigned w32) (signed_decimal_injective z y (mag_32 z narrow) (mag_64 y fits) (sym spelled ∙ is) ∙ sym same) narrow))
