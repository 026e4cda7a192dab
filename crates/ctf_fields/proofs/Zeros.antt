-- The bytes before the first zero byte.
use Rattle.std.proofs.Common.{◌≡◌, ◌≢◌, ◌∙◌, ℕ, zero, suc, ◌==◌, false, if◌then◌else◌, List, [], ◌∷◌, ◌++◌, Some, None, option_map, refl, ap}
use Rattle.std.proofs.Math.Dec.{eqb-suc-zero}
use Rattle.std.specs.List.{AllByRecursion}
use Rattle.ctf_fields.specs.Leaves.{text_in}

not_zero : (b : ℕ) → b ≢ 0 → (b == 0) ≡ false
not_zero zero h = absurd (h refl)
not_zero (suc b) h = eqb-suc-zero b

pub text_cut : (front after : List ℕ) → AllByRecursion (λ b. b ≢ 0) front → text_in (front ++ 0 ∷ after) ≡ Some front
text_cut [] after h = refl
text_cut (b ∷ front) after h = ap (λ c. if c then Some [] else option_map (λ text. b ∷ text) (text_in (front ++ 0 ∷ after))) (not_zero b h.0) ∙ ap (option_map (λ text. b ∷ text)) (text_cut front after h.1)

pub no_text : (bytes : List ℕ) → AllByRecursion (λ b. b ≢ 0) bytes → text_in bytes ≡ None
no_text [] h = refl
no_text (b ∷ bytes) h = ap (λ c. if c then Some [] else option_map (λ text. b ∷ text) (text_in bytes)) (not_zero b h.0) ∙ ap (option_map (λ text. b ∷ text)) (no_text bytes h.1)
