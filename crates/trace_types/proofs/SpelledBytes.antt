-- Bytes that are read one by one, each by its spelling.
use Rattle.std.proofs.Common.{◌≡◌, ◌≢◌, ℕ, ◌<◌, List, [], ◌∷◌, ◌++◌, length, sym, ap, ◌∙◌, subst, append_assoc, append-nil, arith}
use Rattle.std.specs.Prelude.{flat_map}
use Rattle.std.specs.List.{AllByRecursion}
use Rattle.std.proofs.lemmas.List.Concat.{flat_map-append}
use Rattle.std.proofs.lemmas.List.{nil_from_length}
use Rattle.trace_types.specs.ByteTexts.{spelled, SpellsBytes}
use Rattle.trace_types.proofs.Names.{back_of, both, tail_of}

-- what stands in a word: the spellings of the bytes so far, and the rest
pub record HasReadBytes (word bytes rest : List ℕ) : Type 0 where
  pub spelling : word ≡ flat_map spelled bytes ++ rest
  pub small : AllByRecursion (λ b. b < 256) bytes

-- where no spelling begins, no bytes are spelled
pub no_byte : (word bytes rest : List ℕ) → HasReadBytes word bytes rest → 0 < length rest → ((b : ℕ) (r : List ℕ) → b < 256 → rest ≢ spelled b ++ r) → (others : List ℕ) → ¬ (SpellsBytes word others)
no_byte word bytes rest has some none others s =
    let t = tail_of bytes rest others has.small s.are_bytes (sym has.spelling ∙ s.spelling) in
    by t.0 t.2 (back_of (λ b. b < 256) bytes t.0 (subst (AllByRecursion (λ b. b < 256)) t.1 s.are_bytes))
  where
    by : (tail : List ℕ) → rest ≡ flat_map spelled tail → AllByRecursion (λ b. b < 256) tail → ⊥
    by [] e fits = omega (arith, ap length e)
    by (b ∷ bs) e fits = none b _ fits.0 e

-- one more byte
pub one_byte : (word bytes rest : List ℕ) (byte : ℕ) (after : List ℕ) → HasReadBytes word bytes rest → rest ≡ spelled byte ++ after → byte < 256 → HasReadBytes word (bytes ++ byte ∷ []) after
one_byte word bytes rest byte after has is small = record {
  spelling = rw (flat_map-append spelled bytes (byte ∷ [])) (rw append-nil (rw append_assoc (has.spelling ∙ ap (λ r. flat_map spelled bytes ++ r) is)));
  small = both (λ b. b < 256) bytes byte has.small small;
}

-- nothing is left
pub all_bytes : (word bytes rest : List ℕ) → HasReadBytes word bytes rest → length rest ≡ 0 → SpellsBytes word bytes
all_bytes word bytes rest has none =
    let empty = nil_from_length rest none in
    record { spelling = has.spelling ∙ (ap (λ r. flat_map spelled bytes ++ r) empty ∙ append-nil _); are_bytes = has.small }
