-- A word spells one name at most.
use Rattle.std.proofs.Common.{◌≡◌, ◌≢◌, true≢false, Bor, ℕ, ◌≤◌, ◌<◌, ◌/◌, ◌%◌, Bool, true, false, if◌then◌else◌, List, [], ◌∷◌, ◌++◌, length, refl, sym, ap, ◌∙◌, subst, append-nil, length-append, arith}
use Rattle.std.specs.Prelude.{flat_map}
use Rattle.trace_types.specs.ByteTexts.{IsByteText, byte_text, spelled, is_plain, hex_digit}
use Rattle.trace_types.specs.declared.event_kind.EventKind.{EventKind}
use Rattle.event_list.specs.NamedKinds.{IsNamed, may_name}
use Rattle.event_list.proofs.WordLists.{word, word_is, texts}
use Rattle.trace_types.proofs.Names.{tail_of}
use Rattle.event_list.specs.Lines.{AreBytes}

some : (d : ℕ) → 0 < length (spelled d)
some d = by (is_plain d)
  where
    by : (p : Bool) → 0 < length (if p then d ∷ [] else 37 ∷ hex_digit (d / 16) ∷ hex_digit (d % 16) ∷ [])
    by true = omega arith
    by false = omega arith

none_left : (tail : List ℕ) → [] ≡ flat_map spelled tail → tail ≡ []
none_left [] e = refl
none_left (b ∷ bs) e = absurd (omega (arith, some b, ap length e, length-append (spelled b) (flat_map spelled bs)))

percent_is_not_plain : (d : ℕ) → true ≡ is_plain d → d ≡ 37 → ⊥
percent_is_not_plain d h e = let k : true ≡ is_plain 37 = subst (λ n. true ≡ is_plain n) e h in absurd (cc)

-- a percent sign alone spells no byte
percent : (b : ℕ) (bs : List ℕ) → 37 ∷ [] ≢ flat_map spelled (b ∷ bs)
percent b bs e = by (is_plain b) refl e
  where
    by : (p : Bool) → p ≡ is_plain b → 37 ∷ [] ≢ (if p then b ∷ [] else 37 ∷ hex_digit (b / 16) ∷ hex_digit (b % 16) ∷ []) ++ flat_map spelled bs
    by true h e = percent_is_not_plain b h (cc)
    by false h e = omega (arith, ap length e)

pub one_name : (xs ys : List ℕ) → AreBytes xs → AreBytes ys → byte_text xs ≡ byte_text ys → xs ≡ ys
one_name [] [] h g e = refl
one_name [] (y ∷ ys) h g e = absurd (percent y ys e)
one_name (x ∷ xs) [] h g e = absurd (percent x xs (sym e))
one_name (x ∷ xs) (y ∷ ys) h g e =
    let t = tail_of (x ∷ xs) [] (y ∷ ys) h g (append-nil (flat_map spelled (x ∷ xs)) ∙ e) in
    sym (t.1 ∙ (ap (λ l. (x ∷ xs) ++ l) (none_left t.0 t.2) ∙ append-nil (x ∷ xs)))

-- a field that spells a name spells no other
pub no_other : (kind : EventKind) (ws : List (Bor (List ℕ))) (name : List ℕ) → 1 ≤ length ws → length ws < 2 → IsByteText (word ws 0) name → may_name kind name ≡ false → (other : List ℕ) → ¬ (IsNamed kind (texts ws) other)
no_other kind ws name low high is may other named =
    let same : name ≡ other = one_name name other is.are_bytes named.are_bytes (sym is.spelling ∙ word_is ws _ 0 named.spelled) in
    true≢false (sym named.may ∙ (ap (may_name kind) (sym same) ∙ may))
