-- The longest mark at the front of a text.
use Rattle.std.proofs.Common.{◌≡◌, ℕ, zero, suc, ◌<◌, ◌≤◌, Bool, true, false, cond, List, [], ◌∷◌, length, take, drop, get_or, Option, Some, None, refl, ◌∙◌, arith, eqb}
use Rattle.std.specs.Prelude.{◌==◌, ◌&&◌}
use Rattle.std.specs.List.{starts_with}
use Rattle.std.proofs.lemmas.Bool.{and_parts, eqb-true}
use Rattle.std.proofs.lemmas.Bool.Decides.{Decides-eqb}
use Rattle.std.proofs.lemmas.List.{length-take-le}
use Rattle.std.proofs.lemmas.Slice.Eq.{starts_is}
use Rattle.tsdl_lex.specs.declared.token.MarkKind.{MarkKind}
use Rattle.tsdl_lex.specs.declared.token.MarkKind.TheVariants as mark
use Rattle.tsdl_lex.specs.Longest.{IsLongest, IsNowhere}
use Rattle.tsdl_lex.specs.Marks.{single_mark, mark_of}

-- no mark has four bytes
none_long : (text : List ℕ) → 3 < length text → mark_of text ≡ None
none_long [] h = absurd (omega arith)
none_long (a ∷ []) h = absurd (omega arith)
none_long (a ∷ b ∷ []) h = absurd (omega arith)
none_long (a ∷ b ∷ c ∷ []) h = absurd (omega arith)
none_long (a ∷ b ∷ c ∷ d ∷ rest) h = refl

front_long : (text : List ℕ) (n : ℕ) → 3 < n → n ≤ length text → mark_of (take n text) ≡ None
front_long text n h within = none_long (take n text) (omega (arith, length-take-le n text within))

declare_at : (rest : List ℕ) → IsLongest mark_of (58 ∷ 61 ∷ rest) 2 mark.Declare
declare_at rest = record { within = omega arith; front = refl; longest = longer rest }
  where
    longer : (rest : List ℕ) (n : ℕ) → 2 < n → n ≤ length (58 ∷ 61 ∷ rest) → mark_of (take n (58 ∷ 61 ∷ rest)) ≡ None
    longer [] n more within = absurd (omega arith)
    longer (c ∷ rest) zero more within = absurd (omega arith)
    longer (c ∷ rest) (suc zero) more within = absurd (omega arith)
    longer (c ∷ rest) (suc (suc zero)) more within = absurd (omega arith)
    longer (c ∷ rest) (suc (suc (suc zero))) more within = refl
    longer (c ∷ rest) (suc (suc (suc (suc n)))) more within = front_long (58 ∷ 61 ∷ c ∷ rest) (suc (suc (suc (suc n)))) (omega arith) within

pub declare : (text : List ℕ) → starts_with eqb text (58 ∷ 61 ∷ []) ≡ true → IsLongest mark_of text 2 mark.Declare
declare text h = rw ((starts_is Decides-eqb text (58 ∷ 61 ∷ []) _ refl).0 h) (declare_at (drop 2 text))

ellipsis_at : (rest : List ℕ) → IsLongest mark_of (46 ∷ 46 ∷ 46 ∷ rest) 3 mark.Ellipsis
ellipsis_at rest = record { within = omega arith; front = refl; longest = λ n more within. front_long (46 ∷ 46 ∷ 46 ∷ rest) n more within }

pub ellipsis : (text : List ℕ) → starts_with eqb text (46 ∷ 46 ∷ 46 ∷ []) ≡ true → IsLongest mark_of text 3 mark.Ellipsis
ellipsis text h = rw ((starts_is Decides-eqb text (46 ∷ 46 ∷ 46 ∷ []) _ refl).0 h) (ellipsis_at (drop 3 text))

-- a text that doesn't begin with a mark of two or three bytes has no such front
module _ (text : List ℕ) (no_declare : starts_with eqb text (58 ∷ 61 ∷ []) ≡ false) (no_ellipsis : starts_with eqb text (46 ∷ 46 ∷ 46 ∷ []) ≡ false) where
  at_two : (a b : ℕ) (rest : List ℕ) → text ≡ a ∷ b ∷ rest → (t : Bool) → ((a == 58) && (b == 61)) ≡ t → cond t (Some mark.Declare) None ≡ None
  at_two a b rest is true e =
      let parts = and_parts (a == 58) (b == 61) e in
      let first = eqb-true a 58 parts.0 in
      let second = eqb-true b 61 parts.1 in
      let begins : text ≡ 58 ∷ 61 ∷ rest = is ∙ (λ i. first i ∷ second i ∷ rest) in
      let yes = (starts_is Decides-eqb text (58 ∷ 61 ∷ []) _ refl).1 rest begins in
      absurd (cc)
  at_two a b rest is false e = refl

  at_three : (a b c : ℕ) (rest : List ℕ) → text ≡ a ∷ b ∷ c ∷ rest → (t : Bool) → ((a == 46) && ((b == 46) && (c == 46))) ≡ t → cond t (Some mark.Ellipsis) None ≡ None
  at_three a b c rest is true e =
      let parts = and_parts (a == 46) ((b == 46) && (c == 46)) e in
      let others = and_parts (b == 46) (c == 46) parts.1 in
      let first = eqb-true a 46 parts.0 in
      let second = eqb-true b 46 others.0 in
      let third = eqb-true c 46 others.1 in
      let begins : text ≡ 46 ∷ 46 ∷ 46 ∷ rest = is ∙ (λ i. first i ∷ second i ∷ third i ∷ rest) in
      let yes = (starts_is Decides-eqb text (46 ∷ 46 ∷ 46 ∷ []) _ refl).1 rest begins in
      absurd (cc)
  at_three a b c rest is false e = refl

  none_longer : (given : List ℕ) → text ≡ given → (n : ℕ) → 1 < n → n ≤ length given → mark_of (take n given) ≡ None
  none_longer given is zero more within = absurd (omega arith)
  none_longer given is (suc zero) more within = absurd (omega arith)
  none_longer [] is (suc (suc n)) more within = absurd (omega arith)
  none_longer (a ∷ []) is (suc (suc n)) more within = absurd (omega arith)
  none_longer (a ∷ b ∷ rest) is (suc (suc zero)) more within = at_two a b rest is _ refl
  none_longer (a ∷ b ∷ []) is (suc (suc (suc n))) more within = absurd (omega arith)
  none_longer (a ∷ b ∷ c ∷ rest) is (suc (suc (suc zero))) more within = at_three a b c rest is _ refl
  none_longer (a ∷ b ∷ c ∷ rest) is (suc (suc (suc (suc n)))) more within = front_long (a ∷ b ∷ c ∷ rest) (suc (suc (suc (suc n)))) (omega arith) within

  one_byte : (given : List ℕ) → text ≡ given → (m : Option MarkKind) → single_mark (get_or given 0 0) ≡ m → 0 < length given → mark_of (take 1 given) ≡ m
  one_byte [] is m e some = absurd (omega arith)
  one_byte (a ∷ rest) is m e some = e

  pub single : (m : MarkKind) → single_mark (get_or text 0 0) ≡ Some m → 0 < length text → IsLongest mark_of text 1 m
  single m e some = record { within = some; front = one_byte text refl (Some m) e some; longest = none_longer text refl }

  pub nowhere : single_mark (get_or text 0 0) ≡ None → IsNowhere mark_of text
  nowhere none zero within = refl
  nowhere none (suc zero) within = one_byte text refl None none within
  nowhere none (suc (suc n)) within = none_longer text refl (suc (suc n)) (omega arith) within

pub empty_nowhere : (text : List ℕ) → length text ≡ 0 → IsNowhere mark_of text
empty_nowhere [] e zero within = refl
empty_nowhere [] e (suc n) within = absurd (omega arith)
empty_nowhere (a ∷ rest) e n within = absurd (omega arith)
