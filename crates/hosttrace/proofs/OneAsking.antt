-- A text spells one list of questions at most; one that spells a list has no bad line, and any other has one first bad line.
use Rattle.std.proofs.Common.{◌≡◌, ◌≢◌, ℕ, suc, ◌+◌, ◌^◌, List, [], ◌∷◌, ◌++◌, length, refl, sym, ap, ap₂, ◌∙◌, append_assoc, arith}
use Rattle.std.specs.Prelude.{flat_map}
use Rattle.std.specs.List.{AllByRecursion}
use Rattle.std.specs.Fmt.{decimal}
use Rattle.trace_types.proofs.Cutting.{same_front}
use Rattle.trace_types.proofs.Decimals.{below_wide, same_number}
use Rattle.trace_types.proofs.PathWords.{one_path}
use Rattle.trace_types.specs.Paths.{path_text}
use Rattle.history_core.specs.declared.question.Question.{Question}
use Rattle.report_views.specs.Asked.{IsQuestion}
use Rattle.hosttrace.specs.Questions.{question_line, question_text, AreQuestions, IsFirstBadQuestion}
use Rattle.hosttrace.proofs.QuestionLines.{line_without_feed, none_asked, nonempty, text_and, time_without}

same_question : (q r : Question) → IsQuestion q → IsQuestion r → question_line q ≡ question_line r → q ≡ r
same_question q r is js e =
    let cut = same_front 32 (decimal q.t) (decimal r.t) (path_text q.path) (path_text r.path) (time_without 32 (omega arith) q is) (time_without 32 (omega arith) r js) e in
    let time : q.t ≡ r.t = same_number q.t r.t (below_wide q.t (2 ^ 62) is.below (omega arith)) (below_wide r.t (2 ^ 62) js.below (omega arith)) cut.0 in
    let path = one_path (path_text q.path) q.path r.path (record { spelling = refl; is_path = is.is_path }) (record { spelling = cut.1; is_path = js.is_path }) in
    ap₂ (λ t p. record { t = t; path = p }) time path

-- the first questions of two texts that go on alike
first_alike : (q r : Question) (xs ys : List ℕ) → IsQuestion q → IsQuestion r → question_text q ++ xs ≡ question_text r ++ ys → (q ≡ r) × (xs ≡ ys)
first_alike q r xs ys is js e =
    let cut = same_front 10 (question_line q) (question_line r) xs ys (line_without_feed q is) (line_without_feed r js) (sym (text_and q xs) ∙ (e ∙ text_and r ys)) in
    (same_question q r is js cut.0, cut.1)

same_questions : (qs rs : List Question) → AllByRecursion IsQuestion qs → AllByRecursion IsQuestion rs → flat_map question_text qs ≡ flat_map question_text rs → qs ≡ rs
same_questions [] [] h g e = refl
same_questions [] (r ∷ rs) h g e = absurd (nonempty (question_line r) (flat_map question_text rs) (sym (text_and r (flat_map question_text rs)) ∙ sym e))
same_questions (q ∷ qs) [] h g e = absurd (nonempty (question_line q) (flat_map question_text qs) (sym (text_and q (flat_map question_text qs)) ∙ e))
same_questions (q ∷ qs) (r ∷ rs) h g e =
    let first = first_alike q r (flat_map question_text qs) (flat_map question_text rs) h.0 g.0 e in
    ap₂ (λ x xs. x ∷ xs) first.0 (same_questions qs rs h.1 g.1 first.1)

pub one_asking : (bytes : List ℕ) (qs rs : List Question) → AreQuestions bytes qs → AreQuestions bytes rs → qs ≡ rs
one_asking bytes qs rs h g = same_questions qs rs h.each g.each (sym h.spelling ∙ g.spelling)

pub never_bad : (bytes : List ℕ) (qs : List Question) (line : ℕ) → AreQuestions bytes qs → IsFirstBadQuestion bytes line → ⊥
never_bad bytes qs line is bad = none_asked bytes bad.questions bad.rest (record { parts = bad.parts; each = bad.each }) bad.no_more bad.left qs is

-- questions after which none follows are as many as any others of the same text after which none follows
EndsAt : List ℕ → Type 0
EndsAt rest = (q : Question) (after : List ℕ) → IsQuestion q → rest ≢ question_text q ++ after

as_many : (qs rs : List Question) (xs ys : List ℕ) → AllByRecursion IsQuestion qs → AllByRecursion IsQuestion rs → EndsAt xs → EndsAt ys → flat_map question_text qs ++ xs ≡ flat_map question_text rs ++ ys → length qs ≡ length rs
unfolding EndsAt
as_many [] [] xs ys h g a b e = refl
as_many [] (r ∷ rs) xs ys h g a b e = absurd (a r (flat_map question_text rs ++ ys) g.0 (e ∙ append_assoc (question_text r) (flat_map question_text rs) ys))
as_many (q ∷ qs) [] xs ys h g a b e = absurd (b q (flat_map question_text qs ++ xs) h.0 (sym e ∙ append_assoc (question_text q) (flat_map question_text qs) xs))
as_many (q ∷ qs) (r ∷ rs) xs ys h g a b e =
    let first = first_alike q r (flat_map question_text qs ++ xs) (flat_map question_text rs ++ ys) h.0 g.0 (sym (append_assoc (question_text q) (flat_map question_text qs) xs) ∙ (e ∙ append_assoc (question_text r) (flat_map question_text rs) ys)) in
    ap suc (as_many qs rs xs ys h.1 g.1 a b first.1)

pub one_bad_line : (bytes : List ℕ) (a b : ℕ) → IsFirstBadQuestion bytes a → IsFirstBadQuestion bytes b → a ≡ b
unfolding EndsAt
one_bad_line bytes a b h g = h.line_is ∙ (ap (λ n. n + 1) (as_many h.questions g.questions h.rest g.rest h.each g.each h.no_more g.no_more (sym h.parts ∙ g.parts)) ∙ sym g.line_is)
