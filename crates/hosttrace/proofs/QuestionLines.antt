-- Where the lines of a question file end, and their words.
use Rattle.std.proofs.Common.{◌≡◌, ◌≢◌, ◌⊎◌, inl, inr, ℕ, ◌<◌, ◌^◌, ◌+◌, List, [], ◌∷◌, ◌++◌, length, refl, sym, ap, ◌∙◌, subst, append_assoc, append-nil, arith}
use Rattle.std.specs.Prelude.{flat_map}
use Rattle.std.specs.List.{AllByRecursion}
use Rattle.std.specs.Fmt.{decimal}
use Rattle.std.proofs.lemmas.Grind.{flat_map-append}
use Rattle.trace_types.specs.declared.path.Path.{Path as AttributePath}
use Rattle.trace_types.specs.Numbers.{IsNumber}
use Rattle.trace_types.specs.Paths.{path_text, SpellsPath}
use Rattle.trace_types.proofs.Cutting.{same_front, has_end}
use Rattle.trace_types.proofs.Decimals.{below_wide, decimal_high}
use Rattle.trace_types.proofs.Everywhere.{all_weaker, all_both}
use Rattle.trace_types.proofs.PathWords.{path_word}
use Rattle.history_core.specs.declared.question.Question.{Question}
use Rattle.hosttrace.specs.Questions.{question_line, question_text, IsQuestionLine, AreQuestions, IsFirstBadQuestion}
use Rattle.report_views.specs.Asked.{IsQuestion}

abbrev pub Without : ℕ → List ℕ → Type 0
Without end = AllByRecursion (λ b. b ≢ end)

pub time_without : (end : ℕ) → end < 48 → (q : Question) → IsQuestion q → Without end (decimal q.t)
time_without end low q is = all_weaker (λ b. 47 < b) (λ b. b ≢ end) (decimal q.t) (λ b k e. omega (arith, k, e, low)) (decimal_high q.t (below_wide q.t (2 ^ 62) is.below (omega arith)))

pub line_without_feed : (q : Question) → IsQuestion q → Without 10 (question_line q)
line_without_feed q is = all_both (λ b. b ≢ 10) (decimal q.t) (32 ∷ path_text q.path) (time_without 10 (omega arith) q is) ((λ e. omega (arith, e)), all_weaker (λ b. 32 < b) (λ b. b ≢ 10) (path_text q.path) (λ b k e. omega (arith, k, e)) (path_word q.path is.is_path))

pub text_and : (q : Question) (after : List ℕ) → question_text q ++ after ≡ question_line q ++ 10 ∷ after
text_and q after = append_assoc (question_line q) (10 ∷ []) after

-- ---- the words of a line
pub no_space : (line : List ℕ) → Without 32 line → (q : Question) → ¬ (IsQuestionLine line q)
no_space line ends q is = has_end 32 (decimal q.t) (path_text q.path) (subst (Without 32) is.spelling ends)

words_are : (line t path : List ℕ) → line ≡ t ++ 32 ∷ path → Without 32 t → (q : Question) → IsQuestionLine line q → (t ≡ decimal q.t) × (path ≡ path_text q.path)
words_are line t path e ends q is = same_front 32 t (decimal q.t) path (path_text q.path) ends (time_without 32 (omega arith) q is.is_question) (sym e ∙ is.spelling)

pub no_time : (line t path : List ℕ) → line ≡ t ++ 32 ∷ path → Without 32 t → ((n : ℕ) → n < 2 ^ 62 → ¬ (IsNumber t n)) → (q : Question) → ¬ (IsQuestionLine line q)
no_time line t path e ends none q is = none q.t is.is_question.below (words_are line t path e ends q is).0

pub no_path : (line t path : List ℕ) → line ≡ t ++ 32 ∷ path → Without 32 t → ((p : AttributePath) → ¬ (SpellsPath path p)) → (q : Question) → ¬ (IsQuestionLine line q)
no_path line t path e ends none q is = none q.path (record { spelling = (words_are line t path e ends q is).1; is_path = is.is_question.is_path })

-- ---- the first line of a text
pub no_question : (text line after : List ℕ) → text ≡ line ++ 10 ∷ after → Without 10 line → ((q : Question) → ¬ (IsQuestionLine line q)) → (q : Question) (other : List ℕ) → IsQuestion q → text ≢ question_text q ++ other
no_question text line after e ends none q other is same =
    none q (record { spelling = (same_front 10 line (question_line q) after other ends (line_without_feed q is) (sym e ∙ (same ∙ text_and q other))).0; is_question = is })

pub no_feed : (text : List ℕ) → Without 10 text → (q : Question) (other : List ℕ) → IsQuestion q → text ≢ question_text q ++ other
no_feed text ends q other is same = has_end 10 (question_line q) other (subst (Without 10) (same ∙ text_and q other) ends)

pub question_and : (text line after : List ℕ) (q : Question) → text ≡ line ++ 10 ∷ after → IsQuestionLine line q → text ≡ question_text q ++ after
question_and text line after q e is = e ∙ (ap (λ l. l ++ 10 ∷ after) is.spelling ∙ sym (text_and q after))

-- ---- the lines read so far
pub record HasAsked (bytes : List ℕ) (questions : List Question) (rest : List ℕ) : Type 0 where
  pub parts : bytes ≡ flat_map question_text questions ++ rest
  pub each : AllByRecursion IsQuestion questions

pub asked_more : (bytes : List ℕ) (questions : List Question) (rest : List ℕ) (q : Question) (after : List ℕ) → HasAsked bytes questions rest → rest ≡ question_text q ++ after → IsQuestion q → HasAsked bytes (questions ++ q ∷ []) after
asked_more bytes questions rest q after h e is = record {
  parts = h.parts ∙ (ap (λ l. flat_map question_text questions ++ l) (e ∙ ap (λ l. l ++ after) (sym (append-nil (question_text q)))) ∙ (sym (append_assoc (flat_map question_text questions) (question_text q ++ []) after) ∙ ap (λ l. l ++ after) (sym (flat_map-append question_text questions (q ∷ [])))));
  each = all_both IsQuestion questions (q ∷ []) h.each (is, tt);
}

pub nonempty : (xs ys : List ℕ) → xs ++ 10 ∷ ys ≡ [] → ⊥
nonempty [] ys e = absurd (cc)
nonempty (x ∷ xs) ys e = absurd (cc)

pub no_items : (questions : List Question) → length questions ≡ 0 → questions ≡ []
no_items [] e = refl
no_items (q ∷ qs) e = absurd (omega (arith, e))

-- every reading of the whole goes on after the lines read so far
behind : (questions others : List Question) (rest : List ℕ) → AllByRecursion IsQuestion questions → AllByRecursion IsQuestion others → flat_map question_text others ≡ flat_map question_text questions ++ rest
    → (more : List Question) × AllByRecursion IsQuestion more × (rest ≡ flat_map question_text more) × (length others ≡ length questions + length more)
behind [] others rest h g e = (others, g, sym e, omega arith)
behind (q ∷ qs) [] rest h g e = absurd (nonempty (question_line q) (flat_map question_text qs ++ rest) (sym (text_and q (flat_map question_text qs ++ rest)) ∙ (sym (append_assoc (question_text q) (flat_map question_text qs) rest) ∙ sym e)))
behind (q ∷ qs) (o ∷ os) rest h g e =
    let cut = same_front 10 (question_line o) (question_line q) (flat_map question_text os) (flat_map question_text qs ++ rest) (line_without_feed o g.0) (line_without_feed q h.0)
    (sym (text_and o (flat_map question_text os)) ∙ (e ∙ (append_assoc (question_text q) (flat_map question_text qs) rest ∙ text_and q (flat_map question_text qs ++ rest)))) in
    let r = behind qs os rest h.1 g.1 cut.1 in
    (r.0, r.1, r.2, omega (arith, r.3))

pub none_asked : (bytes : List ℕ) (questions : List Question) (rest : List ℕ) → HasAsked bytes questions rest → ((q : Question) (after : List ℕ) → IsQuestion q → rest ≢ question_text q ++ after) → (rest ≢ []) ⊎ (questions ≡ [])
    → (others : List Question) → ¬ (AreQuestions bytes others)
none_asked bytes questions rest h none left others is = by (behind questions others rest h.each is.each (sym is.spelling ∙ h.parts)) left
  where
    by : (more : List Question) × AllByRecursion IsQuestion more × (rest ≡ flat_map question_text more) × (length others ≡ length questions + length more) → (rest ≢ []) ⊎ (questions ≡ []) → ⊥
    by ([], g, e, n) (inl l) = l e
    by ([], g, e, n) (inr l) = is.some (no_items others (omega (arith, n, ap length l)))
    by (q ∷ qs, g, e, n) l = none q (flat_map question_text qs) g.0 e

pub first_bad : (bytes : List ℕ) (questions : List Question) (rest : List ℕ) (line : ℕ) → HasAsked bytes questions rest → ((q : Question) (after : List ℕ) → IsQuestion q → rest ≢ question_text q ++ after) → (rest ≢ []) ⊎ (questions ≡ []) → line ≡ length questions + 1 → IsFirstBadQuestion bytes line
first_bad bytes questions rest line h none left e = record { questions = questions; rest = rest; parts = h.parts; each = h.each; no_more = none; left = left; line_is = e }

pub all_asked : (bytes : List ℕ) (questions : List Question) (rest : List ℕ) → HasAsked bytes questions rest → rest ≡ [] → questions ≢ [] → AreQuestions bytes questions
all_asked bytes questions rest h e some = record { spelling = h.parts ∙ (ap (λ l. flat_map question_text questions ++ l) e ∙ append-nil (flat_map question_text questions)); each = h.each; some = some }
