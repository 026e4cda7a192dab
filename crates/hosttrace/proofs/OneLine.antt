-- Bytes that are no event list have one first bad line, and no bad line comes first where events are too many.
use Rattle.std.proofs.Common.{◌≡◌, ◌⊎◌, ◌∙◌, ◌≤◌, inl, inr, ℕ, suc, List, [], ◌∷◌, ◌++◌, length, refl, sym, ap, ap₂, subst, append_assoc, append-nil, arith}
use Rattle.std.specs.Prelude.{flat_map}
use Rattle.std.specs.List.{AllByRecursion}
use Rattle.std.proofs.lemmas.Grind.{flat_map-append}
use Rattle.trace_types.proofs.Cutting.{same_front}
use Rattle.event_list.specs.Lines.{AreLines, EndsBehind, IsCrowded, IsFirstBad, IsParsedLine, events_of, first_line, parsed_text, parsed_words}
use Rattle.event_list.specs.Order.{RiseFrom}
use Rattle.event_list.specs.declared.parsed_line.ParsedLine.{ParsedLine}
use Rattle.event_list.proofs.OneList.{one_list}
use Rattle.event_list.proofs.Reading.{line_and}
use Rattle.event_list.proofs.Spelling.{are_words, joined_no_end}
use Rattle.std.specs.List.{join_with_byte}

-- ---- one line

-- the list of one line
list_of : (t : ParsedLine) → IsParsedLine t → AreLines 0 (t ∷ []) (parsed_text t)
list_of t is = record { spelling = sym (append-nil (parsed_text t)); each = (is, tt); order = (omega arith, tt) }

first_of : ParsedLine → List ParsedLine → ParsedLine
first_of t [] = t
first_of t (u ∷ us) = u

same_line : (t u : ParsedLine) → IsParsedLine t → IsParsedLine u → parsed_text t ≡ parsed_text u → t ≡ u
unfolding first_of
same_line t u is js e = ap (first_of t) (one_list (first_line ++ parsed_text t) (t ∷ []) (u ∷ []) (parsed_text t, refl, list_of t is) (parsed_text t, refl, subst (AreLines 0 (u ∷ [])) (sym e) (list_of u js)))

-- the first lines of two texts that go on alike
first_alike : (t u : ParsedLine) (xs ys : List ℕ) → IsParsedLine t → IsParsedLine u → parsed_text t ++ xs ≡ parsed_text u ++ ys → (t ≡ u) × (xs ≡ ys)
first_alike t u xs ys is js e =
    let cut = same_front 10 (join_with_byte 32 (parsed_words t)) (join_with_byte 32 (parsed_words u)) xs ys (joined_no_end (parsed_words t) (are_words t is)) (joined_no_end (parsed_words u) (are_words u js)) (sym (line_and t xs) ∙ (e ∙ line_and u ys)) in
    (same_line t u is js (ap (λ line. line ++ 10 ∷ []) cut.0), cut.1)

-- ---- lines at the front of a text

-- of lines at the front of one text the others are no more, or go on where these end
record GoesOn (ts us : List ParsedLine) (xs : List ℕ) : Type 0 where
  line : ParsedLine
  more : List ParsedLine
  after : List ℕ
  lines : us ≡ ts ++ line ∷ more
  text : xs ≡ parsed_text line ++ after

none_follows : (t : ParsedLine) (ts : List ParsedLine) (xs : List ℕ) → flat_map parsed_text (t ∷ ts) ++ xs ≡ parsed_text t ++ (flat_map parsed_text ts ++ xs)
none_follows t ts xs = append_assoc (parsed_text t) (flat_map parsed_text ts) xs

no_more_or : (ts us : List ParsedLine) (xs ys : List ℕ) → AllByRecursion IsParsedLine ts → AllByRecursion IsParsedLine us → flat_map parsed_text ts ++ xs ≡ flat_map parsed_text us ++ ys → (length us ≤ length ts) ⊎ GoesOn ts us xs
no_more_or ts [] xs ys h g e = inl (omega arith)
no_more_or [] (u ∷ us) xs ys h g e = inr (record { line = u; more = us; after = flat_map parsed_text us ++ ys; lines = refl; text = e ∙ none_follows u us ys })
no_more_or (t ∷ ts) (u ∷ us) xs ys h g e =
    let first = first_alike t u (flat_map parsed_text ts ++ xs) (flat_map parsed_text us ++ ys) h.0 g.0 (sym (none_follows t ts xs) ∙ (e ∙ none_follows u us ys)) in
    by first.0 (no_more_or ts us xs ys h.1 g.1 first.1)
  where
    by : t ≡ u → (length us ≤ length ts) ⊎ GoesOn ts us xs → (suc (length us) ≤ suc (length ts)) ⊎ GoesOn (t ∷ ts) (u ∷ us) xs
    by same (inl few) = inl (omega (arith, few))
    by same (inr on) = inr (record { line = on.line; more = on.more; after = on.after; lines = ap₂ (λ v vs. v ∷ vs) (sym same) on.lines; text = on.text })

-- lines with more after them
rise_front : (least : ℕ) (ts : List ParsedLine) (t : ParsedLine) (more : List ParsedLine) → RiseFrom least (events_of (ts ++ t ∷ more)) → RiseFrom least (events_of (ts ++ t ∷ []))
rise_front least [] t more h = (h.0, tt)
rise_front least (u ∷ us) t more h = (h.0, rise_front u.event.key us t more h.1)

each_front : (ts : List ParsedLine) (t : ParsedLine) (more : List ParsedLine) → AllByRecursion IsParsedLine (ts ++ t ∷ more) → AllByRecursion IsParsedLine (ts ++ t ∷ [])
each_front [] t more h = (h.0, tt)
each_front (u ∷ us) t more h = (h.0, each_front us t more h.1)

-- behind lines after which none follows, no others go on
pub no_longer : (text : List ℕ) (ts us : List ParsedLine) (front rest : List ℕ) → EndsBehind text ts → AreLines 0 us front → text ≡ front ++ rest → length us ≤ length ts
no_longer text ts us front rest ends are e = by (no_more_or ts us ends.rest rest ends.lines.each are.each whole)
  where
    whole : flat_map parsed_text ts ++ ends.rest ≡ flat_map parsed_text us ++ rest
    whole = ap (λ f. f ++ ends.rest) (sym ends.lines.spelling) ∙ (sym ends.parts ∙ (e ∙ ap (λ f. f ++ rest) are.spelling))

    by : (length us ≤ length ts) ⊎ GoesOn ts us ends.rest → length us ≤ length ts
    by (inl few) = few
    by (inr on) =
        let rises = rise_front 0 ts on.line on.more (subst (λ vs. RiseFrom 0 (events_of vs)) on.lines are.order) in
        let each = each_front ts on.line on.more (subst (AllByRecursion IsParsedLine) on.lines are.each) in
        let spelling : ends.front ++ parsed_text on.line ≡ flat_map parsed_text (ts ++ on.line ∷ []) =
        ap₂ (λ a b. a ++ b) ends.lines.spelling (sym (append-nil (parsed_text on.line))) ∙ sym (flat_map-append parsed_text ts (on.line ∷ [])) in
        absurd (ends.no_more on.line on.after on.text (record { spelling = spelling; each = each; order = rises }))

-- ---- one bad line

same_rest : (front xs ys : List ℕ) → front ++ xs ≡ front ++ ys → xs ≡ ys
same_rest [] xs ys e = e
same_rest (f ∷ fs) xs ys e = same_rest fs xs ys (cc)

as_many : (text : List ℕ) (ts us : List ParsedLine) → EndsBehind text ts → EndsBehind text us → length ts ≡ length us
as_many text ts us h g = let less = no_longer text us ts h.front h.rest g h.lines h.parts in let more = no_longer text ts us g.front g.rest h g.lines g.parts in omega (arith, less, more)

pub one_bad_line : (bytes : List ℕ) (a b : ℕ) → IsFirstBad bytes a → IsFirstBad bytes b → a ≡ b
one_bad_line bytes a b (inl (is, none)) (inl (js, never)) = is ∙ sym js
one_bad_line bytes a b (inl (is, none)) (inr (text, ts, here, h, js)) = absurd (none text here)
one_bad_line bytes a b (inr (text, ts, here, h, is)) (inl (js, none)) = absurd (none text here)
one_bad_line bytes a b (inr (text, ts, here, h, is)) (inr (other, us, there, g, js)) =
    let same : text ≡ other = same_rest first_line text other (sym here ∙ there) in
    let count = as_many other ts us (subst (λ x. EndsBehind x ts) same h) g in
    omega (arith, is, js, count)

-- no line is the first bad one behind too many events
pub not_crowded : (bytes : List ℕ) (line : ℕ) → IsFirstBad bytes line → IsCrowded bytes → ⊥
not_crowded bytes line (inl (is, none)) (text, here, many) = none text here
not_crowded bytes line (inr (other, ts, there, h, is)) (text, here, many) =
    let same : text ≡ other = same_rest first_line text other (sym here ∙ there) in
    let few = no_longer other ts many.parsed_lines many.front many.rest h many.lines (sym same ∙ many.parts) in
    let more = many.many in
    let limit = h.few in
    absurd (omega (arith, few, more, limit))
