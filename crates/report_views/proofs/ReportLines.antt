-- The lines of a report, one after the other.
use Rattle.std.proofs.Common.{◌≡◌, ◌≢◌, ◌⊎◌, inl, inr, ℕ, zero, suc, ◌+◌, ◌-◌, ◌*◌, ◌<◌, ◌≤◌, true, false, if◌then◌else◌, codes, ap₂, List, [], ◌∷◌, ◌++◌, length, map, refl, sym, ap, ◌∙◌, append_assoc, arith}
use Rattle.std.specs.Prelude.{OnOk, Some, flat_map, slice_get, ◌==◌}
use Rattle.std.specs.List.{range_with_len}
use Rattle.std.specs.declared.result.Result.{Result}
use Rattle.std.proofs.lemmas.List.{flat_map_more}
use Rattle.std.proofs.lemmas.List.Folds.{flat_map-map}
use Rattle.std.proofs.lemmas.List.FromFn.{map-range_with_len_more}
use Rattle.std.proofs.lemmas.Result.{on_ok_weaker}
use Rattle.std.proofs.lemmas.Bool.Decides.{eqb_tells}
use Rattle.std.specs.Fmt.{decimal}
use Rattle.trace_types.specs.ByteTexts.{byte_text}
use Rattle.trace_types.specs.declared.host.HostEvents.{HostEvents}
use Rattle.message_match.specs.declared.message.Message.{Message}
use Rattle.hull_lines.specs.declared.outcome.Fit.{Fit}
use Rattle.report_views.specs.Report.{AreCounted, count_at, count_from, host_line, inverted_line, is_map, messages_line, pair_line, pair_lines, pair_lines_of, yes_or_no}

-- the line of one more number
pub next_line : (f : ℕ → List ℕ) (old mid new : List ℕ) (a n x m : ℕ) → mid ≡ old ++ flat_map f (range_with_len a n) → new ≡ mid ++ f x → a + n ≡ x → n + 1 ≡ m → new ≡ old ++ flat_map f (range_with_len a m)
next_line f old mid new a n x m before here at next =
    let same : (xs : List ℕ) → flat_map f (map (λ k. k) xs) ≡ flat_map f xs = flat_map-map f (λ k. k) in
    here ∙ (ap (λ l. l ++ f x) (before ∙ ap (λ l. old ++ l) (sym (same (range_with_len a n))))
    ∙ (flat_map_more f old (map (λ k. k) (range_with_len a n)) x
    ∙ ap (λ l. old ++ l) (ap (flat_map f) (sym (map-range_with_len_more (λ k. k) a n x at)) ∙ (same (range_with_len a (n + 1)) ∙ ap (λ k. flat_map f (range_with_len a k)) next))))

-- two parts, and three
pub two_parts : (old mid new a b : List ℕ) → mid ≡ old ++ a → new ≡ mid ++ b → new ≡ old ++ (a ++ b)
two_parts old mid new a b first second = second ∙ (ap (λ l. l ++ b) first ∙ append_assoc old a b)

pub last_part : {A E : Type 0} (r : Result A E) (old mid new a b : List ℕ) → mid ≡ old ++ a → OnOk r (new ≡ mid ++ b) → OnOk r (new ≡ old ++ (a ++ b))
last_part r old mid new a b first second = on_ok_weaker r (two_parts old mid new a b first) second

pub same_text : {A E : Type 0} (r : Result A E) (old new a b : List ℕ) → a ≡ b → OnOk r (new ≡ old ++ a) → OnOk r (new ≡ old ++ b)
same_text r old new a b e h = on_ok_weaker r (λ k. k ∙ ap (λ l. old ++ l) e) h

pub line_ends : (a b r l : List ℕ) → ((a ++ 10 ∷ []) ++ b) ++ r ++ l ≡ (a ++ 10 ∷ b) ++ r ++ l
line_ends a b r l = ap (λ k. k ++ r ++ l) (append_assoc a (10 ∷ []) b)

-- lines that agree on the numbers of a range
pub same_lines : (f g : ℕ → List ℕ) (a n : ℕ) → ((x : ℕ) → a ≤ x → x < a + n → f x ≡ g x) → flat_map f (range_with_len a n) ≡ flat_map g (range_with_len a n)
same_lines f g a zero same = refl
same_lines f g a (suc n) same = ap₂ (λ x y. x ++ y) (same a (omega arith) (omega arith)) (same_lines f g (a + 1) n (λ x h k. same x (omega (arith, h)) (omega (arith, k))))

-- ---- pairs of hosts
pair_same : (hosts : ℕ) (f g : ℕ → ℕ → ℕ) (fits : List Fit) (u v : ℕ) → f u v ≡ g u v → f v u ≡ g v u → pair_line hosts f fits u v ≡ pair_line hosts g fits u v
pair_same hosts f g fits u v there back =
    ap₂ (λ (a b : ℕ). if a + b == 0 then [] else codes "pair " ++ decimal u ++ 32 ∷ decimal v ++ 32 ∷ decimal a ++ 32 ∷ decimal b ++ 32 ∷ yes_or_no (is_map (slice_get fits (u * hosts + v))) ++ 32 ∷ yes_or_no (is_map (slice_get fits (v * hosts + u))) ++ 10 ∷ []) there back

pub pairs_same : (hosts : ℕ) (matched : List Message) (counts : List ℕ) (fits : List Fit) → AreCounted hosts matched counts → flat_map (pair_lines_of hosts (count_at hosts counts) fits) (range_with_len 0 hosts) ≡ pair_lines hosts (count_from matched) fits
pairs_same hosts matched counts fits are =
    same_lines (pair_lines_of hosts (count_at hosts counts) fits) (pair_lines_of hosts (count_from matched) fits) 0 hosts (λ u low high.
    same_lines (pair_line hosts (count_at hosts counts) fits u) (pair_line hosts (count_from matched) fits u) (u + 1) (hosts - (u + 1)) (λ v after within.
    pair_same hosts (count_at hosts counts) (count_from matched) fits u v (are.each u v (omega (arith, high)) (omega (arith, high, within))) (are.each v u (omega (arith, high, within)) (omega (arith, high)))))

-- the line of a pair between which messages went, as it is written
pub pair_is : (hosts : ℕ) (count : ℕ → ℕ → ℕ) (fits : List Fit) (u v : ℕ) (usable back : List ℕ) → (count u v ≡ 0 → count v u ≡ 0 → ⊥) → usable ≡ yes_or_no (is_map (slice_get fits (u * hosts + v))) → back ≡ yes_or_no (is_map (slice_get fits (v * hosts + u)))
    → (codes "pair " ++ (decimal u ++ 32 ∷ (decimal v ++ 32 ∷ (decimal (count u v) ++ 32 ∷ (decimal (count v u) ++ 32 ∷ []))))) ++ (usable ++ 32 ∷ (back ++ 10 ∷ [])) ≡ pair_line hosts count fits u v
pair_is hosts count fits u v usable back some there here = written ∙ by (eqb_tells (count u v + count v u) 0)
  where
    line : List ℕ → List ℕ → List ℕ
    line a b = codes "pair " ++ decimal u ++ 32 ∷ decimal v ++ 32 ∷ decimal (count u v) ++ 32 ∷ decimal (count v u) ++ 32 ∷ a ++ 32 ∷ b ++ 10 ∷ []

    written : (codes "pair " ++ (decimal u ++ 32 ∷ (decimal v ++ 32 ∷ (decimal (count u v) ++ 32 ∷ (decimal (count v u) ++ 32 ∷ []))))) ++ (usable ++ 32 ∷ (back ++ 10 ∷ [])) ≡ line usable back
    written = simp append_assoc

    by : ((count u v + count v u == 0 ≡ true) × (count u v + count v u ≡ 0)) ⊎ ((count u v + count v u == 0 ≡ false) × (count u v + count v u ≢ 0)) → line usable back ≡ pair_line hosts count fits u v
    by (inl x) = let e = x.1 in absurd (some (omega (arith, e)) (omega (arith, e)))
    by (inr x) = ap₂ line there here ∙ ap (λ c. if c then [] else line (yes_or_no (is_map (slice_get fits (u * hosts + v)))) (yes_or_no (is_map (slice_get fits (v * hosts + u))))) (sym x.0)

-- ---- other lines, as they are written
pub messages_is : (matched : List Message) (n a : ℕ) → n ≡ length matched → codes "messages matched " ++ (decimal n ++ (codes " ambiguous " ++ (decimal a ++ 10 ∷ []))) ≡ messages_line matched a
messages_is matched n a is = regrouped ∙ ap (λ k. codes "messages matched " ++ decimal k ++ codes " ambiguous " ++ decimal a ++ 10 ∷ []) is
  where
    regrouped : codes "messages matched " ++ (decimal n ++ (codes " ambiguous " ++ (decimal a ++ 10 ∷ []))) ≡ codes "messages matched " ++ decimal n ++ codes " ambiguous " ++ decimal a ++ 10 ∷ []
    regrouped = simp append_assoc

pub inverted_is : (m : Message) → codes "inverted-message " ++ (decimal m.from ++ 32 ∷ (decimal m.sent ++ 32 ∷ (decimal m.to ++ 32 ∷ (decimal m.received ++ 10 ∷ [])))) ≡ inverted_line (Some m)
inverted_is m = simp append_assoc

pub host_is : (h : HostEvents) (events refused : ℕ) → events ≡ length h.events.items → refused ≡ length h.refused.items
    → (codes "host " ++ (decimal h.host ++ 32 ∷ [])) ++ byte_text h.hostname ++ (codes " events " ++ (decimal events ++ (codes " packets " ++ (decimal h.packets ++ (codes " refused " ++ (decimal refused ++ (codes " incomplete " ++ (decimal h.incomplete ++ 10 ∷ [])))))))) ≡ host_line h
host_is h events refused some none = regrouped ∙ ap₂ line some none
  where
    line : ℕ → ℕ → List ℕ
    line e r = codes "host " ++ decimal h.host ++ 32 ∷ byte_text h.hostname ++ codes " events " ++ decimal e ++ codes " packets " ++ decimal h.packets ++ codes " refused " ++ decimal r ++ codes " incomplete " ++ decimal h.incomplete ++ 10 ∷ []

    regrouped : (codes "host " ++ (decimal h.host ++ 32 ∷ [])) ++ byte_text h.hostname ++ (codes " events " ++ (decimal events ++ (codes " packets " ++ (decimal h.packets ++ (codes " refused " ++ (decimal refused ++ (codes " incomplete " ++ (decimal h.incomplete ++ 10 ∷ [])))))))) ≡ line events refused
    regrouped = simp append_assoc

-- ---- the whole
pub six_parts : (none one two three four five six a b c d e f : List ℕ) → none ≡ [] → one ≡ none ++ a → two ≡ one ++ b → three ≡ two ++ c → four ≡ three ++ d → five ≡ four ++ e → six ≡ five ++ f → six ≡ a ++ b ++ c ++ d ++ e ++ f
six_parts none one two three four five six a b c d e f empty first second third fourth fifth sixth =
    let to_one : one ≡ a = first ∙ ap (λ l. l ++ a) empty in
    let to_two : two ≡ a ++ b = second ∙ ap (λ l. l ++ b) to_one in
    let to_three : three ≡ a ++ b ++ c = third ∙ ap (λ l. l ++ c) to_two in
    let to_four : four ≡ a ++ b ++ c ++ d = fourth ∙ ap (λ l. l ++ d) to_three in
    let to_five : five ≡ a ++ b ++ c ++ d ++ e = fifth ∙ ap (λ l. l ++ e) to_four in
    sixth ∙ ap (λ l. l ++ f) to_five
