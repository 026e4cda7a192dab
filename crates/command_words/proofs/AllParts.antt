-- Words have one list of parts at most.
use Rattle.std.proofs.Common.{◌≡◌, ◌≢◌, inl, inr, ℕ, List, [], ◌∷◌, ◌++◌, map, drop, codes, refl, sym, ap, ap₂, ◌∙◌, subst}
use Rattle.command_words.specs.Parts.{Part, positional, BeginsWith, BeginsWithNone, BeginsWithParts, Ends, AreParts}
use Rattle.command_words.specs.Shapes.{Gives, HaveShape, Shape}
use Rattle.command_words.proofs.OptionWords.{dashes_alone}
use Rattle.command_words.proofs.FirstParts.{no_option, no_words, one_part}

pub one_more : (ws : List (List ℕ)) (ps : List Part) (rest : List (List ℕ)) (p : Part) (after : List (List ℕ)) → BeginsWithParts ws ps rest → BeginsWith rest p after → BeginsWithParts ws (ps ++ p ∷ []) after
one_more ws [] rest p after h g = (after, subst (λ l. BeginsWith l p after) (sym h) g, refl)
one_more ws (q ∷ qs) rest p after h g = (h.0, h.1, one_more h.0 qs rest p after h.2 g)

pub same_parts : (ws : List (List ℕ)) (ps qs : List Part) (r s : List (List ℕ)) → BeginsWithParts ws ps r → BeginsWithParts ws qs s → BeginsWithNone r → BeginsWithNone s → (ps ≡ qs) × (r ≡ s)
same_parts ws [] [] r s h g stop end = (refl, sym h ∙ g)
same_parts ws [] (q ∷ qs) r s h g stop end = absurd (stop q g.0 (subst (λ l. BeginsWith l q g.0) h g.1))
same_parts ws (p ∷ ps) [] r s h g stop end = absurd (end p h.0 (subst (λ l. BeginsWith l p h.0) g h.1))
same_parts ws (p ∷ ps) (q ∷ qs) r s h g stop end =
    let one = one_part ws p q h.0 g.0 h.1 g.1 in
    let more = same_parts h.0 ps qs r s h.2 (subst (λ l. BeginsWithParts l qs s) (sym one.1) g.2) stop end in
    (ap₂ (λ x xs. x ∷ xs) one.0 more.0, more.1)

pub ends_with_none : (rest last : List (List ℕ)) → Ends rest last → BeginsWithNone rest
ends_with_none rest last (inl h) = subst BeginsWithNone (sym h.0) no_words
ends_with_none rest last (inr h) = subst BeginsWithNone (sym h) (no_option (codes "--") last refl dashes_alone)

same_last : (rest a b : List (List ℕ)) → Ends rest a → Ends rest b → a ≡ b
same_last rest a b (inl h) (inl g) = h.1 ∙ sym g.1
same_last rest a b (inl h) (inr g) = let no : [] ≡ codes "--" ∷ b = sym h.0 ∙ g in absurd (cc)
same_last rest a b (inr h) (inl g) = let no : [] ≡ codes "--" ∷ a = sym g.0 ∙ h in absurd (cc)
same_last rest a b (inr h) (inr g) = ap (drop 1) (sym h ∙ g)

pub one_list : (ws : List (List ℕ)) (ps qs : List Part) → AreParts ws ps → AreParts ws qs → ps ≡ qs
one_list ws ps qs h g =
    let same = same_parts ws h.front g.front h.rest g.rest h.begins g.begins (ends_with_none _ _ h.ends) (ends_with_none _ _ g.ends) in
    let last = same_last g.rest h.last g.last (subst (λ r. Ends r h.last) same.1 h.ends) g.ends in
    h.parts_are ∙ (ap₂ (λ xs ys. xs ++ map positional ys) same.0 last ∙ sym g.parts_are)

-- where words that begin no part aren't the last, there are no parts
pub no_parts : (ws : List (List ℕ)) (ps : List Part) (rest : List (List ℕ)) → BeginsWithParts ws ps rest → BeginsWithNone rest → ((last : List (List ℕ)) → Ends rest last → ⊥) → (parts : List Part) → AreParts ws parts → ⊥
no_parts ws ps rest h stop more parts g =
    let same = same_parts ws ps g.front rest g.rest h g.begins stop (ends_with_none _ _ g.ends) in
    more g.last (subst (λ r. Ends r g.last) (sym same.1) g.ends)

pub other_word : (w : List ℕ) (ws last : List (List ℕ)) → w ≢ codes "--" → Ends (w ∷ ws) last → ⊥
other_word w ws last other (inl h) = absurd (cc)
other_word w ws last other (inr h) = other (cc)

-- parts without a shape are of words that give nothing
pub no_shape : (ws : List (List ℕ)) (ps : List Part) → AreParts ws ps → ((s : Shape) → HaveShape ps s → ⊥) → (s : Shape) → Gives ws s → ⊥
no_shape ws ps h none s g = none s (subst (λ (l : List Part). HaveShape l s) (one_list ws g.parts ps g.are_parts h) g.have_shape)
