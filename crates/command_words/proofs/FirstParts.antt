-- Words begin with one part at most.
use Rattle.std.proofs.Common.{◌≡◌, ◌≢◌, ◌⊎◌, inl, inr, ℕ, Bool, true, false, List, [], ◌∷◌, Option, Some, None, drop, get_or, sym, ap, ◌∙◌, subst}
use Rattle.command_words.specs.OptionNames.{option_word, takes_value}
use Rattle.command_words.specs.Parts.{Part, positional, valued, is_dashed, BeginsWith, word, flag, attached, separate, BeginsWithNone}
use Rattle.command_words.specs.declared.option_name.OptionName.{OptionName}
use Rattle.command_words.proofs.OptionWords.{same_option}

head : {A : Type 0} (w v : List A) (ws vs : List (List A)) → w ∷ ws ≡ v ∷ vs → w ≡ v
head w v ws vs e = ap (λ l. get_or l 0 []) e

tail : {A : Type 0} (w v : A) (ws vs : List A) → w ∷ ws ≡ v ∷ vs → ws ≡ vs
tail w v ws vs e = ap (drop 1) e

-- what follows an option word
abbrev pub Follows : OptionName → Option (List ℕ) → List (List ℕ) → Part → List (List ℕ) → Type 0
Follows n (Some v) ws p rest = (takes_value n ≡ true) × (p ≡ valued n v) × (ws ≡ rest)
Follows n None ws p rest = ((takes_value n ≡ false) × (p ≡ valued n []) × (ws ≡ rest)) ⊎ ((v : List ℕ) × (takes_value n ≡ true) × (p ≡ valued n v) × (is_dashed v ≡ false) × (ws ≡ v ∷ rest))

same_flag : (n m : OptionName) → n ≡ m → (b : Bool) → takes_value m ≡ b → takes_value n ≡ b
same_flag n m e b h = ap takes_value e ∙ h

same_valued : (n m : OptionName) (v : List ℕ) (p : Part) → n ≡ m → p ≡ valued m v → p ≡ valued n v
same_valued n m v p e h = h ∙ ap (λ k. valued k v) (sym e)

pub follows : (n : OptionName) (a : Option (List ℕ)) (ws : List (List ℕ)) (p : Part) (rest : List (List ℕ)) → BeginsWith (option_word n a ∷ ws) p rest → Follows n a ws p rest
follows n None ws p rest (word _ _ _ w is d e) = let no : true ≡ false = ap is_dashed (head (option_word n None) w ws rest e) ∙ d in absurd (cc)
follows n (Some u) ws p rest (word _ _ _ w is d e) = let no : true ≡ false = ap is_dashed (head (option_word n (Some u)) w ws rest e) ∙ d in absurd (cc)
follows n None ws p rest (flag _ _ _ m is t e) =
    let same = same_option n m None None (head _ _ ws rest e) in
    inl (same_flag n m same.0 false t, same_valued n m [] p same.0 is, tail _ _ ws rest e)
follows n (Some u) ws p rest (flag _ _ _ m is t e) = let same = same_option n m (Some u) None (head _ _ ws rest e) in absurd (cc)
follows n None ws p rest (attached _ _ _ m v is t e) = let same = same_option n m None (Some v) (head _ _ ws rest e) in absurd (cc)
follows n (Some u) ws p rest (attached _ _ _ m v is t e) =
    let same = same_option n m (Some u) (Some v) (head _ _ ws rest e) in
    let value : v ≡ u = cc in
    (same_flag n m same.0 true t, same_valued n m v p same.0 is ∙ ap (valued n) value, tail _ _ ws rest e)
follows n None ws p rest (separate _ _ _ m v is t d e) =
    let same = same_option n m None None (head _ _ ws (v ∷ rest) e) in
    inr (v, same_flag n m same.0 true t, same_valued n m v p same.0 is, d, tail _ _ ws (v ∷ rest) e)
follows n (Some u) ws p rest (separate _ _ _ m v is t d e) = let same = same_option n m (Some u) None (head _ _ ws (v ∷ rest) e) in absurd (cc)

-- a word with no minus sign is positional
pub follows_word : (w : List ℕ) (ws : List (List ℕ)) (p : Part) (rest : List (List ℕ)) → is_dashed w ≡ false → BeginsWith (w ∷ ws) p rest → (p ≡ positional w) × (ws ≡ rest)
follows_word w ws p rest d (word _ _ _ v is e same) = (is ∙ ap positional (sym (head w v ws rest same)), tail w v ws rest same)
follows_word w ws p rest d (flag _ _ _ m is t e) = let no : false ≡ true = sym d ∙ ap is_dashed (head w (option_word m None) ws rest e) in absurd (cc)
follows_word w ws p rest d (attached _ _ _ m v is t e) = let no : false ≡ true = sym d ∙ ap is_dashed (head w (option_word m (Some v)) ws rest e) in absurd (cc)
follows_word w ws p rest d (separate _ _ _ m v is t h e) = let no : false ≡ true = sym d ∙ ap is_dashed (head w (option_word m None) ws (v ∷ rest) e) in absurd (cc)

-- a word with a minus sign that names no option begins no part
pub no_option : (w : List ℕ) (ws : List (List ℕ)) → is_dashed w ≡ true → ((n : OptionName) (a : Option (List ℕ)) → w ≢ option_word n a) → BeginsWithNone (w ∷ ws)
no_option w ws d none p rest (word _ _ _ v is e same) = let no : true ≡ false = sym d ∙ (ap is_dashed (head w v ws rest same) ∙ e) in absurd (cc)
no_option w ws d none p rest (flag _ _ _ m is t e) = none m None (head _ _ ws rest e)
no_option w ws d none p rest (attached _ _ _ m v is t e) = none m (Some v) (head _ _ ws rest e)
no_option w ws d none p rest (separate _ _ _ m v is t h e) = none m None (head _ _ ws (v ∷ rest) e)

cons_is_not_nil : (w : List ℕ) (ws : List (List ℕ)) → [] ≡ w ∷ ws → ⊥
cons_is_not_nil w ws e = absurd (cc)

pub no_words : BeginsWithNone []
no_words p rest (word _ _ _ v is e same) = cons_is_not_nil _ _ same
no_words p rest (flag _ _ _ m is t e) = cons_is_not_nil _ _ e
no_words p rest (attached _ _ _ m v is t e) = cons_is_not_nil _ _ e
no_words p rest (separate _ _ _ m v is t h e) = cons_is_not_nil _ _ e

-- words begin with one part
pub one_part : (ws : List (List ℕ)) (p q : Part) (r s : List (List ℕ)) → BeginsWith ws p r → BeginsWith ws q s → (p ≡ q) × (r ≡ s)
one_part ws p q r s (word _ _ _ w is d e) h =
    let f = follows_word w r q s d (subst (λ l. BeginsWith l q s) e h) in (is ∙ sym f.0, f.1)
one_part ws p q r s (flag _ _ _ n is t e) h = by (follows n None r q s (subst (λ l. BeginsWith l q s) e h))
  where
    by : Follows n None r q s → (p ≡ q) × (r ≡ s)
    by (inl f) = (is ∙ sym f.1, f.2)
    by (inr f) = let no : true ≡ false = sym f.1 ∙ t in absurd (cc)
one_part ws p q r s (attached _ _ _ n v is t e) h =
    let f = follows n (Some v) r q s (subst (λ l. BeginsWith l q s) e h) in (is ∙ sym f.1, f.2)
one_part ws p q r s (separate _ _ _ n v is t d e) h = by (follows n None (v ∷ r) q s (subst (λ l. BeginsWith l q s) e h))
  where
    by : Follows n None (v ∷ r) q s → (p ≡ q) × (r ≡ s)
    by (inl f) = let no : true ≡ false = sym t ∙ f.0 in absurd (cc)
    by (inr f) = let same : v ≡ f.0 = head v f.0 r s f.4 in (is ∙ (ap (valued n) same ∙ sym f.2), tail v f.0 r s f.4)
