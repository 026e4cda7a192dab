-- The words of a clock's name.
use Rattle.std.proofs.Common.{◌≡◌, ◌∙◌, ◌++◌, ◌==◌, ◌&&◌, not, ◌<◌, ◌+◌, ◌-◌, List, [], ◌∷◌, Some, None, option_map, Bool, true, false, if◌then◌else◌, length, take, get_or, ap, refl, sym, arith}
use Rattle.std.proofs.lemmas.Bool.{eqb-true}
use Rattle.std.proofs.Math.Seq.{take-length}
use Rattle.std.proofs.lemmas.List.{take_more}
use Rattle.trace_types.specs.Texts.{is_text}
use Rattle.type_table.specs.Types.{Text}
use Rattle.type_rules.specs.Attributes.{before_last, some_words}

along : {A B : Type 0} (f : A → B) (x y : A) → x ≡ y → f x ≡ f y
along f x y h = ap f h

more_words : (b : Bool) (w : Text) (ws : List Text) → option_map (λ before. w ∷ before) (if b then Some ws else None) ≡ (if b then Some (w ∷ ws) else None)
more_words true w ws = refl
more_words false w ws = refl

before_end : (word : Text) (ws : List Text) (v : Text) → before_last word (ws ++ v ∷ []) ≡ (if is_text v word then Some ws else None)
before_end word [] v = refl
before_end word (w ∷ []) v = more_words (is_text v word) w []
before_end word (w ∷ x ∷ ws) v = along (option_map (λ before. w ∷ before)) _ _ (before_end word (x ∷ ws) v) ∙ more_words (is_text v word) w (x ∷ ws)

ended : (ws : List Text) (d : Text) → 0 < length ws → ws ≡ take (length ws - 1) ws ++ get_or ws (length ws - 1) d ∷ []
ended ws d h =
    let n : length ws ≡ length ws - 1 + 1 = omega (arith, h) in
    sym (take-length ws) ∙ (ap (λ k. take k ws) n ∙ take_more ws (length ws - 1) d (omega (arith, h)))

before_value : (word : Text) (ws : List Text) (d : Text) → 0 < length ws → before_last word ws ≡ (if is_text (get_or ws (length ws - 1) d) word then Some (take (length ws - 1) ws) else None)
before_value word ws d h = along (before_last word) _ _ (ended ws d h) ∙ before_end word (take (length ws - 1) ws) (get_or ws (length ws - 1) d)

some_by : (ws : List Text) (e : Bool) → e ≡ (length ws == 0) → some_words (Some ws) ≡ (if not e then Some ws else None)
some_by [] true h = refl
some_by [] false h = absurd (cc)
some_by (w ∷ ws) false h = refl
some_by (w ∷ ws) true h = absurd (omega (arith, eqb-true (length (w ∷ ws)) 0 (sym h)))

-- words with a last one, by whether that is this one and there are none before it
pub named : (word : Text) (ws : List Text) (d : Text) (v e : Bool) → 0 < length ws → v ≡ is_text (get_or ws (length ws - 1) d) word → e ≡ (length (take (length ws - 1) ws) == 0)
    → some_words (before_last word ws) ≡ (if v && not e then Some (take (length ws - 1) ws) else None)
named word ws d true e h is empty = along some_words _ _ (before_value word ws d h ∙ ap (λ b. if b then Some (take (length ws - 1) ws) else None) (sym is)) ∙ some_by (take (length ws - 1) ws) e empty
named word ws d false e h is empty = along some_words _ _ (before_value word ws d h ∙ ap (λ b. if b then Some (take (length ws - 1) ws) else None) (sym is))
