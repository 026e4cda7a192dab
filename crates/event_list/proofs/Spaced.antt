-- A line is its first word, and each other with the space before it.
use Rattle.std.proofs.Common.{◌≡◌, ℕ, List, [], ◌∷◌, ◌++◌, sym, ap, ◌∙◌, append_assoc, append-nil}
use Rattle.std.proofs.lemmas.Grind.{flat_map-append}
use Rattle.std.specs.Fmt.{decimal}
use Rattle.std.specs.List.{join_with_byte}
use Rattle.trace_types.specs.EventKinds.{kind_of_event, word_of}
use Rattle.trace_types.specs.declared.event.Merged.{Merged}
use Rattle.event_list.specs.Lines.{field_words, head_text, line_text}
use Rattle.event_list.specs.Spaced.{spaced}

joined : (w : List ℕ) (ws : List (List ℕ)) → join_with_byte 32 (w ∷ ws) ≡ w ++ spaced ws
joined w [] = sym (append-nil w)
joined w (v ∷ vs) = ap (λ l. w ++ 32 ∷ l) (joined v vs)

line_is : (names : List (List ℕ)) (m : Merged) → line_text names m ≡ head_text m ++ spaced (field_words names m.event.kind) ++ 10 ∷ []
line_is names m =
    let key = decimal m.key in
    let rest = decimal m.event.host ∷ decimal m.event.cpu ∷ decimal m.event.time ∷ word_of (kind_of_event m.event.kind) ∷ [] in
    let fields = field_words names m.event.kind in
    ap (λ l. l ++ 10 ∷ []) (joined key (rest ++ fields) ∙ (ap (λ l. key ++ l) (flat_map-append (λ (w : List ℕ). 32 ∷ w) rest fields)
    ∙ (sym (append_assoc key (spaced rest) (spaced fields)) ∙ ap (λ l. l ++ spaced fields) (sym (joined key rest)))))

-- a line behind other text, as it is written: its head, its fields, the line feed
pub line_behind : (before : List ℕ) (names : List (List ℕ)) (m : Merged) → ((before ++ head_text m) ++ spaced (field_words names m.event.kind)) ++ 10 ∷ [] ≡ before ++ line_text names m
line_behind before names m =
    let fields = spaced (field_words names m.event.kind) in
    append_assoc (before ++ head_text m) fields (10 ∷ [])
    ∙ (append_assoc before (head_text m) (fields ++ 10 ∷ [])
    ∙ ap (λ l. before ++ l) (sym (append_assoc (head_text m) fields (10 ∷ [])) ∙ sym (line_is names m)))
