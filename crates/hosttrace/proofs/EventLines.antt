-- The lines of events, and of texts, part by part.
use Rattle.std.proofs.Common.{◌≡◌, ℕ, ◌+◌, ◌<◌, List, ◌++◌, length, take, drop, get_or, Option, sym, ap, ◌∙◌, subst, append_assoc, take-append-drop}
use Rattle.std.specs.Prelude.{flat_map}
use Rattle.std.specs.Io.KnownBytes.{Appends}
use Rattle.std.proofs.lemmas.Grind.{flat_map-append}
use Rattle.trace_types.specs.declared.event.Merged.{Merged}
use Rattle.event_list.specs.Lines.{line_text}
use Rattle.event_list.proofs.Prefixes.{take_more}
use Rattle.hosttrace.specs.Outputs.{event_lines}
use Rattle.hosttrace.proofs.Written.{Appends-append}

-- what is written, the next lines, and all others
pub lines_around : (names : ℕ → List (List ℕ)) (whole front : List ℕ) (rest next after : List Merged) → whole ≡ front ++ event_lines names rest → rest ≡ next ++ after → whole ≡ front ++ (event_lines names next ++ event_lines names after)
lines_around names whole front rest next after e parts =
    e ∙ ap (λ l. front ++ l) (ap (event_lines names) parts ∙ flat_map-append (λ (m : Merged). line_text (names m.event.host) m) next after)

-- and after the next lines are written
pub lines_more : (names : ℕ → List (List ℕ)) (whole front : List ℕ) (rest next after : List Merged) → whole ≡ front ++ event_lines names rest → rest ≡ next ++ after → whole ≡ (front ++ event_lines names next) ++ event_lines names after
lines_more names whole front rest next after e parts =
    lines_around names whole front rest next after e parts ∙ sym (append_assoc front (event_lines names next) (event_lines names after))

-- the first texts, the next, and all others
texts_split : {A : Type 0} (f : A → List ℕ) (xs : List A) (i : ℕ) (d : A) → i < length xs → flat_map f xs ≡ flat_map f (take i xs) ++ (f (get_or xs i d) ++ flat_map f (drop (i + 1) xs))
texts_split f xs i d l =
    ap (flat_map f) (sym (take-append-drop (i + 1) xs))
    ∙ (flat_map-append f (take (i + 1) xs) (drop (i + 1) xs)
    ∙ (ap (λ t. t ++ flat_map f (drop (i + 1) xs)) (take_more f xs i d l)
    ∙ append_assoc (flat_map f (take i xs)) (f (get_or xs i d)) (flat_map f (drop (i + 1) xs))))

-- the same, where the next item is x and its text t
pub texts_around : {A : Type 0} (f : A → List ℕ) (xs : List A) (i : ℕ) (x : A) (t : List ℕ) → i < length xs → x ≡ get_or xs i x → t ≡ f x → flat_map f xs ≡ flat_map f (take i xs) ++ (t ++ flat_map f (drop (i + 1) xs))
texts_around f xs i x t l at is = texts_split f xs i x l ∙ ap (λ u. flat_map f (take i xs) ++ (u ++ flat_map f (drop (i + 1) xs))) (ap f (sym at) ∙ sym is)

-- and after the next text is written
pub texts_more : {A : Type 0} (f : A → List ℕ) (xs : List A) (i : ℕ) (x : A) → i < length xs → x ≡ get_or xs i x → (a b c : Option (List ℕ)) → Appends a b (flat_map f (take i xs)) → Appends b c (f x) → Appends a c (flat_map f (take (i + 1) xs))
texts_more f xs i x l at a b c h k = subst (Appends a c) (ap (λ y. flat_map f (take i xs) ++ f y) at ∙ sym (take_more f xs i x l)) (Appends-append a b c (flat_map f (take i xs)) (f x) h k)
