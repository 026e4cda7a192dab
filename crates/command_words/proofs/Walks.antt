-- What `clap` makes of words in one order.
use Rattle.std.proofs.Common.{◌≡◌, Bool, true, false, not, if◌then◌else◌, List, [], ◌∷◌, ◌++◌, Option, Some, None, codes, refl, sym, ap, ◌∙◌, append_assoc, append-nil}
use Rattle.std.specs.Prelude.{◌&&◌, ◌||◌, fold}
use Rattle.std.specs.List.{list_all}
use Rattle.std.specs.Str.{bytes_eq}
use Rattle.std.proofs.lemmas.List.Sums.{fold-append}
use Rattle.clap.specs.Walk.{Names, Row, Walk, at_row, default_rows, finished, has_row, idle, is_empty, more_values, nothing_held, positional, reading_by, settled, used, walk, walked, with_default, with_values, without}
use Rattle.clap.specs.Simple.{built, names_of}
use Rattle.clap.specs.Words.{Rule, Text, matches_of}
use Rattle.clap.specs.declared.builder.value_parser.Reading.{Reading}
use Rattle.clap.specs.declared.builder.value_parser.Reading.TheVariants.{AsWritten}
use Rattle.clap.specs.declared.parser.matches.ValueSource.TheVariants.{CommandLine}
use Rattle.clap.proofs.OnLiterals.{clap_on_literals}
use Rattle.clap.proofs.SimpleLemmas.{is_false, is_nil}
use Rattle.clap.proofs.WalkLemmas.{both}
use Rattle.command_words.specs.Matching.{app, option_rule}
use Rattle.command_words.specs.OptionNames.{name_text, option_word}
use Rattle.command_words.specs.OrderedWords.{ordered_words, slot_words, slots}
use Rattle.command_words.specs.Shapes.{Shape}
use Rattle.command_words.specs.declared.option_name.OptionName.{OptionName}
use Rattle.command_words.specs.declared.option_name.OptionName.TheVariants as name

abbrev pub rules : List Rule
rules = (built app).top.rules

abbrev pub names : Names
names = names_of (built app)

abbrev pub Slots : Type 0
Slots = List (OptionName × Option Text)

-- ---- what is found

-- for an option
abbrev pub row : OptionName → Text → Row
row n v = record { id = name_text n; values = v ∷ []; count = None; source = Some CommandLine; reading = AsWritten }

abbrev pub slot_rows : Slots → List Row
slot_rows [] = []
slot_rows ((n, None) ∷ rest) = slot_rows rest
slot_rows ((n, Some v) ∷ rest) = row n v ∷ slot_rows rest

-- for the positional words
abbrev pub words_row : List Text → Row
words_row xs = record { id = codes "words"; values = xs; count = None; source = Some CommandLine; reading = AsWritten }

abbrev pub words_rows : List Text → List Row
words_rows [] = []
words_rows (x ∷ xs) = words_row (x ∷ xs) ∷ []

-- ---- rows that lack an id
pub not_there : (id : Text) (change : Row → List Row) (missing rows : List Row) → has_row id rows ≡ false → at_row id change missing rows ≡ rows ++ missing
not_there id change missing [] h = refl
not_there id change missing (r ∷ rs) h = by (bytes_eq r.id id) h (not_there id change missing rs)
  where
    by : (is : Bool) → (is || has_row id rs) ≡ false → (has_row id rs ≡ false → at_row id change missing rs ≡ rs ++ missing) → (if is then change r ++ rs else r ∷ at_row id change missing rs) ≡ r ∷ (rs ++ missing)
    by true e more = let no : true ≡ false = e in absurd (cc)
    by false e more = ap (λ l. r ∷ l) (more e)

one_use : (n : OptionName) (v : Text) (rows : List Row) → has_row (name_text n) rows ≡ false → used (option_rule (name_text n)) (v ∷ []) rows ≡ rows ++ row n v ∷ []
one_use n v rows h =
    let same : without (name_text n) rows ≡ rows = not_there (name_text n) (λ _. []) [] rows h ∙ append-nil rows in
    ap (with_values (name_text n) AsWritten CommandLine (v ∷ [])) same ∙ not_there (name_text n) (more_values CommandLine (v ∷ [])) (row n v ∷ []) rows h

-- no option of the slots has a row
abbrev pub lacks : Slots → List Row → Bool
lacks [] rows = true
lacks ((n, v) ∷ rest) rows = not (has_row (name_text n) rows) && lacks rest rows

-- the slots are of other options
abbrev pub others : OptionName → Slots → Bool
others n [] = true
others n ((m, v) ∷ rest) = not (bytes_eq (name_text n) (name_text m)) && others n rest

-- no option has two slots
abbrev pub apart : Slots → Bool
apart [] = true
apart ((n, v) ∷ rest) = others n rest && apart rest

pub both_true : (a b : Bool) → a ≡ true → b ≡ true → (a && b) ≡ true
both_true true b e f = f
both_true false b e f = let no : false ≡ true = e in absurd (cc)

still_lacks : (id : Text) (r : Row) (rows : List Row) → has_row id rows ≡ false → bytes_eq r.id id ≡ false → has_row id (rows ++ r ∷ []) ≡ false
still_lacks id r [] h e = ap (λ b. b || false) e
still_lacks id r (q ∷ qs) h e = by (bytes_eq q.id id) h (λ g. still_lacks id r qs g e)
  where
    by : (is : Bool) → (is || has_row id qs) ≡ false → (has_row id qs ≡ false → has_row id (qs ++ r ∷ []) ≡ false) → (is || has_row id (qs ++ r ∷ [])) ≡ false
    by true e more = let no : true ≡ false = e in absurd (cc)
    by false e more = more e

pub lacks_more : (n : OptionName) (v : Text) (ss : Slots) (rows : List Row) → lacks ss rows ≡ true → others n ss ≡ true → lacks ss (rows ++ row n v ∷ []) ≡ true
lacks_more n v [] rows l o = refl
lacks_more n v ((m, w) ∷ ss) rows l o =
    let ls = both _ _ l in
    let os = both _ _ o in
    both_true _ _ (ap not (still_lacks (name_text m) (row n v) rows (is_false _ ls.0) (is_false _ os.0))) (lacks_more n v ss rows ls.1 os.1)

-- ---- the options

-- the walk between two options
abbrev pub between : List Row → Walk
between rows = record { held = record { rows = rows; pending = None; skip = 0 }; waiting = idle; position = 1; is_trailing = false; stopped = None }

one_option : (n : OptionName) (v : Text) (rows : List Row) → walked rules names (between rows) (option_word n (Some v)) ≡ between (used (option_rule (name_text n)) (v ∷ []) rows)
unfolding clap_on_literals
one_option name.At v rows = refl
one_option name.Attribute v rows = refl
one_option name.Drift v rows = refl
one_option name.From v rows = refl
one_option name.Host v rows = refl
one_option name.Hosts v rows = refl
one_option name.List v rows = refl
one_option name.Number v rows = refl
one_option name.Once v rows = refl
one_option name.Questions v rows = refl
one_option name.Rounds v rows = refl
one_option name.Tid v rows = refl
one_option name.To v rows = refl
one_option name.Workers v rows = refl

pub option_walk : (n : OptionName) (v : Text) (rows : List Row) → has_row (name_text n) rows ≡ false → walked rules names (between rows) (option_word n (Some v)) ≡ between (rows ++ row n v ∷ [])
option_walk n v rows h = one_option n v rows ∙ ap between (one_use n v rows h)

pub options_walk : (ss : Slots) (rows : List Row) → lacks ss rows ≡ true → apart ss ≡ true → fold (walked rules names) (between rows) (slot_words ss) ≡ between (rows ++ slot_rows ss)
options_walk [] rows l a = ap between (sym (append-nil rows))
options_walk ((n, None) ∷ rest) rows l a = options_walk rest rows (both _ _ l).1 (both _ _ a).1
options_walk ((n, Some v) ∷ rest) rows l a =
    let ls = both _ _ l in
    let os = both _ _ a in
    ap (λ w. fold (walked rules names) w (slot_words rest)) (option_walk n v rows (is_false _ ls.0))
    ∙ (options_walk rest (rows ++ row n v ∷ []) (lacks_more n v rest rows ls.1 os.0) os.1
    ∙ ap between (append_assoc rows (row n v ∷ []) (slot_rows rest)))

-- ---- the positional words

-- the walk after `--`
abbrev pub trailing : List Row → Walk
trailing rows = record { held = record { rows = rows; pending = None; skip = 0 }; waiting = idle; position = 1; is_trailing = true; stopped = None }

-- and after a first positional word
abbrev pub gathered : List Row → List Text → Walk
gathered rows xs = record { held = record { rows = rows; pending = Some (codes "words", xs); skip = 0 }; waiting = positional; position = 1; is_trailing = true; stopped = None }

abbrev pub end_of : List Row → List Text → Walk
end_of rows [] = trailing rows
end_of rows (x ∷ xs) = gathered rows (x ∷ xs)

pub dashes : (rows : List Row) → walked rules names (between rows) (codes "--") ≡ trailing rows
unfolding clap_on_literals
dashes rows = refl

pub first_word : (rows : List Row) (x : Text) → walked rules names (trailing rows) x ≡ gathered rows (x ∷ [])
unfolding clap_on_literals
first_word rows x = refl

pub one_word : (rows : List Row) (v : Text) (vs : List Text) (x : Text) → walked rules names (gathered rows (v ∷ vs)) x ≡ gathered rows ((v ∷ vs) ++ x ∷ [])
unfolding clap_on_literals
one_word rows v vs x = refl

more_words : (rows : List Row) (v : Text) (vs xs : List Text) → fold (walked rules names) (gathered rows (v ∷ vs)) xs ≡ gathered rows ((v ∷ vs) ++ xs)
more_words rows v vs [] = ap (gathered rows) (sym (append-nil (v ∷ vs)))
more_words rows v vs (x ∷ xs) =
    ap (λ w. fold (walked rules names) w xs) (one_word rows v vs x)
    ∙ (more_words rows v (vs ++ x ∷ []) xs ∙ ap (gathered rows) (append_assoc (v ∷ vs) (x ∷ []) xs))

words_walk : (rows : List Row) (xs : List Text) → fold (walked rules names) (trailing rows) xs ≡ end_of rows xs
words_walk rows [] = refl
words_walk rows (x ∷ xs) = ap (λ w. fold (walked rules names) w xs) (first_word rows x) ∙ more_words rows x [] xs

-- ---- the whole walk
pub lacks_none : (ss : Slots) → lacks ss [] ≡ true
lacks_none [] = refl
lacks_none ((n, v) ∷ rest) = lacks_none rest

pub whole_walk : (ss : Slots) (xs : List Text) → apart ss ≡ true → walk rules names nothing_held (slot_words ss ++ codes "--" ∷ xs) ≡ end_of (slot_rows ss) xs
whole_walk ss xs a =
    fold-append (walked rules names) (between []) (slot_words ss) (codes "--" ∷ xs)
    ∙ (ap (λ w. fold (walked rules names) w (codes "--" ∷ xs)) (options_walk ss [] (lacks_none ss) a)
    ∙ (ap (λ w. fold (walked rules names) w xs) (dashes (slot_rows ss)) ∙ words_walk (slot_rows ss) xs))

-- ---- the matches
pub not_words : (n : OptionName) → bytes_eq (name_text n) (codes "words") ≡ false
not_words name.At = refl
not_words name.Attribute = refl
not_words name.Drift = refl
not_words name.From = refl
not_words name.Host = refl
not_words name.Hosts = refl
not_words name.List = refl
not_words name.Number = refl
not_words name.Once = refl
not_words name.Questions = refl
not_words name.Rounds = refl
not_words name.Tid = refl
not_words name.To = refl
not_words name.Workers = refl

pub no_words : (ss : Slots) → has_row (codes "words") (slot_rows ss) ≡ false
no_words [] = refl
no_words ((n, None) ∷ rest) = no_words rest
no_words ((n, Some v) ∷ rest) = ap (λ b. b || has_row (codes "words") (slot_rows rest)) (not_words n) ∙ no_words rest

settled_end : (rows : List Row) (xs : List Text) → has_row (codes "words") rows ≡ false → (settled rules (end_of rows xs).held).rows ≡ rows ++ words_rows xs
settled_end rows [] h = sym (append-nil rows)
settled_end rows (x ∷ xs) h = not_there (codes "words") (more_values CommandLine (x ∷ xs)) (words_row (x ∷ xs) ∷ []) rows h

same_rows : (b : Bool) (id : Text) (how : Reading) (ds : List Text) (rows : List Row) → is_empty ds ≡ true → (if b then rows else default_rows id how ds rows) ≡ rows
same_rows true id how ds rows e = refl
same_rows false id how [] rows e = refl
same_rows false id how (d ∷ ds) rows e = let no : d ∷ ds ≡ [] = is_nil (d ∷ ds) e in absurd (cc)

no_defaults : (rest : List Rule) (rows : List Row) → list_all (λ a. is_empty a.defaults) rest ≡ true → fold with_default rows rest ≡ rows
no_defaults [] rows e = refl
no_defaults (a ∷ rest) rows e =
    let es = both _ _ e in
    ap (λ rs. fold with_default rs rest) (same_rows (has_row a.id rows) a.id (reading_by a) a.defaults rows es.0) ∙ no_defaults rest rows es.1

pub rows_are : (ss : Slots) (xs : List Text) → finished rules (end_of (slot_rows ss) xs).held ≡ slot_rows ss ++ words_rows xs
rows_are ss xs = no_defaults rules _ refl ∙ settled_end (slot_rows ss) xs (no_words ss)

pub matches_are : (s : Shape) → matches_of app (ordered_words s) ≡ slot_rows (slots s) ++ words_rows s.positional
matches_are s = ap (λ w. finished rules w.held) (whole_walk (slots s) s.positional refl) ∙ rows_are (slots s) s.positional
