-- `clap` takes words in one order: only lack of memory is an error.
use Rattle.std.proofs.Common.{◌≡◌, ◌≤◌, true, false, not, List, [], ◌∷◌, ◌++◌, Some, None, length, codes, refl, sym, ap, ◌∙◌, append_assoc, append-nil, length-append, arith}
use Rattle.std.specs.Prelude.{◌&&◌, ◌||◌, nat_le}
use Rattle.clap.specs.Lexer.{usize_max}
use Rattle.clap.specs.Walk.{Row, Walk, has_row, nothing_held, walked}
use Rattle.clap.specs.Simple.{Shape as CommandShape, built, filled, with_index}
use Rattle.clap.specs.Takes.{level_passes, settle_passes, takes, turn_passes, value_passes, values_pass, walk_passes}
use Rattle.clap.specs.Words.{Rule, Text}
use Rattle.clap.proofs.OnLiterals.{clap_on_literals}
use Rattle.clap.proofs.SimpleLemmas.{is_false}
use Rattle.clap.proofs.TakesLemmas.{leaf_takes}
use Rattle.clap.proofs.WalkLemmas.{both}
use Rattle.command_words.specs.Matching.{app, words_rule}
use Rattle.command_words.specs.OptionNames.{name_text, option_word}
use Rattle.command_words.specs.OrderedWords.{ordered_words, slot_words, slots}
use Rattle.command_words.specs.Shapes.{Shape}
use Rattle.command_words.specs.declared.option_name.OptionName.{OptionName}
use Rattle.command_words.specs.declared.option_name.OptionName.TheVariants as name
use Rattle.command_words.proofs.Walks.{Slots, apart, between, both_true, dashes, end_of, first_word, gathered, lacks, lacks_more, lacks_none, names, one_word, option_walk, row, rules, slot_rows, trailing, whole_walk}

abbrev pub top : CommandShape
top = (built app).top

one_step : (w : Walk) (word : Text) (rest : List Text) → walk_passes top names w (word ∷ rest) ≡ (turn_passes top names w word && walk_passes top names (walked rules names w word) rest)
unfolding walk_passes
one_step w word rest = refl

no_step : (w : Walk) → walk_passes top names w [] ≡ true
unfolding walk_passes
no_step w = refl

steps : (w after : Walk) (word : Text) (rest : List Text) → turn_passes top names w word ≡ true → walked rules names w word ≡ after → walk_passes top names after rest ≡ true → walk_passes top names w (word ∷ rest) ≡ true
steps w after word rest turn to more = one_step w word rest ∙ both_true _ _ turn (ap (λ v. walk_passes top names v rest) to ∙ more)

-- ---- the options
option_turn : (n : OptionName) (v : Text) (rows : List Row) → has_row (name_text n) rows ≡ false → turn_passes top names (between rows) (option_word n (Some v)) ≡ true
unfolding clap_on_literals
option_turn name.At v rows e = ap (λ b. ((not b || false) && true) && true) e
option_turn name.Attribute v rows e = ap (λ b. ((not b || false) && true) && true) e
option_turn name.Drift v rows e = ap (λ b. ((not b || false) && true) && true) e
option_turn name.From v rows e = ap (λ b. ((not b || false) && true) && true) e
option_turn name.Host v rows e = ap (λ b. ((not b || false) && true) && true) e
option_turn name.Hosts v rows e = ap (λ b. ((not b || false) && true) && true) e
option_turn name.List v rows e = ap (λ b. ((not b || false) && true) && true) e
option_turn name.Number v rows e = ap (λ b. ((not b || false) && true) && true) e
option_turn name.Once v rows e = ap (λ b. ((not b || false) && true) && true) e
option_turn name.Questions v rows e = ap (λ b. ((not b || false) && true) && true) e
option_turn name.Rounds v rows e = ap (λ b. ((not b || false) && true) && true) e
option_turn name.Tid v rows e = ap (λ b. ((not b || false) && true) && true) e
option_turn name.To v rows e = ap (λ b. ((not b || false) && true) && true) e
option_turn name.Workers v rows e = ap (λ b. ((not b || false) && true) && true) e

options_pass : (ss : Slots) (rows : List Row) (rest : List Text) → lacks ss rows ≡ true → apart ss ≡ true → walk_passes top names (between (rows ++ slot_rows ss)) rest ≡ true → walk_passes top names (between rows) (slot_words ss ++ rest) ≡ true
options_pass [] rows rest l a h = ap (λ rs. walk_passes top names (between rs) rest) (sym (append-nil rows)) ∙ h
options_pass ((n, None) ∷ ss) rows rest l a h = options_pass ss rows rest (both _ _ l).1 (both _ _ a).1 h
options_pass ((n, Some v) ∷ ss) rows rest l a h =
    let ls = both _ _ l in
    let os = both _ _ a in
    let fresh = is_false _ ls.0 in
    steps (between rows) (between (rows ++ row n v ∷ [])) (option_word n (Some v)) (slot_words ss ++ rest) (option_turn n v rows fresh) (option_walk n v rows fresh)
    (options_pass ss (rows ++ row n v ∷ []) rest (lacks_more n v ss rows ls.1 os.0) os.1
    (ap (λ rs. walk_passes top names (between rs) rest) (append_assoc rows (row n v ∷ []) (slot_rows ss)) ∙ h))

-- ---- the positional words
dashes_turn : (rows : List Row) → turn_passes top names (between rows) (codes "--") ≡ true
unfolding clap_on_literals
dashes_turn rows = refl

first_turn : (rows : List Row) (x : Text) → turn_passes top names (trailing rows) x ≡ true
unfolding clap_on_literals
first_turn rows x = refl

word_turn : (rows : List Row) (v : Text) (vs : List Text) (x : Text) → turn_passes top names (gathered rows (v ∷ vs)) x ≡ true
unfolding clap_on_literals
word_turn rows v vs x = refl

more_pass : (rows : List Row) (v : Text) (vs xs : List Text) → walk_passes top names (gathered rows (v ∷ vs)) xs ≡ true
more_pass rows v vs [] = no_step (gathered rows (v ∷ vs))
more_pass rows v vs (x ∷ xs) =
    steps (gathered rows (v ∷ vs)) (gathered rows (v ∷ (vs ++ x ∷ []))) x xs (word_turn rows v vs x) (one_word rows v vs x) (more_pass rows v (vs ++ x ∷ []) xs)

words_pass : (rows : List Row) (xs : List Text) → walk_passes top names (trailing rows) xs ≡ true
words_pass rows [] = no_step (trailing rows)
words_pass rows (x ∷ xs) = steps (trailing rows) (gathered rows (x ∷ [])) x xs (first_turn rows x) (first_word rows x) (more_pass rows x [] xs)

all_pass : (ss : Slots) (xs : List Text) → apart ss ≡ true → walk_passes top names (between []) (slot_words ss ++ codes "--" ∷ xs) ≡ true
all_pass ss xs a =
    options_pass ss [] (codes "--" ∷ xs) (lacks_none ss) a
    (steps (between (slot_rows ss)) (trailing (slot_rows ss)) (codes "--") xs (dashes_turn (slot_rows ss)) (dashes (slot_rows ss)) (words_pass (slot_rows ss) xs))

-- ---- the end
every_value : (a : Rule) (xs : List Text) → ((v : Text) → value_passes a v ≡ true) → values_pass a xs ≡ true
every_value a [] h = refl
every_value a (x ∷ xs) h = both_true _ _ (h x) (every_value a xs h)

few : (xs : List Text) → length xs ≤ usize_max → nat_le (length xs) usize_max ≡ true
few xs h = grind (arith, h)

some : (x : Text) (xs : List Text) → nat_le 1 (length (x ∷ xs)) ≡ true
some x xs = grind arith

settles : (rows : List Row) (xs : List Text) → length xs ≤ usize_max → settle_passes rules false (end_of rows xs).held ≡ true
settles rows [] h = refl
settles rows (x ∷ xs) h = both_true _ _ (some x xs) (both_true _ _ (few (x ∷ xs) h) (every_value (with_index 1 (filled words_rule)) (x ∷ xs) (λ v. refl)))

level : (ss : Slots) (xs : List Text) → apart ss ≡ true → length xs ≤ usize_max → level_passes top names nothing_held (slot_words ss ++ codes "--" ∷ xs) false ≡ true
level ss xs a h =
    both_true _ _ (all_pass ss xs a)
    (both_true _ _ (ap (λ w. settle_passes rules false w.held) (whole_walk ss xs a) ∙ settles (slot_rows ss) xs h) refl)

pub is_taken : (s : Shape) → length s.positional ≤ usize_max → takes app (ordered_words s) ≡ true
is_taken s h = leaf_takes (built app) nothing_held (ordered_words s) refl (level (slots s) s.positional refl h)

-- as many positional words as words at most
few_words : (ss : Slots) (xs : List Text) → length xs ≤ length (slot_words ss ++ codes "--" ∷ xs)
few_words ss xs = omega (arith, length-append (slot_words ss) (codes "--" ∷ xs))

pub are_taken : (ws : List Text) (s : Shape) → length ws ≤ usize_max → ws ≡ ordered_words s → takes app ws ≡ true
are_taken ws s h e =
    let long : length ws ≡ length (ordered_words s) = ap length e in
    ap (takes app) e ∙ is_taken s (omega (arith, h, long, few_words (slots s) s.positional))
