-- What is found where `clap` read words in one order.
use Rattle.std.proofs.Common.{◌≡◌, Bool, true, false, if◌then◌else◌, List, [], ◌∷◌, ◌++◌, Option, Some, None, codes, refl, sym, ap, ◌∙◌}
use Rattle.std.specs.Prelude.{option_and_then, option_map, slice_get, find, unwrap_or}
use Rattle.std.specs.Str.{bytes_eq}
use Rattle.clap.specs.Walk.{Row, all_of, first_of}
use Rattle.clap.specs.Words.{Text, first_value, matches_of, rows_of}
use Rattle.clap.specs.declared.parser.matches.Found.{Found}
use Rattle.clap.proofs.WalkLemmas.{first_value-rows, raw_values-rows}
use Rattle.command_words.specs.Matching.{IsFound, app}
use Rattle.command_words.specs.OptionNames.{name_text}
use Rattle.command_words.specs.OrderedWords.{ordered_words, slots}
use Rattle.command_words.specs.Shapes.{Shape}
use Rattle.command_words.specs.declared.option_name.OptionName.{OptionName}
use Rattle.command_words.specs.declared.option_name.OptionName.TheVariants as name
use Rattle.command_words.proofs.Walks.{Slots, matches_are, not_words, row, slot_rows, words_rows}

-- the value of the first slot of an option that has one
abbrev or_else : Option Text → Option Text → Option Text
or_else None d = d
or_else (Some v) d = Some v

abbrev pick : OptionName → Slots → Option Text
pick n [] = None
pick n ((m, v) ∷ rest) = if bytes_eq (name_text m) (name_text n) then or_else v (pick n rest) else pick n rest

or_none : (v : Option Text) → or_else v None ≡ v
or_none None = refl
or_none (Some v) = refl

picked : (n : OptionName) (ss : Slots) (tail : List Row) → first_of (name_text n) tail ≡ None → first_of (name_text n) (slot_rows ss ++ tail) ≡ pick n ss
picked n [] tail h = h
picked n ((m, None) ∷ rest) tail h = by (bytes_eq (name_text m) (name_text n)) (picked n rest tail h)
  where
    by : (is : Bool) {r : Option Text} → r ≡ pick n rest → r ≡ (if is then pick n rest else pick n rest)
    by true e = e
    by false e = e
picked n ((m, Some v) ∷ rest) tail h = by (bytes_eq (name_text m) (name_text n)) (picked n rest tail h)
  where
    first : Option Row → Option Text
    first = option_and_then (λ r. slice_get r.values 0)

    by : (is : Bool) → first_of (name_text n) (slot_rows rest ++ tail) ≡ pick n rest → option_and_then (λ (r : Row). slice_get r.values 0) (if is then Some (row m v) else find (λ r. bytes_eq r.id (name_text n)) (slot_rows rest ++ tail)) ≡ (if is then Some v else pick n rest)
    by true e = refl
    by false e = e

not_for_words : (n : OptionName) (xs : List Text) → first_of (name_text n) (words_rows xs) ≡ None
not_for_words n [] = refl
not_for_words name.At (x ∷ xs) = refl
not_for_words name.Attribute (x ∷ xs) = refl
not_for_words name.Drift (x ∷ xs) = refl
not_for_words name.From (x ∷ xs) = refl
not_for_words name.Host (x ∷ xs) = refl
not_for_words name.Hosts (x ∷ xs) = refl
not_for_words name.List (x ∷ xs) = refl
not_for_words name.Number (x ∷ xs) = refl
not_for_words name.Once (x ∷ xs) = refl
not_for_words name.Questions (x ∷ xs) = refl
not_for_words name.Rounds (x ∷ xs) = refl
not_for_words name.Tid (x ∷ xs) = refl
not_for_words name.To (x ∷ xs) = refl
not_for_words name.Workers (x ∷ xs) = refl

abbrev pub value_in : OptionName → Shape → Option Text
value_in name.At s = s.at
value_in name.Attribute s = s.attribute
value_in name.Drift s = s.drift
value_in name.From s = s.from
value_in name.Host s = s.host
value_in name.Hosts s = s.hosts
value_in name.List s = s.list
value_in name.Number s = s.number
value_in name.Once s = s.once
value_in name.Questions s = s.questions
value_in name.Rounds s = s.rounds
value_in name.Tid s = s.tid
value_in name.To s = s.to
value_in name.Workers s = s.workers

pick_is : (n : OptionName) (s : Shape) → pick n (slots s) ≡ value_in n s
pick_is name.At s = or_none s.at
pick_is name.Attribute s = or_none s.attribute
pick_is name.Drift s = or_none s.drift
pick_is name.From s = or_none s.from
pick_is name.Host s = or_none s.host
pick_is name.Hosts s = or_none s.hosts
pick_is name.List s = or_none s.list
pick_is name.Number s = or_none s.number
pick_is name.Once s = or_none s.once
pick_is name.Questions s = or_none s.questions
pick_is name.Rounds s = or_none s.rounds
pick_is name.Tid s = or_none s.tid
pick_is name.To s = or_none s.to
pick_is name.Workers s = or_none s.workers

pub value_is : (n : OptionName) (s : Shape) → first_of (name_text n) (matches_of app (ordered_words s)) ≡ value_in n s
value_is n s = ap (first_of (name_text n)) (matches_are s) ∙ (picked n (slots s) (words_rows s.positional) (not_for_words n s.positional) ∙ pick_is n s)

abbrev found_words : List Row → Option (List Text)
found_words rows = option_map (λ (r : Row). r.values) (find (λ r. bytes_eq r.id (codes "words")) rows)

past_options : (ss : Slots) (tail : List Row) → found_words (slot_rows ss ++ tail) ≡ found_words tail
past_options [] tail = refl
past_options ((n, None) ∷ rest) tail = past_options rest tail
past_options ((n, Some v) ∷ rest) tail =
    ap (λ b. option_map (λ (r : Row). r.values) (if b then Some (row n v) else find (λ r. bytes_eq r.id (codes "words")) (slot_rows rest ++ tail))) (not_words n) ∙ past_options rest tail

words_found : (xs : List Text) → unwrap_or (found_words (words_rows xs)) [] ≡ xs
words_found [] = refl
words_found (x ∷ xs) = refl

pub words_are : (s : Shape) → unwrap_or (all_of (codes "words") (matches_of app (ordered_words s))) [] ≡ s.positional
words_are s = ap (λ rows. unwrap_or (found_words rows) []) (matches_are s) ∙ (ap (λ o. unwrap_or o []) (past_options (slots s) (words_rows s.positional)) ∙ words_found s.positional)

-- ---- the whole
pub found_is : (f : Found) (s : Shape) → rows_of f ≡ matches_of app (ordered_words s) → IsFound f s
found_is f s e =
    let value : (n : OptionName) → value_in n s ≡ first_value f (name_text n) = λ n. sym (first_value-rows f (name_text n) ∙ (ap (first_of (name_text n)) e ∙ value_is n s)) in
    record {
      at_is = value name.At;
      attribute_is = value name.Attribute;
      drift_is = value name.Drift;
      from_is = value name.From;
      host_is = value name.Host;
      hosts_is = value name.Hosts;
      list_is = value name.List;
      number_is = value name.Number;
      once_is = value name.Once;
      questions_is = value name.Questions;
      rounds_is = value name.Rounds;
      tid_is = value name.Tid;
      to_is = value name.To;
      workers_is = value name.Workers;
      positional_are = sym (ap (λ o. unwrap_or o []) (raw_values-rows f (codes "words")) ∙ (ap (λ rows. unwrap_or (all_of (codes "words") rows) []) e ∙ words_are s));
    }

pub found_once : (f : Found) (r s : Shape) → IsFound f r → IsFound f s → r ≡ s
found_once f r s h g =
    let at : r.at ≡ s.at = h.at_is ∙ sym g.at_is in
    let attribute : r.attribute ≡ s.attribute = h.attribute_is ∙ sym g.attribute_is in
    let drift : r.drift ≡ s.drift = h.drift_is ∙ sym g.drift_is in
    let from : r.from ≡ s.from = h.from_is ∙ sym g.from_is in
    let host : r.host ≡ s.host = h.host_is ∙ sym g.host_is in
    let hosts : r.hosts ≡ s.hosts = h.hosts_is ∙ sym g.hosts_is in
    let list : r.list ≡ s.list = h.list_is ∙ sym g.list_is in
    let number : r.number ≡ s.number = h.number_is ∙ sym g.number_is in
    let once : r.once ≡ s.once = h.once_is ∙ sym g.once_is in
    let questions : r.questions ≡ s.questions = h.questions_is ∙ sym g.questions_is in
    let rounds : r.rounds ≡ s.rounds = h.rounds_is ∙ sym g.rounds_is in
    let tid : r.tid ≡ s.tid = h.tid_is ∙ sym g.tid_is in
    let to : r.to ≡ s.to = h.to_is ∙ sym g.to_is in
    let workers : r.workers ≡ s.workers = h.workers_is ∙ sym g.workers_is in
    let positional : r.positional ≡ s.positional = h.positional_are ∙ sym g.positional_are in
    λ i. record { at = at i; attribute = attribute i; drift = drift i; from = from i; host = host i; hosts = hosts i; list = list i; number = number i; once = once i; questions = questions i; rounds = rounds i; tid = tid i; to = to i; workers = workers i; positional = positional i }
