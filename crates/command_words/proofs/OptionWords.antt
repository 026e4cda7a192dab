-- Each option word names one option.
use Rattle.std.proofs.Common.{◌≡◌, ◌≢◌, ◌+◌, ◌*◌, ℕ, Bool, true, false, not, cond, List, [], ◌∷◌, ◌++◌, Option, Some, None, drop, get_or, codes, refl, sym, ap, ◌∙◌, subst, append-nil, arith}
use Rattle.std.specs.Prelude.{◌==◌, ◌&&◌}
use Rattle.std.specs.List.{AllByRecursion}
use Rattle.trace_types.proofs.Cutting.{same_front}
use Rattle.command_words.specs.OptionNames.{attached, name_text, option_word}
use Rattle.command_words.specs.declared.option_name.OptionName.{OptionName}
use Rattle.command_words.specs.declared.option_name.OptionName.TheVariants as name

-- ---- no name holds an equals sign
abbrev are_plain : List ℕ → Bool
are_plain [] = true
are_plain (b ∷ bs) = not (b == 61) && are_plain bs

plain : (bs : List ℕ) → are_plain bs ≡ true → AllByRecursion (λ b. b ≢ 61) bs
plain [] e = tt
plain (b ∷ bs) e = by (b == 61) refl e (plain bs)
  where
    by : (is : Bool) → (b == 61) ≡ is → (not is && are_plain bs) ≡ true → (are_plain bs ≡ true → AllByRecursion (λ c. c ≢ 61) bs) → AllByRecursion (λ c. c ≢ 61) (b ∷ bs)
    by true same h rest = absurd (cc)
    by false same h rest = ((λ e. let no : (b == b) ≡ false = subst (λ n. (b == n) ≡ false) (sym e) same in grind arith), rest h)

plain_name : (n : OptionName) → AllByRecursion (λ b. b ≢ 61) (name_text n)
plain_name name.At = plain (name_text name.At) refl
plain_name name.Attribute = plain (name_text name.Attribute) refl
plain_name name.Drift = plain (name_text name.Drift) refl
plain_name name.From = plain (name_text name.From) refl
plain_name name.Host = plain (name_text name.Host) refl
plain_name name.Hosts = plain (name_text name.Hosts) refl
plain_name name.List = plain (name_text name.List) refl
plain_name name.Number = plain (name_text name.Number) refl
plain_name name.Once = plain (name_text name.Once) refl
plain_name name.Questions = plain (name_text name.Questions) refl
plain_name name.Rounds = plain (name_text name.Rounds) refl
plain_name name.Tid = plain (name_text name.Tid) refl
plain_name name.To = plain (name_text name.To) refl
plain_name name.Workers = plain (name_text name.Workers) refl

not_plain : (front v : List ℕ) → AllByRecursion (λ b. b ≢ 61) (front ++ 61 ∷ v) → ⊥
not_plain [] v h = h.0 refl
not_plain (b ∷ bs) v h = not_plain bs v h.1

-- what stands before the first equals sign is the name
pub other_name : (front v : List ℕ) → AllByRecursion (λ b. b ≢ 61) front → ((n : OptionName) → front ≢ name_text n) → (n : OptionName) (a : Option (List ℕ)) → 45 ∷ 45 ∷ (front ++ 61 ∷ v) ≢ option_word n a
other_name front v h none n (Some w) e = none n (same_front 61 front (name_text n) v w h (plain_name n) (ap (drop 2) e)).0
other_name front v h none n None e =
    let same : front ++ 61 ∷ v ≡ name_text n = ap (drop 2) e ∙ append-nil (name_text n) in
    not_plain front v (subst (AllByRecursion (λ b. b ≢ 61)) (sym same) (plain_name n))

-- ---- an option word has one option, and one value or none
-- the first two letters of a name and its fifth
abbrev letters : OptionName → ℕ
letters name.At = 6386688
letters name.Attribute = 6386793
letters name.Drift = 6582900
letters name.From = 6713856
letters name.Host = 6844160
letters name.Hosts = 6844275
letters name.List = 7104768
letters name.Number = 7239013
letters name.Once = 7302656
letters name.Questions = 7435636
letters name.Rounds = 7499620
letters name.Tid = 7629056
letters name.To = 7630592
letters name.Workers = 7827301

abbrev first_letters : List ℕ → ℕ
first_letters word = get_or word 0 0 * 65536 + get_or word 1 0 * 256 + get_or word 4 0

abbrev before_equals : List ℕ → List ℕ
before_equals [] = []
before_equals (b ∷ bs) = cond (b == 61) [] (b ∷ before_equals bs)

same_letters : (n m : OptionName) → letters n ≡ letters m → n ≡ m
same_letters name.At name.At e = refl
same_letters name.Attribute name.Attribute e = refl
same_letters name.Drift name.Drift e = refl
same_letters name.From name.From e = refl
same_letters name.Host name.Host e = refl
same_letters name.Hosts name.Hosts e = refl
same_letters name.List name.List e = refl
same_letters name.Number name.Number e = refl
same_letters name.Once name.Once e = refl
same_letters name.Questions name.Questions e = refl
same_letters name.Rounds name.Rounds e = refl
same_letters name.Tid name.Tid e = refl
same_letters name.To name.To e = refl
same_letters name.Workers name.Workers e = refl
same_letters n m e = absurd (omega arith)

letters_are : (n : OptionName) (a : Option (List ℕ)) → first_letters (before_equals (name_text n ++ attached a)) ≡ letters n
letters_are name.At None = refl
letters_are name.Attribute None = refl
letters_are name.Drift None = refl
letters_are name.From None = refl
letters_are name.Host None = refl
letters_are name.Hosts None = refl
letters_are name.List None = refl
letters_are name.Number None = refl
letters_are name.Once None = refl
letters_are name.Questions None = refl
letters_are name.Rounds None = refl
letters_are name.Tid None = refl
letters_are name.To None = refl
letters_are name.Workers None = refl
letters_are name.At (Some v) = refl
letters_are name.Attribute (Some v) = refl
letters_are name.Drift (Some v) = refl
letters_are name.From (Some v) = refl
letters_are name.Host (Some v) = refl
letters_are name.Hosts (Some v) = refl
letters_are name.List (Some v) = refl
letters_are name.Number (Some v) = refl
letters_are name.Once (Some v) = refl
letters_are name.Questions (Some v) = refl
letters_are name.Rounds (Some v) = refl
letters_are name.Tid (Some v) = refl
letters_are name.To (Some v) = refl
letters_are name.Workers (Some v) = refl

abbrev after_equals : List ℕ → Option (List ℕ)
after_equals [] = None
after_equals (b ∷ bs) = cond (b == 61) (Some bs) (after_equals bs)

value_is : (n : OptionName) (a : Option (List ℕ)) → after_equals (name_text n ++ attached a) ≡ a
value_is name.At None = refl
value_is name.Attribute None = refl
value_is name.Drift None = refl
value_is name.From None = refl
value_is name.Host None = refl
value_is name.Hosts None = refl
value_is name.List None = refl
value_is name.Number None = refl
value_is name.Once None = refl
value_is name.Questions None = refl
value_is name.Rounds None = refl
value_is name.Tid None = refl
value_is name.To None = refl
value_is name.Workers None = refl
value_is name.At (Some v) = refl
value_is name.Attribute (Some v) = refl
value_is name.Drift (Some v) = refl
value_is name.From (Some v) = refl
value_is name.Host (Some v) = refl
value_is name.Hosts (Some v) = refl
value_is name.List (Some v) = refl
value_is name.Number (Some v) = refl
value_is name.Once (Some v) = refl
value_is name.Questions (Some v) = refl
value_is name.Rounds (Some v) = refl
value_is name.Tid (Some v) = refl
value_is name.To (Some v) = refl
value_is name.Workers (Some v) = refl

pub same_option : (n m : OptionName) (a b : Option (List ℕ)) → option_word n a ≡ option_word m b → (n ≡ m) × (a ≡ b)
same_option n m a b e =
    let same = ap (drop 2) e in
    (same_letters n m (sym (letters_are n a) ∙ (ap (λ l. first_letters (before_equals l)) same ∙ letters_are m b)), sym (value_is n a) ∙ (ap after_equals same ∙ value_is m b))

-- two minus signs alone are none
pub dashes_alone : (n : OptionName) (a : Option (List ℕ)) → codes "--" ≢ option_word n a
dashes_alone n a e = by n (ap (λ l. first_letters (before_equals (drop 2 l))) e ∙ letters_are n a)
  where
    by : (n : OptionName) → 0 ≡ letters n → ⊥
    by name.At e = absurd (omega arith)
    by name.Attribute e = absurd (omega arith)
    by name.Drift e = absurd (omega arith)
    by name.From e = absurd (omega arith)
    by name.Host e = absurd (omega arith)
    by name.Hosts e = absurd (omega arith)
    by name.List e = absurd (omega arith)
    by name.Number e = absurd (omega arith)
    by name.Once e = absurd (omega arith)
    by name.Questions e = absurd (omega arith)
    by name.Rounds e = absurd (omega arith)
    by name.Tid e = absurd (omega arith)
    by name.To e = absurd (omega arith)
    by name.Workers e = absurd (omega arith)
