-- A name that is read byte by byte into an array that is padded with zeros.
use Rattle.std.proofs.Common.{◌≡◌, ◌≢◌, ◌⊎◌, inl, inr, ℕ, zero, suc, min, drop, cond, nat_lt, ◌+◌, ◌-◌, ◌/◌, ◌%◌, ◌<◌, ◌≤◌, List, [], ◌∷◌, ◌++◌, length, set, take, refl, sym, ap, ap₂, ◌∙◌, subst, append_assoc, append-nil, length-append, lt-ltb, arith, Bool, true, false, if◌then◌else◌}
use Rattle.std.specs.Prelude.{flat_map, replicate}
use Rattle.std.proofs.lemmas.List.{take_more_set, length-take-le, take_all, drop-replicate, set_at, length-set, nil_from_length}
use Rattle.std.proofs.lemmas.List.Concat.{flat_map-append}
use Rattle.std.specs.List.{AllByRecursion, prefix_len}
use Rattle.std.proofs.lemmas.Bool.{ltb-true, ltb-false}
use Rattle.std.proofs.lemmas.List.Sums.{prefix_len-le-length}
use Rattle.trace_types.specs.ByteTexts.{spelled, is_plain, hex_digit}
use Rattle.trace_types.specs.Padding.{name_in, padded, IsPadded}
use Rattle.trace_types.specs.Comms.{SpellsName}

-- what stands in a text: the bytes of a name so far, in an array with zeros after it, and the rest
pub record HasRead (text bytes : List ℕ) (len : ℕ) (rest : List ℕ) : Type 0 where
  pub spelling : text ≡ flat_map spelled (take len bytes) ++ rest
  pub padding : bytes ≡ take len bytes ++ replicate (16 - len) 0
  pub small : AllByRecursion (λ b. b < 256) (take len bytes)
  pub no_zero : AllByRecursion (λ b. 0 < b) (take len bytes)
  pub short : len ≤ 15
  pub size : length bytes ≡ 16

hex_digit_injective : (m n : ℕ) → m < 16 → n < 16 → hex_digit m ≡ hex_digit n → m ≡ n
hex_digit_injective m n g h e = grind arith

percent_is_not_plain : (d : ℕ) → true ≡ is_plain d → d ≡ 37 → ⊥
percent_is_not_plain d h e = let k : true ≡ is_plain 37 = subst (λ n. true ≡ is_plain n) e h in absurd (cc)

-- one spelling is no front of another
spelled_unique : (d n : ℕ) (a b : List ℕ) → d < 256 → n < 256 → spelled d ++ a ≡ spelled n ++ b → (d ≡ n) × (a ≡ b)
spelled_unique d n a b g h e = by (is_plain d) (is_plain n) refl refl e
  where
    by : (p q : Bool) → p ≡ is_plain d → q ≡ is_plain n → (if p then d ∷ [] else 37 ∷ hex_digit (d / 16) ∷ hex_digit (d % 16) ∷ []) ++ a ≡ (if q then n ∷ [] else 37 ∷ hex_digit (n / 16) ∷ hex_digit (n % 16) ∷ []) ++ b → (d ≡ n) × (a ≡ b)
    by true true hp hq e = (cc, cc)
    by true false hp hq e = absurd (percent_is_not_plain d hp (cc))
    by false true hp hq e = absurd (percent_is_not_plain n hq (cc))
    by false false hp hq e =
        let high : d / 16 ≡ n / 16 = hex_digit_injective _ _ (omega arith) (omega arith) (cc) in
        let low : d % 16 ≡ n % 16 = hex_digit_injective _ _ (omega arith) (omega arith) (cc) in
        (omega (arith, high, low), cc)

some : (d : ℕ) → 0 < length (spelled d)
some d = by (is_plain d)
  where
    by : (p : Bool) → 0 < length (if p then d ∷ [] else 37 ∷ hex_digit (d / 16) ∷ hex_digit (d % 16) ∷ [])
    by true = omega arith
    by false = omega arith

-- what is spelled first is the front of the whole
pub tail_of : (done rest name : List ℕ) → AllByRecursion (λ b. b < 256) done → AllByRecursion (λ b. b < 256) name → flat_map spelled done ++ rest ≡ flat_map spelled name → (tail : List ℕ) × (name ≡ done ++ tail) × (rest ≡ flat_map spelled tail)
tail_of [] rest name small fits e = (name, refl, e)
tail_of (d ∷ ds) rest [] small fits e = absurd (omega (arith, some d, ap length e, length-append (spelled d ++ flat_map spelled ds) rest, length-append (spelled d) (flat_map spelled ds)))
tail_of (d ∷ ds) rest (n ∷ ns) small fits e =
    let one = spelled_unique d n (flat_map spelled ds ++ rest) (flat_map spelled ns) small.0 fits.0 (sym (append_assoc (spelled d) _ _) ∙ e) in
    let more = tail_of ds rest ns small.1 fits.1 one.1 in
    (more.0, ap₂ (λ x xs. x ∷ xs) (sym one.0) more.1, more.2)

pub back_of : (P : ℕ → Type 0) (xs ys : List ℕ) → AllByRecursion P (xs ++ ys) → AllByRecursion P ys
back_of P [] ys h = h
back_of P (x ∷ xs) ys h = back_of P xs ys h.1

pub both : (P : ℕ → Type 0) (xs : List ℕ) (y : ℕ) → AllByRecursion P xs → P y → AllByRecursion P (xs ++ y ∷ [])
both P [] y h p = (p, tt)
both P (x ∷ xs) y h p = (h.0, both P xs y h.1 p)

-- where no spelling begins, no name is spelled
pub not_spelled : (text bytes : List ℕ) (len : ℕ) (rest : List ℕ) → HasRead text bytes len rest → 0 < length rest → ((b : ℕ) (r : List ℕ) → b < 256 → rest ≢ spelled b ++ r) → (name : List ℕ) → ¬ (SpellsName text name)
not_spelled text bytes len rest has some none name s =
    let t = tail_of (take len bytes) rest name has.small s.is_name.bytes (sym has.spelling ∙ s.spelling) in
    by t.0 t.2 (back_of (λ b. b < 256) (take len bytes) t.0 (subst (AllByRecursion (λ b. b < 256)) t.1 s.is_name.bytes))
  where
    by : (tail : List ℕ) → rest ≡ flat_map spelled tail → AllByRecursion (λ b. b < 256) tail → ⊥
    by [] e fits = omega (arith, ap length e)
    by (b ∷ bs) e fits = none b _ fits.0 e

-- a zero byte, and a byte after 15 others, are in no name
pub refused_byte : (text bytes : List ℕ) (len : ℕ) (rest : List ℕ) (byte : ℕ) (after : List ℕ) → HasRead text bytes len rest → rest ≡ spelled byte ++ after → byte < 256 → (byte ≡ 0) ⊎ (len ≡ 15) → (name : List ℕ) → ¬ (SpellsName text name)
refused_byte text bytes len rest byte after has is small bad name s =
    let t = tail_of (take len bytes) rest name has.small s.is_name.bytes (sym has.spelling ∙ s.spelling) in
    by t.0 t.1 (sym is ∙ t.2)
  where
    by : (tail : List ℕ) → name ≡ take len bytes ++ tail → spelled byte ++ after ≡ flat_map spelled tail → ⊥
    by [] e f = omega (arith, some byte, ap length f, length-append (spelled byte) after)
    by (b ∷ bs) e f =
        let small_b = (back_of (λ b. b < 256) (take len bytes) (b ∷ bs) (subst (AllByRecursion (λ b. b < 256)) e s.is_name.bytes)).0 in
        let above = (back_of (λ b. 0 < b) (take len bytes) (b ∷ bs) (subst (AllByRecursion (λ b. 0 < b)) e s.is_name.no_zero)).0 in
        let same : byte ≡ b = (spelled_unique byte b after (flat_map spelled bs) small small_b f).0 in
        let size : length name ≡ length (take len bytes) + suc (length bs) = ap length e ∙ length-append (take len bytes) (b ∷ bs) in
        let short : length name ≤ 15 = s.is_name.short in
        elim bad [ inl zero_byte ↦ omega (arith, above, same, zero_byte) | inr full ↦ omega (arith, full, size, short, length-take-le len bytes (omega (arith, has.short, has.size))) ]

-- one more byte
pub more : (text bytes : List ℕ) (len : ℕ) (rest : List ℕ) (byte : ℕ) (after : List ℕ) → HasRead text bytes len rest → rest ≡ spelled byte ++ after → byte < 256 → byte ≢ 0 → len ≢ 15 → HasRead text (set bytes len byte) (len + 1) after
more text bytes len rest byte after has is small nonzero room =
    let front : take (len + 1) (set bytes len byte) ≡ take len bytes ++ byte ∷ [] = take_more_set bytes len byte (omega (arith, has.short, has.size)) in
    let left : length (take len bytes) ≡ len = length-take-le len bytes (omega (arith, has.short, has.size)) in
    let zeros : replicate {A = ℕ} (16 - len) 0 ≡ 0 ∷ replicate {A = ℕ} (15 - len) 0 = replicate_suc (16 - len) (15 - len) (omega (arith, has.short, room)) in
    let less : 15 - len ≡ 16 - (len + 1) = omega arith in
    record {
      size = length-set bytes len byte ∙ has.size;
      spelling = rw front (rw (flat_map-append spelled (take len bytes) (byte ∷ [])) (rw append-nil (rw append_assoc (has.spelling ∙ ap (λ r. flat_map spelled (take len bytes) ++ r) is))));
      padding = rw front (rw append_assoc (
          ap (λ l. set l len byte) (has.padding ∙ ap (λ z. take len bytes ++ z) zeros)
          ∙ set_at (take len bytes) 0 (replicate (15 - len) 0) byte len left
          ∙ ap (λ (n : ℕ). take len bytes ++ byte ∷ replicate {A = ℕ} n 0) less));
      small = rw front (both (λ b. b < 256) (take len bytes) byte has.small small);
      no_zero = rw front (both (λ b. 0 < b) (take len bytes) byte has.no_zero (above byte nonzero));
      short = omega (arith, has.short, room);
    }
  where
    replicate_suc : (m n : ℕ) → m ≡ suc n → replicate {A = ℕ} m 0 ≡ 0 ∷ replicate {A = ℕ} n 0
    replicate_suc m n e = ap (λ (k : ℕ). replicate {A = ℕ} k 0) e

    above : (n : ℕ) → n ≢ 0 → 0 < n
    above n h = omega arith

one-add : (n : ℕ) → 1 + n ≡ suc n
one-add n = omega arith

-- the name that stands before zeros
name_of : (xs : List ℕ) (k : ℕ) → AllByRecursion (λ b. 0 < b) xs → name_in (xs ++ replicate k 0) ≡ xs
name_of [] zero h = refl
name_of [] (suc k) h = refl
name_of (x ∷ xs) k h = rw (lt-ltb 0 x h.0, one-add) (ap (λ l. x ∷ l) (name_of xs k h.1))

-- nothing is left
pub whole : (text bytes : List ℕ) (len : ℕ) → HasRead text bytes len [] → IsPadded bytes × SpellsName text (name_in bytes)
whole text bytes len has =
    let is : name_in bytes ≡ take len bytes = ap name_in has.padding ∙ name_of (take len bytes) (16 - len) has.no_zero in
    let left : length (take len bytes) ≡ len = length-take-le len bytes (omega (arith, has.short, has.size)) in
    let short : length (take len bytes) ≤ 15 = omega (arith, left, has.short) in
    let full : bytes ≡ padded (take len bytes) = has.padding ∙ ap (λ (n : ℕ). take len bytes ++ replicate {A = ℕ} (16 - n) 0) (sym left) in
    rw is ((full, short), record { spelling = has.spelling ∙ append-nil _; is_name = record { short = short; bytes = has.small; no_zero = has.no_zero } })

-- the same, where what is left has no bytes
pub nothing_left : (text bytes : List ℕ) (len : ℕ) (rest : List ℕ) → HasRead text bytes len rest → length rest ≡ 0 → IsPadded bytes × SpellsName text (name_in bytes)
nothing_left text bytes len rest has none = whole text bytes len (subst (HasRead text bytes len) (nil_from_length rest none) has)

all_name : (bs : List ℕ) → AllByRecursion (λ b. 0 < b) (name_in bs)
all_name [] = tt
all_name (b ∷ bs) = by (nat_lt 0 b) refl (all_name bs)
  where
    by : (k : Bool) → nat_lt 0 b ≡ k → AllByRecursion (λ b. 0 < b) (name_in bs) → AllByRecursion (λ b. 0 < b) (take (cond k (1 + prefix_len (λ b. nat_lt 0 b) bs) 0) (b ∷ bs))
    by true h more = rw one-add (ltb-true 0 b h, more)
    by false h more = tt

all_take : (n : ℕ) (xs : List ℕ) → AllByRecursion (λ b. 0 < b) xs → AllByRecursion (λ b. 0 < b) (take n xs)
all_take zero xs h = tt
all_take (suc n) [] h = tt
all_take (suc n) (x ∷ xs) h = (h.0, all_take n xs h.1)

take_less : (m n : ℕ) (xs : List ℕ) → m ≤ n → take m (take n xs) ≡ take m xs
take_less zero n xs h = refl
take_less (suc m) zero xs h = absurd (omega (arith, h))
take_less (suc m) (suc n) [] h = refl
take_less (suc m) (suc n) (x ∷ xs) h = ap (λ l. x ∷ l) (take_less m n xs (omega (arith, h)))

take_least : (len n : ℕ) (xs : List ℕ) → len ≡ min n 15 → n ≤ length xs → take len xs ≡ take 15 (take n xs)
take_least len n xs e h = by (nat_lt 15 n) refl
  where
    by : (b : Bool) → nat_lt 15 n ≡ b → take len xs ≡ take 15 (take n xs)
    by true g = let full : len ≡ 15 = omega (arith, e, ltb-true 15 n g) in ap (λ k. take k xs) full ∙ sym (take_less 15 n xs (omega (arith, ltb-true 15 n g)))
    by false g = let less : len ≡ n = omega (arith, e, ltb-false 15 n g) in ap (λ k. take k xs) less ∙ sym (take_all 15 (take n xs) (omega (arith, length-take-le n xs h, ltb-false 15 n g)))

-- so many bytes are there, and as many zeros
pub front_length : (bs : List ℕ) (n len : ℕ) → n ≡ prefix_len (λ b. nat_lt 0 b) bs → len ≡ min n 15 → (length (take len bs) ≡ len) × (length (take len (replicate {A = ℕ} 16 0)) ≡ len)
front_length bs n len is e =
    let within : n ≤ length bs = subst (λ k. k ≤ length bs) (sym is) (prefix_len-le-length (λ b. nat_lt 0 b) bs) in
    (length-take-le len bs (omega (arith, e, within)), length-take-le len (replicate {A = ℕ} 16 0) (omega (arith, e)))

-- the front of a name, with zeros after it
pub cut_name : (bs name : List ℕ) (n len : ℕ) → n ≡ prefix_len (λ b. nat_lt 0 b) bs → len ≡ min n 15 → name ≡ take len bs → IsPadded (name ++ drop len (replicate 16 0)) × (name_in (name ++ drop len (replicate 16 0)) ≡ take 15 (name_in bs))
cut_name bs name n len p e is =
    let within : n ≤ length bs = subst (λ k. k ≤ length bs) (sym p) (prefix_len-le-length (λ b. nat_lt 0 b) bs) in
    let cut : name ≡ take 15 (name_in bs) = is ∙ (take_least len n bs e within ∙ ap (λ k. take 15 (take k bs)) p) in
    let size : length name ≡ len = ap length is ∙ (front_length bs n len p e).0 in
    let above : AllByRecursion (λ b. 0 < b) name = subst (AllByRecursion (λ b. 0 < b)) (sym cut) (all_take 15 (name_in bs) (all_name bs)) in
    let zeros : drop len (replicate {A = ℕ} 16 0) ≡ replicate (16 - length name) 0 = drop-replicate len 16 0 ∙ ap (λ (n : ℕ). replicate {A = ℕ} (16 - n) 0) (sym size) in
    let front : name_in (name ++ replicate (16 - length name) 0) ≡ name = name_of name (16 - length name) above in
    let short : length name ≤ 15 = omega (arith, e, size) in
    rw zeros ((rw front refl, rw front short), front ∙ cut)
