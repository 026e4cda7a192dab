-- The front of a name, of which no more than so many bytes are looked at; items that are taken one by one.
use Rattle.std.proofs.Common.{◌≡◌, ◌∙◌, ◌+◌, ◌<◌, ℕ, zero, suc, Bool, true, false, cond, nat_lt, List, [], ◌∷◌, ◌++◌, Some, None, map, slice_get, take, min, get_or, slice_set, length, refl, sym, ap, arith}
use Rattle.std.specs.List.{prefix_len}
use Rattle.std.proofs.lemmas.List.{take_more, take_more_set, take_min, take-map, map-append, length-map}
use Rattle.trace_types.specs.Padding.{name_in}
use Rattle.ctf_fields.specs.declared.field.Field.{Field}
use Rattle.kernel_layout.specs.Needed.{byte_of}

add-one : (n : ℕ) → n + 1 ≡ suc n
add-one n = omega arith

one-add : (n : ℕ) → 1 + n ≡ suc n
one-add n = omega arith

-- bytes after the first so many don't matter for so long a name
pub name_front : (n : ℕ) (bs : List ℕ) → take n (name_in (take n bs)) ≡ take n (name_in bs)
name_front zero bs = refl
name_front (suc n) [] = refl
name_front (suc n) (b ∷ bs) = by (nat_lt 0 b) (name_front n bs)
  where
    by : (k : Bool) → take n (name_in (take n bs)) ≡ take n (name_in bs)
        → take (suc n) (take (cond k (1 + prefix_len (λ b. nat_lt 0 b) (take n bs)) 0) (b ∷ take n bs)) ≡ take (suc n) (take (cond k (1 + prefix_len (λ b. nat_lt 0 b) bs) 0) (b ∷ bs))
    by true e = rw (one-add (prefix_len (λ b. nat_lt 0 b) (take n bs)), one-add (prefix_len (λ b. nat_lt 0 b) bs)) (ap (λ l. b ∷ l) e)
    by false e = refl

-- the bytes of one field more
pub next_byte : (fs : List Field) (bytes : List ℕ) (p : ℕ) (f : Field) → p < length fs → p < length bytes → f ≡ get_or fs p f → take p bytes ≡ take p (map byte_of fs) → take (p + 1) (slice_set bytes p (byte_of f)) ≡ take (p + 1) (map byte_of fs)
next_byte fs bytes p f h g e same =
    let field : take (p + 1) fs ≡ take p fs ++ f ∷ [] = take_more fs p f h ∙ ap (λ x. take p fs ++ x ∷ []) (sym e) in
    let front : map byte_of (take p fs) ++ byte_of f ∷ [] ≡ take (p + 1) (map byte_of fs) = sym (map-append byte_of (take p fs) (f ∷ [])) ∙ (ap (map byte_of) (sym field) ∙ sym (take-map byte_of (p + 1) fs)) in
    take_more_set bytes p (byte_of f) g ∙ (ap (λ l. l ++ byte_of f ∷ []) (same ∙ take-map byte_of p fs) ∙ front)

-- of all of them
pub whole_name : (fs : List Field) (bytes : List ℕ) (len : ℕ) → len ≡ min (length fs) 15 → take len bytes ≡ take len (map byte_of fs) → take 15 (name_in (take len bytes)) ≡ take 15 (name_in (map byte_of fs))
whole_name fs bytes len e same =
    let least : len ≡ min 15 (length (map byte_of fs)) = omega (arith, e, length-map fs byte_of) in
    ap (λ l. take 15 (name_in l)) (same ∙ (ap (λ n. take n (map byte_of fs)) least ∙ take_min 15 (map byte_of fs))) ∙ name_front 15 (map byte_of fs)

-- one item more, and all of them
pub more_taken : {A B : Type 0} (f : A → B) (xs : List A) (n : ℕ) (x : A) → slice_get xs n ≡ Some x → map f (take (n + 1) xs) ≡ map f (take n xs) ++ f x ∷ []
more_taken f xs n x e = rw (add-one n) (by xs n e)
  where
    by : (xs : List _) (n : ℕ) → slice_get xs n ≡ Some x → map f (take (suc n) xs) ≡ map f (take n xs) ++ f x ∷ []
    by [] n e = absurd (cc)
    by (y ∷ ys) zero e = let same : y ≡ x = cc in ap (λ z. f z ∷ []) same
    by (y ∷ ys) (suc n) e = ap (λ l. f y ∷ l) (by ys n e)

pub all_taken : {A : Type 0} (xs : List A) (n : ℕ) → slice_get xs n ≡ None → take n xs ≡ xs
all_taken [] zero e = refl
all_taken [] (suc n) e = refl
all_taken (x ∷ xs) zero e = absurd (cc)
all_taken (x ∷ xs) (suc n) e = ap (λ l. x ∷ l) (all_taken xs n e)

-- an item's number is less than how many items there are
pub number_within : {A : Type 0} (xs : List A) (n : ℕ) (x : A) → slice_get xs n ≡ Some x → n < length xs
number_within [] n x h = absurd (cc)
number_within (y ∷ xs) zero x h = omega arith
number_within (y ∷ xs) (suc n) x h = let rest = number_within xs n x h in omega (arith, rest)
