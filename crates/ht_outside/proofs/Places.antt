-- The first file at a place, and what a put does to the files.
use Rattle.std.proofs.Common.{◌≡◌, ℕ, zero, suc, ◌+◌, ◌<◌, ◌≤◌, Bool, true, false, ◌&&◌, not, if◌then◌else◌, List, [], ◌∷◌, ◌++◌, length, get_or, set, Some, None, refl, sym, ap, ◌∙◌, arith, nat_lt, cond}
use Rattle.std.proofs.lemmas.Bool.{ltb-true, ltb-false}
use Rattle.std.specs.Cmp.Lexicographic.{bytes_decides}
use Rattle.std.specs.List.{position, position_or_len}
use Rattle.ht_outside.specs.Files.{bytes_of}
use Rattle.trace_types.specs.Texts.{same_bytes}
use Rattle.ht_outside.specs.Stored.{is_at, files_in, Puts}
use Rattle.ht_outside.specs.declared.memory_store.StoredFile.{StoredFile}

module _ {X : Type 0} (p : X → Bool) where
  -- the first item that passes is at i
  abbrev pub FirstAt : List X → ℕ → Type 0
  FirstAt [] i = ⊥
  FirstAt (x ∷ xs) zero = p x ≡ true
  FirstAt (x ∷ xs) (suc i) = (p x ≡ false) × FirstAt xs i

  -- no item passes
  abbrev pub NonePass : List X → Type 0
  NonePass [] = Unit {0}
  NonePass (x ∷ xs) = (p x ≡ false) × NonePass xs

  first : (xs : List X) (i : ℕ) → position_or_len p xs ≡ i → i < length xs → FirstAt xs i
  first [] i e h = absurd (omega arith)
  first (x ∷ xs) i e h = by (p x) refl i e h (first xs)
    where
      by : (b : Bool) → p x ≡ b → (i : ℕ) → cond (not b) (1 + position_or_len p xs) 0 ≡ i → i < suc (length xs) → ((i : ℕ) → position_or_len p xs ≡ i → i < length xs → FirstAt xs i) → FirstAt (x ∷ xs) i
      by true is zero e h rest = is
      by true is (suc i) e h rest = absurd (omega arith)
      by false is zero e h rest = absurd (omega arith)
      by false is (suc i) e h rest = (is, rest i (omega arith) (omega arith))

  none : (xs : List X) → length xs ≤ position_or_len p xs → NonePass xs
  none [] h = tt
  none (x ∷ xs) h = by (p x) refl h (none xs)
    where
      by : (b : Bool) → p x ≡ b → suc (length xs) ≤ cond (not b) (1 + position_or_len p xs) 0 → (length xs ≤ position_or_len p xs → NonePass xs) → NonePass (x ∷ xs)
      by true is h rest = absurd (omega arith)
      by false is h rest = (is, rest (omega arith))

  pub first_from : (xs : List X) (i : ℕ) → position p xs ≡ Some i → FirstAt xs i
  first_from xs i e = by (nat_lt (position_or_len p xs) (length xs)) refl e
    where
      by : (b : Bool) → nat_lt (position_or_len p xs) (length xs) ≡ b → cond b (Some (position_or_len p xs)) None ≡ Some i → FirstAt xs i
      by true is e = let same : position_or_len p xs ≡ i = cc in first xs i same (omega (arith, same, ltb-true _ _ is))
      by false is e = absurd (cc)

  pub none_from : (xs : List X) → position p xs ≡ None → NonePass xs
  none_from xs e = by (nat_lt (position_or_len p xs) (length xs)) refl e
    where
      by : (b : Bool) → nat_lt (position_or_len p xs) (length xs) ≡ b → cond b (Some (position_or_len p xs)) None ≡ None → NonePass xs
      by true is e = absurd (cc)
      by false is e = none xs (ltb-false _ _ is)

pub both_true : (a b : Bool) → (a && b) ≡ true → (a ≡ true) × (b ≡ true)
both_true true true e = (refl, refl)
both_true true false e = absurd (cc)
both_true false b e = absurd (cc)

-- where a file is, its place compares as its folder and name do
same_place : (d0 n0 d n : List ℕ) (f : StoredFile) → is_at d0 n0 f ≡ true → is_at d n f ≡ (same_bytes d0 d && same_bytes n0 n)
same_place d0 n0 d n f h =
    let both = both_true (same_bytes f.dir d0) (same_bytes f.name n0) h in
    let dir : f.dir ≡ d0 = (bytes_decides f.dir d0).0 both.0 in
    let name : f.name ≡ n0 = (bytes_decides f.name n0).0 both.1 in
    rw (dir, name) refl

-- a file that is not at a place is not at an equal one
other_place : (d0 n0 d n : List ℕ) (f : StoredFile) → is_at d0 n0 f ≡ false → (same_bytes d0 d && same_bytes n0 n) ≡ true → is_at d n f ≡ false
other_place d0 n0 d n f h e =
    let both = both_true (same_bytes d0 d) (same_bytes n0 n) e in
    let dir : d0 ≡ d = (bytes_decides d0 d).0 both.0 in
    let name : n0 ≡ n = (bytes_decides n0 n).0 both.1 in
    rw (← dir, ← name) h

chosen_twice : {Y : Type 0} (t : Bool) (a b c : Y) → (if t then a else c) ≡ (if t then a else if t then b else c)
chosen_twice true a b c = refl
chosen_twice false a b c = refl

chosen_apart : {Y : Type 0} (t q : Bool) (a b l r : Y) → (t ≡ true → q ≡ false) → l ≡ (if t then b else r) → (if q then a else l) ≡ (if t then b else if q then a else r)
chosen_apart true true a b l r h e = let k : true ≡ false = h refl in absurd (cc)
chosen_apart true false a b l r h e = e
chosen_apart false true a b l r h e = refl
chosen_apart false false a b l r h e = e

-- the bytes that stand first at a place
pub found : (fs : List StoredFile) (d n : List ℕ) (i : ℕ) (x : StoredFile) → FirstAt (is_at d n) fs i → bytes_of (files_in fs) d n ≡ (get_or fs i x).bytes
found [] d n i x h = absurd h
found (f ∷ fs) d n zero x h = rw h refl
found (f ∷ fs) d n (suc i) x h = rw h.0 (found fs d n i x h.1)

pub not_found : (fs : List StoredFile) (d n : List ℕ) → NonePass (is_at d n) fs → bytes_of (files_in fs) d n ≡ []
not_found [] d n h = refl
not_found (f ∷ fs) d n h = rw h.0 (not_found fs d n h.1)

-- the first file at a place is replaced
pub replaced : (fs : List StoredFile) (d0 n0 b d n : List ℕ) (i : ℕ) → FirstAt (is_at d0 n0) fs i
    → files_in (set fs i (record { dir = d0; name = n0; bytes = b })) d n ≡ (if same_bytes d0 d && same_bytes n0 n then Some b else files_in fs d n)
replaced [] d0 n0 b d n i h = absurd h
replaced (f ∷ fs) d0 n0 b d n zero h =
    chosen_twice (same_bytes d0 d && same_bytes n0 n) (Some b) (Some f.bytes) (files_in fs d n) ∙ ap (λ t. if same_bytes d0 d && same_bytes n0 n then Some b else if t then Some f.bytes else files_in fs d n) (sym (same_place d0 n0 d n f h))
replaced (f ∷ fs) d0 n0 b d n (suc i) h = chosen_apart _ _ (Some f.bytes) (Some b) _ _ (other_place d0 n0 d n f h.0) (replaced fs d0 n0 b d n i h.1)

-- a file at a new place
pub added : (fs : List StoredFile) (d0 n0 b d n : List ℕ) → NonePass (is_at d0 n0) fs
    → files_in (fs ++ record { dir = d0; name = n0; bytes = b } ∷ []) d n ≡ (if same_bytes d0 d && same_bytes n0 n then Some b else files_in fs d n)
added [] d0 n0 b d n h = refl
added (f ∷ fs) d0 n0 b d n h = chosen_apart _ _ (Some f.bytes) (Some b) _ _ (other_place d0 n0 d n f h.0) (added fs d0 n0 b d n h.1)

-- the same, with the list, the folder and the name as a call saw them
pub put_replaced : (fs gs : List StoredFile) (file : StoredFile) (dir name : List ℕ) (i : ℕ) → gs ≡ fs → dir ≡ file.dir → name ≡ file.name → Some i ≡ position (is_at dir name) gs
    → Puts (files_in fs) file.dir file.name file.bytes (files_in (set fs i file))
put_replaced fs gs file dir name i list d0 n0 e d n = replaced fs file.dir file.name file.bytes d n i (first_from (is_at file.dir file.name) fs i (sym (rw (← list, ← d0, ← n0) e)))

pub put_added : (fs gs hs : List StoredFile) (file : StoredFile) (dir name : List ℕ) → gs ≡ fs → dir ≡ file.dir → name ≡ file.name → None ≡ position (is_at dir name) gs
    → hs ≡ fs ++ file ∷ [] → Puts (files_in fs) file.dir file.name file.bytes (files_in hs)
put_added fs gs hs file dir name list d0 n0 e more d n = rw more (added fs file.dir file.name file.bytes d n (none_from (is_at file.dir file.name) fs (sym (rw (← list, ← d0, ← n0) e))))

pub bytes_found : (fs : List StoredFile) (d n : List ℕ) (i : ℕ) (x : StoredFile) → Some i ≡ position (is_at d n) fs → bytes_of (files_in fs) d n ≡ (get_or fs i x).bytes
bytes_found fs d n i x e = found fs d n i x (first_from (is_at d n) fs i (sym e))

pub bytes_missing : (fs : List StoredFile) (d n : List ℕ) → None ≡ position (is_at d n) fs → bytes_of (files_in fs) d n ≡ []
bytes_missing fs d n e = not_found fs d n (none_from (is_at d n) fs (sym e))
