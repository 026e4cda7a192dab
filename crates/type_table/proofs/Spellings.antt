-- Names that count as one: each has one other spelling at most, and each of the two has one number at most.
use Rattle.std.proofs.Common.{◌≡◌, ◌∙◌, ◌⊎◌, inl, inr, ⊎_elim, ℕ, zero, suc, ◌+◌, ◌<◌, ◌||◌, Bool, true, false, cond, not, nat_eq, nat_lt, codes, List, [], ◌∷◌, ◌++◌, Option, Some, None, length, position, option_and_then, option_map, ap, ap₂, refl, sym, arith, if◌then◌else◌, true≢false, one-add}
use Rattle.std.specs.Cmp.Lexicographic.{bytes_decides}
use Rattle.std.specs.List.{AllByRecursion, IsDistinct, position_or_len}
use Rattle.std.proofs.lemmas.Bool.{cond-true, eq-eqb, eqb-true, false_from_ne_true, lt-ltb, ltb-true, ne_eqb}
use Rattle.trace_types.specs.Texts.{is_text}
use Rattle.type_table.specs.Names.{AreDistinct, bare, is_underscored, other_number, other_spelling, same_name}
use Rattle.type_table.specs.Table.{name_at}
use Rattle.type_table.specs.Types.{Text}

-- a text, if there is one, is this text
abbrev pub is_the : Option Text → Text → Bool
is_the None name = false
is_the (Some other) name = is_text other name

-- this is a number, if there is one (this project's own)
abbrev pub is_number : Option ℕ → ℕ → Bool
is_number None n = false
is_number (Some m) n = nat_eq n m

is_same : (a b : Text) → is_text a b ≡ true → a ≡ b
is_same a b h = (bytes_decides a b).0 h

same_is : (a b : Text) → a ≡ b → is_text a b ≡ true
same_is a b e = (bytes_decides a b).1 e

clash : {P : Type 0} → (x : Bool) → x ≡ true → x ≡ false → P
clash x holds fails = absurd (true≢false (sym holds ∙ fails))

-- tests that pass together are one
together : (x y : Bool) → (x ≡ true → y ≡ true) → (y ≡ true → x ≡ true) → x ≡ y
together true y up down = sym (up refl)
together false true up down = down refl
together false false up down = refl

either : (x y : Bool) → (x || y) ≡ true → (x ≡ true) ⊎ (y ≡ true)
either true y h = inl refl
either false y h = inr h

-- numbers that each have one before them
less_after : (m n : ℕ) → nat_lt (suc m) (suc n) ≡ nat_lt m n
less_after m n = together (nat_lt (suc m) (suc n)) (nat_lt m n) (λ h. lt-ltb m n (omega (arith, ltb-true (suc m) (suc n) h))) (λ h. lt-ltb (suc m) (suc n) (omega (arith, ltb-true m n h)))

same_after : (m n : ℕ) → nat_eq (suc m) (suc n) ≡ nat_eq m n
same_after m n = together (nat_eq (suc m) (suc n)) (nat_eq m n) (λ h. eq-eqb m n (omega (arith, eqb-true (suc m) (suc n) h))) (λ h. eq-eqb (suc m) (suc n) (omega (arith, eqb-true m n h)))

-- ---- two spellings

-- a name is an underscore and its bare name, or its bare name
parts : (a : Text) → ((is_underscored a ≡ true) × (a ≡ codes "_" ++ bare a)) ⊎ ((is_underscored a ≡ false) × (bare a ≡ a))
parts [] = inr (refl, refl)
parts (c ∷ a) = by (is_underscored (c ∷ a)) refl
  where
    by : (b : Bool) → is_underscored (c ∷ a) ≡ b → ((is_underscored (c ∷ a) ≡ true) × (c ∷ a ≡ codes "_" ++ bare (c ∷ a))) ⊎ ((is_underscored (c ∷ a) ≡ false) × (bare (c ∷ a) ≡ c ∷ a))
    by true e =
        let is : c ∷ [] ≡ codes "_" = is_same (c ∷ []) (codes "_") e in
        let name : bare (c ∷ a) ≡ a = ap (λ (b : Bool). if b then a else c ∷ a) e in
        inl (e, ap (λ l. l ++ a) is ∙ ap (λ l. codes "_" ++ l) (sym name))
    by false e = inr (e, ap (λ (b : Bool). if b then a else c ∷ a) e)

-- the other spelling, by whether the name and its bare name begin with an underscore
abbrev spelled : Text → Bool → Bool → Option Text
spelled a one two = if one then (if two then None else Some (bare a)) else Some (codes "_" ++ a)

other_from : (a b : Text) → bare a ≡ bare b → (a ≡ b) ⊎ (other_spelling a ≡ Some b)
other_from a b same = ⊎_elim
    (λ one. ⊎_elim
    (λ two. inl (one.1 ∙ ap (λ l. codes "_" ++ l) same ∙ sym two.1))
    (λ two. inr (ap₂ (spelled a) one.0 (ap is_underscored (same ∙ two.1) ∙ two.0) ∙ ap Some (same ∙ two.1)))
    (parts b))
    (λ one. ⊎_elim
    (λ two. inr (ap (λ u. spelled a u (is_underscored (bare a))) one.0 ∙ ap (λ l. Some (codes "_" ++ l)) (sym one.1 ∙ same) ∙ ap Some (sym two.1)))
    (λ two. inl (sym one.1 ∙ same ∙ two.1))
    (parts b))
    (parts a)

one_from : (a b : Text) → is_the (other_spelling a) b ≡ true → bare a ≡ bare b
one_from a b h = ⊎_elim
    (λ one. inside (is_underscored (bare a)) refl (sym (ap (λ u. is_the (spelled a u (is_underscored (bare a))) b) one.0) ∙ h))
    (λ one. one.1 ∙ ap bare (is_same (codes "_" ++ a) b (sym (ap (λ u. is_the (spelled a u (is_underscored (bare a))) b) one.0) ∙ h)))
    (parts a)
  where
    inside : (two : Bool) → is_underscored (bare a) ≡ two → is_the (spelled a true two) b ≡ true → bare a ≡ bare b
    inside true e h = absurd (true≢false (sym h))
    inside false e h =
        let is : bare a ≡ b = is_same (bare a) b h in
        ⊎_elim (λ two. clash (is_underscored b) two.0 (ap is_underscored (sym is) ∙ e)) (λ two. is ∙ sym two.1) (parts b)

-- names count as one where they are the same, or one is the other spelling of the other
pub one_or_other : (a b : Text) → same_name a b ≡ (is_text a b || is_the (other_spelling a) b)
one_or_other a b = together (same_name a b) (is_text a b || is_the (other_spelling a) b) up down
  where
    up : same_name a b ≡ true → (is_text a b || is_the (other_spelling a) b) ≡ true
    up h = ⊎_elim
        (λ same. ap (λ t. t || is_the (other_spelling a) b) (same_is a b same))
        (λ other. right (is_text a b) (is_the (other_spelling a) b) (ap (λ o. is_the o b) other ∙ same_is b b refl))
        (other_from a b (is_same (bare a) (bare b) h))
      where
        right : (x y : Bool) → y ≡ true → (x || y) ≡ true
        right true y h = refl
        right false y h = h

    down : (is_text a b || is_the (other_spelling a) b) ≡ true → same_name a b ≡ true
    down h = ⊎_elim
        (λ same. same_is (bare a) (bare b) (ap bare (is_same a b same)))
        (λ other. same_is (bare a) (bare b) (one_from a b other))
        (either (is_text a b) (is_the (other_spelling a) b) h)

-- ---- numbers of names that are different ones

-- the first of the items is at the first place, or the next
pub first_or_later : {A : Type 0} (p : A → Bool) (x : A) (xs : List A) (b : Bool) → p x ≡ b → position p (x ∷ xs) ≡ (if b then Some 0 else option_map suc (position p xs))
first_or_later p x xs b e = ap (λ t. at t) e ∙ by b (position_or_len p xs) (length xs)
  where
    at : Bool → Option ℕ
    at t = cond (nat_lt (cond (not t) (1 + position_or_len p xs) 0) (suc (length xs))) (Some (cond (not t) (1 + position_or_len p xs) 0)) None

    onward : (b : Bool) (n : ℕ) → cond b (Some (suc n)) None ≡ option_map suc (cond b (Some n) None)
    onward true n = refl
    onward false n = refl

    by : (b : Bool) (n len : ℕ) → cond (nat_lt (cond (not b) (1 + n) 0) (suc len)) (Some (cond (not b) (1 + n) 0)) None ≡ (if b then Some 0 else option_map suc (cond (nat_lt n len) (Some n) None))
    by true n len = cond-true (nat_lt 0 (suc len)) (Some 0) None (lt-ltb 0 (suc len) (omega arith))
    by false n len = ap (λ m. cond (nat_lt m (suc len)) (Some m) None) (one-add n) ∙ ap (λ t. cond t (Some (suc n)) None) (less_after n len) ∙ onward (nat_lt n len) n

-- what differs from each name differs from that of each number
differs : (o : Text) (names : List Text) (n : ℕ) → AllByRecursion (λ y. is_text o y ≡ false) names → n < length names → is_text o (name_at names n) ≡ false
differs o [] n apart within = absurd (omega (arith, within))
differs o (x ∷ names) zero apart within = apart.0
differs o (x ∷ names) (suc n) apart within = differs o names n apart.1 (omega (arith, within))

-- a name that is among names that differ has the one number at which it stands
pub number_is : (names : List Text) (o : Text) (n : ℕ) → AreDistinct names → n < length names → is_text o (name_at names n) ≡ is_number (position (is_text o) names) n
unfolding IsDistinct
number_is [] o n distinct within = absurd (omega (arith, within))
number_is (x ∷ names) o zero distinct within = here (is_text o x) (position (is_text o) names) ∙ ap (λ i. is_number i 0) (sym (first_or_later (is_text o) x names (is_text o x) refl))
  where
    here : (b : Bool) (p : Option ℕ) → b ≡ is_number (if b then Some 0 else option_map suc p) 0
    here true p = refl
    here false None = refl
    here false (Some m) = sym (ne_eqb 0 (suc m) (λ e. omega (arith, e)))
number_is (x ∷ names) o (suc n) distinct within = by (is_text o x) refl (number_is names o n distinct.1 (omega (arith, within)))
  where
    later : (p : Option ℕ) → is_number p n ≡ is_number (option_map suc p) (suc n)
    later None = refl
    later (Some m) = sym (same_after n m)

    by : (b : Bool) → is_text o x ≡ b → is_text o (name_at names n) ≡ is_number (position (is_text o) names) n → is_text o (name_at names n) ≡ is_number (position (is_text o) (x ∷ names)) (suc n)
    by true e rest =
        ap (λ t. is_text t (name_at names n)) (is_same o x e) ∙ differs x names n distinct.0 (omega (arith, within))
        ∙ sym (ne_eqb (suc n) 0 (λ z. omega (arith, z))) ∙ ap (λ i. is_number i (suc n)) (sym (first_or_later (is_text o) x names true e))
    by false e rest = rest ∙ later (position (is_text o) names) ∙ ap (λ i. is_number i (suc n)) (sym (first_or_later (is_text o) x names false e))

-- the name at a number has this number
own_number : (names : List Text) (a : ℕ) → AreDistinct names → a < length names → position (is_text (name_at names a)) names ≡ Some a
unfolding IsDistinct
own_number [] a distinct within = absurd (omega (arith, within))
own_number (x ∷ names) zero distinct within = first_or_later (is_text x) x names true (same_is x x refl)
own_number (x ∷ names) (suc a) distinct within =
    let other : is_text (name_at names a) x ≡ false = false_from_ne_true (is_text (name_at names a) x) (λ e. clash (is_text x (name_at names a)) (same_is x (name_at names a) (sym (is_same (name_at names a) x e))) (differs x names a distinct.0 (omega (arith, within)))) in
    first_or_later (is_text (name_at names a)) x names false other ∙ ap (option_map suc) (own_number names a distinct.1 (omega (arith, within)))

-- names of two numbers count as one where the numbers are one, or one is that of the other spelling of the other's name
pub same_numbers : (names : List Text) (a n : ℕ) → AreDistinct names → a < length names → n < length names → same_name (name_at names a) (name_at names n) ≡ (nat_eq n a || is_number (other_number names a) n)
same_numbers names a n distinct there within =
    one_or_other (name_at names a) (name_at names n)
    ∙ ap₂ (λ x y. x || y) (number_is names (name_at names a) n distinct within ∙ ap (λ p. is_number p n) (own_number names a distinct there)) (by (other_spelling (name_at names a)) refl)
  where
    by : (o : Option Text) → other_spelling (name_at names a) ≡ o → is_the (other_spelling (name_at names a)) (name_at names n) ≡ is_number (other_number names a) n
    by None e = ap (λ o. is_the o (name_at names n)) e ∙ ap (λ o. is_number (option_and_then (λ other. position (is_text other) names) o) n) (sym e)
    by (Some o) e =
        ap (λ o. is_the o (name_at names n)) e ∙ number_is names o n distinct within
        ∙ ap (λ o. is_number (option_and_then (λ other. position (is_text other) names) o) n) (sym e)
