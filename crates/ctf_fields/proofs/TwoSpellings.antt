-- The first field of a name is the earlier of the first ones of its two spellings.
use Rattle.std.proofs.Common.{◌≡◌, ◌∙◌, ℕ, suc, ◌<◌, ◌||◌, min, Bool, true, false, nat_eq, List, [], ◌∷◌, Option, Some, None, length, option_and_then, option_map, slice_get, ap, ap₂, refl, sym, arith, if◌then◌else◌}
use Rattle.type_table.specs.Names.{AreDistinct, other_number}
use Rattle.type_table.specs.Table.{FieldNamesIn}
use Rattle.type_table.specs.Types.{Text}
use Rattle.type_table.specs.VariantFields.{first_of}
use Rattle.type_table.specs.declared.meta.FieldMeta.{FieldMeta}
use Rattle.type_table.proofs.Spellings.{first_or_later, is_number, same_numbers}
use Rattle.ctf_fields.specs.Choice.{earlier, first_named}

-- the field at an index, if there is one
abbrev at_index : List FieldMeta → Option ℕ → Option FieldMeta
at_index fs i = option_and_then (slice_get fs) i

least_zero : (n : ℕ) → 0 ≡ min 0 n
least_zero n = omega arith

zero_least : (n : ℕ) → 0 ≡ min n 0
zero_least n = omega arith

least_after : (m n : ℕ) → suc (min m n) ≡ min (suc m) (suc n)
least_after m n = omega arith

-- one field more in front
one_more : (x y : Bool) (i j : Option ℕ) (f : FieldMeta) (fs : List FieldMeta) → (if x || y then Some f else at_index fs (earlier i j)) ≡ at_index (f ∷ fs) (earlier (if x then Some 0 else option_map suc i) (if y then Some 0 else option_map suc j))
one_more true true i j f fs = ap (slice_get (f ∷ fs)) (least_zero 0)
one_more true false i None f fs = refl
one_more true false i (Some n) f fs = ap (slice_get (f ∷ fs)) (least_zero (suc n))
one_more false true None j f fs = refl
one_more false true (Some m) j f fs = ap (slice_get (f ∷ fs)) (zero_least (suc m))
one_more false false None None f fs = refl
one_more false false None (Some n) f fs = refl
one_more false false (Some m) None f fs = refl
one_more false false (Some m) (Some n) f fs = ap (slice_get (f ∷ fs)) (least_after m n)

-- the index of the first field of a number, if there is one
abbrev first_of_any : Option ℕ → List FieldMeta → Option ℕ
first_of_any o fs = option_and_then (λ n. first_of n fs) o

any_or_later : (o : Option ℕ) (f : FieldMeta) (fs : List FieldMeta) → first_of_any o (f ∷ fs) ≡ (if is_number o f.name then Some 0 else option_map suc (first_of_any o fs))
any_or_later None f fs = refl
any_or_later (Some n) f fs = first_or_later (λ g. nat_eq g.name n) f fs (nat_eq f.name n) refl

pub first_by_numbers : (names : List Text) (name : ℕ) (fs : List FieldMeta) → AreDistinct names → name < length names → FieldNamesIn (length names) fs
    → first_named names name fs ≡ at_index fs (earlier (first_of name fs) (first_of_any (other_number names name) fs))
first_by_numbers names name [] distinct there within = by (earlier (first_of name []) (first_of_any (other_number names name) []))
  where
    by : (i : Option ℕ) → None ≡ at_index [] i
    by None = refl
    by (Some n) = refl
first_by_numbers names name (f ∷ fs) distinct there within =
    let other = other_number names name in
    ap₂ (λ (b : Bool) rest. if b then Some f else rest) (same_numbers names name f.name distinct there within.0) (first_by_numbers names name fs distinct there within.1)
    ∙ one_more (nat_eq f.name name) (is_number other f.name) (first_of name fs) (first_of_any other fs) f fs
    ∙ ap₂ (λ i j. at_index (f ∷ fs) (earlier i j)) (sym (first_or_later (λ g. nat_eq g.name name) f fs (nat_eq f.name name) refl)) (sym (any_or_later other f fs))
