-- Fields of integers and enumerations.
use Rattle.std.proofs.Common.{◌≡◌, ◌∙◌, ℕ, zero, suc, ◌-◌, ◌≤◌, List, [], ◌∷◌, ◌++◌, Option, Some, None, option_map, slice_get, Result, Ok, Err, refl, sym, ap, arith}
use Rattle.std.specs.Int.{next_multiple_of}
use Rattle.type_table.specs.Table.{Table}
use Rattle.type_table.specs.declared.integer.Integer.{Integer}
use Rattle.type_table.specs.declared.meta.FieldMeta.{FieldMeta}
use Rattle.type_table.specs.declared.meta.TypeMeta.{TypeMeta}
use Rattle.type_table.specs.declared.meta.TypeMeta.TheVariants as meta
use Rattle.ctf_fields.specs.Fields.{with_member}
use Rattle.ctf_fields.specs.Reading.{SourceModel, Inner, Reads, Got, Fails, GivesWith, align_at, array_by, as_read, integer_of, integer_type, member_read, numbers, read, read_by, read_item, read_items, read_list, read_member, read_number, then_read}
use Rattle.ctf_fields.specs.declared.open_struct.OpenStruct.{OpenStruct}
use Rattle.ctf_fields.specs.declared.error.FieldError.{FieldError}
use Rattle.ctf_fields.specs.declared.error.FieldError.TheVariants.{ShortContent, NoVariant, TooLong, OutOfMemory}
use Rattle.ctf_fields.specs.declared.field.Field.{Field}
use Rattle.ctf_fields.specs.declared.field.Field.TheVariants as field
use Rattle.ctf_fields.proofs.Steps.{one_deeper}

-- the integer of a type that is known
abbrev pub type_number : Table → Option TypeMeta → Option Integer
type_number t (Some (meta.Enum base labels)) = integer_of (slice_get t.types base)
type_number t other = integer_of other

by_type : (inner : Inner) (from : SourceModel) (name : Option ℕ) (ty : ℕ) (m : Option TypeMeta) (i : Integer) (open_structs : List OpenStruct) (at : ℕ) → type_number from.table m ≡ Some i
    → read_by inner from name ty m open_structs at ≡ read_number from ty (Some i) at
unfolding read_by
by_type inner from name ty None i open_structs at e = absurd (cc)
by_type inner from name ty (Some (meta.Integer integer)) i open_structs at e = ap (λ o. read_number from ty o at) e
by_type inner from name ty (Some (meta.Enum base labels)) i open_structs at e = ap (λ o. read_number from ty o at) e
by_type inner from name ty (Some meta.Str) i open_structs at e = absurd (cc)
by_type inner from name ty (Some (meta.Struct align fs)) i open_structs at e = absurd (cc)
by_type inner from name ty (Some (meta.Variant tag fs)) i open_structs at e = absurd (cc)
by_type inner from name ty (Some (meta.Array count item)) i open_structs at e = absurd (cc)
by_type inner from name ty (Some (meta.Sequence count item)) i open_structs at e = absurd (cc)

pub same_type : (t : Table) (ty : ℕ) (m : Option TypeMeta) → slice_get t.types ty ≡ m → integer_type t ty ≡ type_number t m
same_type t ty m e = ap (type_number t) e

deep : (d e : ℕ) (from : SourceModel) (name : Option ℕ) (ty : ℕ) (i : Integer) (open_structs : List OpenStruct) (at : ℕ) → d ≡ suc e → integer_type from.table ty ≡ Some i → read d from name ty open_structs at ≡ read_number from ty (Some i) at
unfolding read
deep d e from name ty i open_structs at is found =
    ap (λ n. read n from name ty open_structs at) is
    ∙ by_type (read e from) from name ty (slice_get from.table.types ty) i open_structs at (sym (same_type from.table ty (slice_get from.table.types ty) refl) ∙ found)

-- at any depth but none, a type of numbers is read as its integer
pub number_read : (d : ℕ) (from : SourceModel) (name : Option ℕ) (ty : ℕ) (i : Integer) (open_structs : List OpenStruct) (at : ℕ) → 1 ≤ d → integer_type from.table ty ≡ Some i → read d from name ty open_structs at ≡ read_number from ty (Some i) at
number_read d from name ty i open_structs at h found = by d refl
  where
    by : (n : ℕ) → d ≡ n → read d from name ty open_structs at ≡ read_number from ty (Some i) at
    by zero e = absurd (omega (arith, h, e))
    by (suc n) e = deep d n from name ty i open_structs at e found

-- a member whose type is read so
pub member_by : (d : ℕ) (from : SourceModel) (f : FieldMeta) (a : OpenStruct) (rest : List OpenStruct) (at : ℕ) (r : Reads Field) → read d from (Some f.name) f.ty (a ∷ rest) at ≡ r
    → read_member (read d from) f (a ∷ rest) at ≡ as_read (λ b. b ∷ rest) (member_read r f a)
member_by d from f a rest at r is = ap (as_read (λ g. with_member (record { name = f.name; field = g }) (a ∷ rest))) is ∙ twice r
  where
    twice : (r : Reads Field) → as_read (λ g. with_member (record { name = f.name; field = g }) (a ∷ rest)) r ≡ as_read (λ b. b ∷ rest) (as_read (λ g. record { name = a.name; fields = a.fields ++ record { name = f.name; field = g } ∷ [] }) r)
    twice (Got g bit) = refl
    twice (Fails cause) = refl

pub gives_member : (x : Reads (List OpenStruct)) (y : Reads OpenStruct) (a : OpenStruct) (rest rest' : List OpenStruct) (r : Result ℕ FieldError) → x ≡ as_read (λ b. b ∷ rest) y → rest' ≡ rest → GivesWith y a r → GivesWith x (a ∷ rest') r
gives_member x y a rest rest' (Ok bit) e same h = e ∙ ap (as_read (λ b. b ∷ rest)) h ∙ ap (λ l. Got (a ∷ l) bit) (sym same)
gives_member x y a rest rest' (Err ShortContent) e same h = e ∙ ap (as_read (λ b. b ∷ rest)) h
gives_member x y a rest rest' (Err NoVariant) e same h = e ∙ ap (as_read (λ b. b ∷ rest)) h
gives_member x y a rest rest' (Err TooLong) e same h = e ∙ ap (as_read (λ b. b ∷ rest)) h
gives_member x y a rest rest' (Err OutOfMemory) e same h = tt

item_number : (d : ℕ) (from : SourceModel) (i : Integer) (ty : ℕ) (open_structs : List OpenStruct) (done : List Field) (at : ℕ) → 1 ≤ d → integer_type from.table ty ≡ Some i
    → read_item (numbers from i) ty [] done at ≡ read_item (read d from) ty open_structs done at
item_number d from i ty open_structs done at h found = ap (as_read (λ g. done ++ g ∷ [])) (sym (number_read d from None ty i open_structs at h found))

same_next : {A B : Type 0} (r : Reads A) (f g : A → ℕ → Reads B) → ((a : A) (bit : ℕ) → f a bit ≡ g a bit) → then_read r f ≡ then_read r g
same_next (Got a bit) f g same = same a bit
same_next (Fails cause) f g same = refl

pub items_numbers : (d : ℕ) (from : SourceModel) (i : Integer) (ty : ℕ) (open_structs : List OpenStruct) (n : ℕ) (done : List Field) (at : ℕ) → 1 ≤ d → integer_type from.table ty ≡ Some i
    → read_items (numbers from i) ty [] n done at ≡ read_items (read d from) ty open_structs n done at
items_numbers d from i ty open_structs zero done at h found = refl
items_numbers d from i ty open_structs (suc n) done at h found =
    ap (λ r. then_read r (read_items (numbers from i) ty [] n)) (item_number d from i ty open_structs done at h found)
    ∙ same_next (read_item (read d from) ty open_structs done at) (read_items (numbers from i) ty [] n) (read_items (read d from) ty open_structs n) (λ a bit. items_numbers d from i ty open_structs n a bit h found)

is_array : (t : Table) (m : Option TypeMeta) (i : Integer) (count item : ℕ) → array_by t m ≡ Some (i, count, item) → (m ≡ Some (meta.Array count item)) × (integer_type t item ≡ Some i)
is_array t (Some (meta.Array c it)) i count item e = by (integer_type t it) refl e
  where
    by : (o : Option Integer) → integer_type t it ≡ o → option_map {U = Integer × ℕ × ℕ} (λ i. (i, c, it)) o ≡ Some (i, count, item) → (Some (meta.Array c it) ≡ Some (meta.Array count item)) × (integer_type t item ≡ Some i)
    by None is e = absurd (cc)
    by (Some j) is e =
        let whole : Path (Integer × ℕ × ℕ) (j, c, it) (i, count, item) = cc in
        let same_integer : j ≡ i = ap (λ x. x.0) whole in
        let same_count : c ≡ count = ap (λ x. x.1) whole in
        let same_item : it ≡ item = ap (λ x. x.2) whole in
        (ap (λ n. Some (meta.Array n it)) same_count ∙ ap (λ n. Some (meta.Array count n)) same_item, ap (integer_type t) (sym same_item) ∙ is ∙ ap Some same_integer)
is_array t None i count item e = absurd (cc)
is_array t (Some (meta.Integer integer)) i count item e = absurd (cc)
is_array t (Some (meta.Enum base labels)) i count item e = absurd (cc)
is_array t (Some meta.Str) i count item e = absurd (cc)
is_array t (Some (meta.Struct align fs)) i count item e = absurd (cc)
is_array t (Some (meta.Variant tag fs)) i count item e = absurd (cc)
is_array t (Some (meta.Sequence n it)) i count item e = absurd (cc)

array_in : (inner : Inner) (from : SourceModel) (name : Option ℕ) (ty count item : ℕ) (open_structs : List OpenStruct) (at : ℕ) → read_by inner from name ty (Some (meta.Array count item)) open_structs at ≡ read_list inner from.table count item open_structs at
unfolding read_by
array_in inner from name ty count item open_structs at = refl

-- at any depth above one, an array of numbers is read as its integers
pub array_read : (d : ℕ) (from : SourceModel) (name : Option ℕ) (ty : ℕ) (i : Integer) (count item : ℕ) (open_structs : List OpenStruct) (at : ℕ) → 2 ≤ d → array_by from.table (slice_get from.table.types ty) ≡ Some (i, count, item)
    → read d from name ty open_structs at ≡ read_list (numbers from i) from.table count item [] at
array_read d from name ty i count item open_structs at h found =
    let is = is_array from.table (slice_get from.table.types ty) i count item found in
    one_deeper d from name ty (meta.Array count item) open_structs at (omega (arith, h)) is.0
    ∙ array_in (read (d - 1) from) from name ty count item open_structs at
    ∙ ap (as_read (field.List item)) (sym (items_numbers (d - 1) from i item open_structs count [] (next_multiple_of at (align_at from.table item)) (omega (arith, h)) is.1))
