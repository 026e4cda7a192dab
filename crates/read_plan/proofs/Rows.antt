-- Structures of numbers, and variants of them, read as their types are.
use Rattle.std.proofs.Common.{◌≡◌, ◌∙◌, ℕ, ℤ, suc, ◌-◌, ◌≤◌, ◌&&◌, ◌||◌, int_le, nat_le, List, [], ◌∷◌, ◌++◌, length, drop, Option, Some, None, option_map, slice_get, Bool, true, false, if◌then◌else◌, refl, sym, ap, subst, subst₂, arith}
use Rattle.std.proofs.lemmas.Bool.{leb-true}
use Rattle.std.specs.Int.{next_multiple_of}
use Rattle.type_table.specs.Table.{Table}
use Rattle.type_table.specs.declared.integer.Integer.{Integer}
use Rattle.type_table.specs.declared.meta.FieldMeta.{FieldMeta}
use Rattle.type_table.specs.declared.meta.LabelMeta.{LabelMeta}
use Rattle.type_table.specs.declared.meta.TypeMeta.{TypeMeta}
use Rattle.type_table.specs.declared.meta.TypeMeta.TheVariants as meta
use Rattle.ctf_fields.specs.Choice.{by_labels, first_named}
use Rattle.ctf_fields.specs.Fields.{fields_of, or_else}
use Rattle.ctf_fields.specs.Reading.{Fails, Got, Inner, Reads, SourceModel, as_read, integer_type, read, read_by, read_choice, read_struct}
use Rattle.ctf_fields.specs.declared.field.Field.{Field}
use Rattle.ctf_fields.specs.declared.field.Field.TheVariants as field
use Rattle.ctf_fields.specs.declared.open_struct.OpenStruct.{OpenStruct}
use Rattle.ctf_fields.proofs.Steps.{one_deeper}
use Rattle.read_plan.specs.Headers.{behind_numbers, both, is_id, is_timestamp, leading_numbers, number_before, option_of, option_read, options_of, row_by, row_read}
use Rattle.read_plan.specs.declared.header.TheConstants.{MAX_PLANNED}
use Rattle.read_plan.specs.declared.header.HeaderNumber.{HeaderNumber}
use Rattle.read_plan.specs.declared.header.HeaderNumbers.{HeaderNumbers}
use Rattle.read_plan.specs.declared.header.HeaderOption.{HeaderOption}
use Rattle.read_plan.specs.declared.header.NumberRow.{NumberRow}
use Rattle.read_plan.proofs.Values.{AreNumbers, and_number, as_twice, members_of, members_read, none_left, numbers_tell, opened, told_by, values_read}

-- ---- tests that hold

pub if_so : {A : Type 0} (c : Bool) (o : Option A) (a : A) → (if c then o else None) ≡ Some a → (c ≡ true) × (o ≡ Some a)
if_so true o a e = (refl, e)
if_so false o a e = absurd (cc)

pub if_not : {A : Type 0} (c : Bool) (o : Option A) (a : A) → (if c then None else o) ≡ Some a → (c ≡ false) × (o ≡ Some a)
if_not true o a e = absurd (cc)
if_not false o a e = (refl, e)

pub and_true : (a b : Bool) → (a && b) ≡ true → (a ≡ true) × (b ≡ true)
and_true true true e = (refl, refl)
and_true true false e = absurd (cc)
and_true false b e = absurd (cc)

pub or_false : (a b : Bool) → (a || b) ≡ false → (a ≡ false) × (b ≡ false)
or_false true b e = absurd (cc)
or_false false true e = absurd (cc)
or_false false false e = (refl, refl)

-- ---- the numbers that fields begin with

-- fields that begin with numbers
pub record Leading (t : Table) (tag : Option ℕ) (fs : List FieldMeta) : Type 0 where
  pub front : List FieldMeta
  pub whole : fs ≡ front ++ behind_numbers t fs
  pub numbers : AreNumbers t tag front (leading_numbers t tag fs)

pub leading : (t : Table) (tag : Option ℕ) (fs : List FieldMeta) → Leading t tag fs
leading t tag [] = record { front = []; whole = refl; numbers = none_left }
leading t tag (f ∷ fs) = by (integer_type t f.ty) refl (leading t tag fs)
  where
    begins : (word : Option ℕ) (o : Option Integer) → integer_type t f.ty ≡ o → leading_numbers t word (f ∷ fs) ≡ number_before t word f o (leading_numbers t word fs)
    begins word o e = ap (λ i. number_before t word f i (leading_numbers t word fs)) e

    by : (o : Option Integer) → integer_type t f.ty ≡ o → Leading t tag fs → Leading t tag (f ∷ fs)
    by None e rest = record {
      front = [];
      whole = ap (λ ns. drop (length ns) (f ∷ fs)) (sym (begins None None e));
      numbers = subst (AreNumbers t tag []) (sym (begins tag None e)) none_left;
    }
    by (Some i) e rest = record {
      front = f ∷ rest.front;
      whole = ap (λ xs. f ∷ xs) rest.whole ∙ ap (λ ns. (f ∷ rest.front) ++ drop (length ns) (f ∷ fs)) (sym (begins None (Some i) e));
      numbers = subst (AreNumbers t tag (f ∷ rest.front)) (sym (begins tag (Some i) e)) (and_number f i rest.front (leading_numbers t tag fs) e rest.numbers);
    }

-- fields that are no more than the numbers they begin with
pub all_numbers : (t : Table) (fs : List FieldMeta) → length fs ≤ length (leading_numbers t None fs) → AreNumbers t None fs (leading_numbers t None fs)
all_numbers t [] h = none_left
all_numbers t (f ∷ fs) h = by (integer_type t f.ty) refl (all_numbers t fs)
  where
    begins : (o : Option Integer) → integer_type t f.ty ≡ o → leading_numbers t None (f ∷ fs) ≡ number_before t None f o (leading_numbers t None fs)
    begins o e = ap (λ i. number_before t None f i (leading_numbers t None fs)) e

    by : (o : Option Integer) → integer_type t f.ty ≡ o → (length fs ≤ length (leading_numbers t None fs) → AreNumbers t None fs (leading_numbers t None fs)) → AreNumbers t None (f ∷ fs) (leading_numbers t None (f ∷ fs))
    by None e rest = let none : length (leading_numbers t None (f ∷ fs)) ≡ 0 = ap length (begins None e) in absurd (omega (arith, h, none))
    by (Some i) e rest =
        let one : length (leading_numbers t None (f ∷ fs)) ≡ suc (length (leading_numbers t None fs)) = ap length (begins (Some i) e) in
        subst (AreNumbers t None (f ∷ fs)) (sym (begins (Some i) e)) (and_number f i fs (leading_numbers t None fs) e (rest (omega (arith, h, one))))

-- ---- structures of numbers

-- a type is a structure of these numbers
pub record IsRow (t : Table) (m : Option TypeMeta) (row : NumberRow) : Type 0 where
  pub fields : List FieldMeta
  pub numbers : AreNumbers t None fields row.numbers
  pub is : m ≡ Some (meta.Struct row.align fields)

pub row_of : (t : Table) (m : Option TypeMeta) (row : NumberRow) → row_by t m ≡ Some row → IsRow t m row
row_of t (Some (meta.Struct align fs)) row e =
    let made : NumberRow = record { align = align; numbers = leading_numbers t None fs } in
    let tests = if_so (nat_le (length fs) MAX_PLANNED && nat_le (length fs) (length (leading_numbers t None fs))) (Some made) row e in
    let most = and_true (nat_le (length fs) MAX_PLANNED) (nat_le (length fs) (length (leading_numbers t None fs))) tests.0 in
    let same : made ≡ row = cc (tests.1) in
    subst (IsRow t (Some (meta.Struct align fs))) same (record { fields = fs; numbers = all_numbers t fs (leb-true (length fs) (length (leading_numbers t None fs)) most.1); is = refl })
row_of t None row e = absurd (cc)
row_of t (Some (meta.Integer integer)) row e = absurd (cc)
row_of t (Some (meta.Enum base labels)) row e = absurd (cc)
row_of t (Some meta.Str) row e = absurd (cc)
row_of t (Some (meta.Variant tag fs)) row e = absurd (cc)
row_of t (Some (meta.Array count item)) row e = absurd (cc)
row_of t (Some (meta.Sequence count item)) row e = absurd (cc)

pub by_struct : (inner : Inner) (from : SourceModel) (name : Option ℕ) (ty align : ℕ) (fs : List FieldMeta) (around : List OpenStruct) (at : ℕ) → read_by inner from name ty (Some (meta.Struct align fs)) around at ≡ read_struct inner name align fs around at
unfolding read_by
by_struct inner from name ty align fs around at = refl

-- it is read as its values
pub row_fields : (from : SourceModel) (d : ℕ) (name : Option ℕ) (ty : ℕ) (row : NumberRow) (around : List OpenStruct) (at : ℕ) → 2 ≤ d → (r : IsRow from.table (slice_get from.table.types ty) row)
    → read d from name ty around at ≡ as_read (λ zs. field.Struct (members_of r.fields zs)) (values_read from.bytes from.end row.numbers (next_multiple_of at row.align))
row_fields from d name ty row around at h r =
    one_deeper d from name ty (meta.Struct row.align r.fields) around at (omega (arith, h)) r.is
    ∙ by_struct (read (d - 1) from) from name ty row.align r.fields around at
    ∙ ap (as_read (λ whole. field.Struct (fields_of whole))) (members_read from (d - 1) name around None [] (next_multiple_of at row.align) (omega (arith, h)) r.numbers)
    ∙ as_twice (λ zs. opened name (members_of r.fields zs) around) (λ whole. field.Struct (fields_of whole)) (values_read from.bytes from.end row.numbers (next_multiple_of at row.align))

-- ---- the structure that a tag chooses

-- a chosen field is a structure of numbers, and these were told
pub record IsOption (t : Table) (before : HeaderNumbers) (g : Field) (told : HeaderNumbers) : Type 0 where
  pub name : ℕ
  pub fields : List FieldMeta
  pub numbers : List HeaderNumber
  pub values : List ℤ
  pub is : g ≡ field.Choice name (field.Struct (members_of fields values))
  pub no_id : is_id t name ≡ false
  pub no_timestamp : is_timestamp t name ≡ false
  pub all : AreNumbers t None fields numbers
  pub tells : told ≡ told_by numbers values before

-- a chosen field is told, or fails for the same cause
abbrev pub OptionTells : Table → HeaderNumbers → Reads Field → Reads HeaderNumbers → Type 0
OptionTells t before (Got g bit) (Got told to) = (to ≡ bit) × IsOption t before g told
OptionTells t before (Fails cause) (Fails other) = other ≡ cause
OptionTells t before (Got g bit) (Fails other) = ⊥
OptionTells t before (Fails cause) (Got told to) = ⊥

option_made : (t : Table) (before : HeaderNumbers) (name : ℕ) (fs : List FieldMeta) (ns : List HeaderNumber) (x : Reads (List ℤ)) → is_id t name ≡ false → is_timestamp t name ≡ false → AreNumbers t None fs ns
    → OptionTells t before (as_read (field.Choice name) (as_read (λ zs. field.Struct (members_of fs zs)) x)) (as_read (λ zs. told_by ns zs before) x)
option_made t before name fs ns (Got zs bit) no_id no_timestamp all = (refl, record { name = name; fields = fs; numbers = ns; values = zs; is = refl; no_id = no_id; no_timestamp = no_timestamp; all = all; tells = refl })
option_made t before name fs ns (Fails cause) no_id no_timestamp all = refl

row_tells : (from : SourceModel) (d : ℕ) (before : HeaderNumbers) (f : FieldMeta) (row : NumberRow) (around : List OpenStruct) (at : ℕ) → 2 ≤ d → is_id from.table f.name ≡ false → is_timestamp from.table f.name ≡ false → IsRow from.table (slice_get from.table.types f.ty) row
    → OptionTells from.table before (as_read (field.Choice f.name) (read d from None f.ty around at)) (row_read from.bytes from.end row before at)
row_tells from d before f row around at h no_id no_timestamp r =
    subst₂ (OptionTells from.table before) (ap (as_read (field.Choice f.name)) (sym (row_fields from d None f.ty row around at h r))) (sym (numbers_tell from.bytes from.end row.numbers before (next_multiple_of at row.align)))
    (option_made from.table before f.name r.fields row.numbers (values_read from.bytes from.end row.numbers (next_multiple_of at row.align)) no_id no_timestamp r.numbers)

both_there : (xs : List HeaderOption) (rest : Option (List HeaderOption)) (os : List HeaderOption) → both (Some xs) rest ≡ Some os → (ys : List HeaderOption) × (rest ≡ Some ys) × (xs ++ ys ≡ os)
both_there xs None os e = absurd (cc)
both_there xs (Some ys) os e = (ys, refl, cc)

-- what is left of a test that holds for none
none_either : (b : Bool) (rest : Option FieldMeta) → or_else (if b then None else None) rest ≡ rest
none_either true rest = refl
none_either false rest = refl

module _ (from : SourceModel) (d : ℕ) (before : HeaderNumbers) (around : List OpenStruct) (at : ℕ) (z : ℤ) (deep : 2 ≤ d) where
  -- a field that may be chosen, and the options for it
  abbrev ChosenTells : Option FieldMeta → List HeaderOption → Type 0
  ChosenTells f os = OptionTells from.table before (read_choice (read d from) f around at) (option_read from.bytes from.end os z before at)

  -- one label that chooses a structure of numbers, before others
  one_label : (label : LabelMeta) (f : FieldMeta) (row : NumberRow) (rest : Option FieldMeta) (ys : List HeaderOption) → is_id from.table f.name ≡ false → is_timestamp from.table f.name ≡ false → IsRow from.table (slice_get from.table.types f.ty) row
      → ChosenTells rest ys → ChosenTells (or_else (if int_le label.low z && int_le z label.high then Some f else None) rest) (record { low = label.low; high = label.high; row = row } ∷ ys)
  one_label label f row rest ys no_id no_timestamp r others = by (int_le label.low z && int_le z label.high)
    where
      by : (b : Bool) → OptionTells from.table before (read_choice (read d from) (or_else (if b then Some f else None) rest) around at) (if b then row_read from.bytes from.end row before at else option_read from.bytes from.end ys z before at)
      by true = row_tells from d before f row around at deep no_id no_timestamp r
      by false = others

  -- the field that a label names
  named_label : (label : LabelMeta) (c : Option FieldMeta) (rest : Option FieldMeta) (later : Option (List HeaderOption)) (os : List HeaderOption) → ((ys : List HeaderOption) → later ≡ Some ys → ChosenTells rest ys) → both (option_of from.table label c) later ≡ Some os
      → ChosenTells (or_else (if int_le label.low z && int_le z label.high then c else None) rest) os
  named_label label None rest later os others e =
      let there = both_there [] later os e in
      let is : later ≡ Some os = there.1 ∙ ap Some there.2 in
      subst (λ f. ChosenTells f os) (sym (none_either (int_le label.low z && int_le z label.high) rest)) (others os is)
  named_label label (Some f) rest later os others e = by (is_id from.table f.name || is_timestamp from.table f.name) refl (row_by from.table (slice_get from.table.types f.ty)) refl e
    where
      by : (b : Bool) → (is_id from.table f.name || is_timestamp from.table f.name) ≡ b → (o : Option NumberRow) → row_by from.table (slice_get from.table.types f.ty) ≡ o
          → both (if b then None else option_map (λ row. record { low = label.low; high = label.high; row = row } ∷ []) o) later ≡ Some os
          → ChosenTells (or_else (if int_le label.low z && int_le z label.high then Some f else None) rest) os
      by true is o there e = absurd (cc)
      by false is None there e = absurd (cc)
      by false is (Some row) there e =
          let parts = both_there (record { low = label.low; high = label.high; row = row } ∷ []) later os e in
          let names = or_false (is_id from.table f.name) (is_timestamp from.table f.name) is in
          subst (ChosenTells (or_else (if int_le label.low z && int_le z label.high then Some f else None) rest)) parts.2
          (one_label label f row rest parts.0 names.0 names.1 (row_of from.table (slice_get from.table.types f.ty) row there) (others parts.0 parts.1))

  -- the field that labels choose is read by the options for them
  pub labels_tell : (fs : List FieldMeta) (labels : List LabelMeta) (os : List HeaderOption) → options_of from.table fs labels ≡ Some os → ChosenTells (by_labels from.table.names z labels fs) os
  labels_tell fs [] os e = let same : [] ≡ os = cc in subst (ChosenTells None) same refl
  labels_tell fs (label ∷ labels) os e =
      named_label label (first_named from.table.names label.name fs) (by_labels from.table.names z labels fs) (options_of from.table fs labels) os (λ ys is. labels_tell fs labels ys is) e
