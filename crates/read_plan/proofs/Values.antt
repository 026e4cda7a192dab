-- The values of a structure's numbers, and which of them are found by their names.
use Rattle.std.proofs.Common.{◌≡◌, ◌∙◌, ℕ, ℤ, ◌≤◌, List, [], ◌∷◌, ◌++◌, Option, Some, None, option_map, Bool, true, false, if◌then◌else◌, append_assoc, append-nil, refl, sym, ap, ap₂}
use Rattle.type_table.specs.Names.{same_name}
use Rattle.type_table.specs.Table.{Table, name_at}
use Rattle.type_table.specs.Types.{Text}
use Rattle.type_table.specs.declared.integer.Integer.{Integer}
use Rattle.type_table.specs.declared.meta.FieldMeta.{FieldMeta}
use Rattle.ctf_fields.specs.Fields.{nearest, number_of, or_else, same, with_member}
use Rattle.ctf_fields.specs.Leaves.{integer_read}
use Rattle.ctf_fields.specs.Named.{Within, first_member, last_member}
use Rattle.ctf_fields.specs.Reading.{Fails, Got, Reads, SourceModel, as_read, integer_type, leaf, read, read_members, then_read}
use Rattle.ctf_fields.specs.declared.error.FieldError.TheVariants.{ShortContent}
use Rattle.ctf_fields.specs.declared.field.Field.{Field}
use Rattle.ctf_fields.specs.declared.field.Field.TheVariants as field
use Rattle.ctf_fields.specs.declared.field.Member.{Member}
use Rattle.ctf_fields.specs.declared.open_struct.OpenStruct.{OpenStruct}
use Rattle.ctf_fields.proofs.Integers.{number_read}
use Rattle.read_plan.specs.Headers.{header_number, is_id, is_timestamp, number_by, numbers_read, tag_type, with_number}
use Rattle.read_plan.specs.declared.header.HeaderNumber.{HeaderNumber}
use Rattle.read_plan.specs.declared.header.HeaderNumbers.{HeaderNumbers}

-- ---- what is made of what was read

pub as_twice : {A B C : Type 0} (f : A → B) (g : B → C) (x : Reads A) → as_read g (as_read f x) ≡ as_read (λ a. g (f a)) x
as_twice f g (Got a bit) = refl
as_twice f g (Fails cause) = refl

as_same : {A B : Type 0} (f g : A → B) (x : Reads A) → ((a : A) → f a ≡ g a) → as_read f x ≡ as_read g x
as_same f g (Got a bit) h = ap (λ b. Got b bit) (h a)
as_same f g (Fails cause) h = refl

-- ---- the values of numbers

abbrev pub value_by : Option (ℤ × ℕ) → Reads ℤ
value_by None = Fails ShortContent
value_by (Some r) = Got r.0 r.1

-- the values of numbers, one after the other
abbrev pub values_read : List ℕ → ℕ → List HeaderNumber → ℕ → Reads (List ℤ)
values_read bytes end [] at = Got [] at
values_read bytes end (n ∷ ns) at = then_read (value_by (integer_read n.integer bytes end at)) (λ z bit. as_read (λ zs. z ∷ zs) (values_read bytes end ns bit))

-- as many values as numbers
abbrev pub AreFor : List HeaderNumber → List ℤ → Type 0
AreFor [] [] = Unit {0}
AreFor (n ∷ ns) (z ∷ zs) = AreFor ns zs
AreFor [] (z ∷ zs) = ⊥
AreFor (n ∷ ns) [] = ⊥

-- what is read is so
abbrev pub OnGot : {A : Type 0} → Reads A → (A → Type 0) → Type 0
OnGot (Got a bit) P = P a
OnGot (Fails cause) P = Unit {0}

one_more : (n : HeaderNumber) (ns : List HeaderNumber) (z : ℤ) (x : Reads (List ℤ)) → OnGot x (AreFor ns) → OnGot (as_read (λ zs. z ∷ zs) x) (AreFor (n ∷ ns))
one_more n ns z (Got zs bit) h = h
one_more n ns z (Fails cause) h = tt

-- each number has a value
pub values_for : (bytes : List ℕ) (end : ℕ) (ns : List HeaderNumber) (at : ℕ) → OnGot (values_read bytes end ns at) (AreFor ns)
values_for bytes end [] at = tt
values_for bytes end (n ∷ ns) at = by (λ bit. values_for bytes end ns bit) (integer_read n.integer bytes end at)
  where
    by : ((bit : ℕ) → OnGot (values_read bytes end ns bit) (AreFor ns)) → (o : Option (ℤ × ℕ)) → OnGot (then_read (value_by o) (λ z bit. as_read (λ zs. z ∷ zs) (values_read bytes end ns bit))) (AreFor (n ∷ ns))
    by rest None = tt
    by rest (Some r) = one_more n ns r.0 (values_read bytes end ns r.1) (rest r.1)

-- what numbers tell by their values
abbrev pub told_by : List HeaderNumber → List ℤ → HeaderNumbers → HeaderNumbers
told_by [] zs before = before
told_by (n ∷ ns) [] before = before
told_by (n ∷ ns) (z ∷ zs) before = told_by ns zs (with_number n z before)

pub numbers_tell : (bytes : List ℕ) (end : ℕ) (ns : List HeaderNumber) (before : HeaderNumbers) (at : ℕ) → numbers_read bytes end ns before at ≡ as_read (λ zs. told_by ns zs before) (values_read bytes end ns at)
numbers_tell bytes end [] before at = refl
numbers_tell bytes end (n ∷ ns) before at = by (λ told bit. numbers_tell bytes end ns told bit) (integer_read n.integer bytes end at)
  where
    by : ((told : HeaderNumbers) (bit : ℕ) → numbers_read bytes end ns told bit ≡ as_read (λ zs. told_by ns zs told) (values_read bytes end ns bit)) → (o : Option (ℤ × ℕ))
        → then_read (number_by n before o) (numbers_read bytes end ns) ≡ as_read (λ zs. told_by (n ∷ ns) zs before) (then_read (value_by o) (λ z bit. as_read (λ zs. z ∷ zs) (values_read bytes end ns bit)))
    by rest None = refl
    by rest (Some r) = rest (with_number n r.0 before) r.1 ∙ sym (as_twice (λ zs. r.0 ∷ zs) (λ zs. told_by (n ∷ ns) zs before) (values_read bytes end ns r.1))

-- ---- fields that are numbers

-- fields are these numbers, one by one
pub data AreNumbers (t : Table) (tag : Option ℕ) : List FieldMeta → List HeaderNumber → Type 0 where
  none_left : AreNumbers t tag [] []
  and_number : (f : FieldMeta) (i : Integer) (fs : List FieldMeta) (ns : List HeaderNumber) → integer_type t f.ty ≡ Some i → AreNumbers t tag fs ns → AreNumbers t tag (f ∷ fs) (header_number t tag f i ∷ ns)

-- fields of such values
abbrev pub members_of : List FieldMeta → List ℤ → List Member
members_of [] zs = []
members_of (f ∷ fs) [] = []
members_of (f ∷ fs) (z ∷ zs) = record { name = f.name; field = field.Int f.ty z } ∷ members_of fs zs

-- a structure that is being read, within others
abbrev pub opened : Option ℕ → List Member → List OpenStruct → List OpenStruct
opened name ms around = record { name = name; fields = ms } ∷ around

-- numbers are read as fields of their values
pub members_read : (from : SourceModel) (d : ℕ) (name : Option ℕ) (around : List OpenStruct) (tag : Option ℕ) (done : List Member) {fs : List FieldMeta} {ns : List HeaderNumber} (at : ℕ) → 1 ≤ d → AreNumbers from.table tag fs ns
    → read_members (read d from) fs (opened name done around) at ≡ as_read (λ zs. opened name (done ++ members_of fs zs) around) (values_read from.bytes from.end ns at)
members_read from d name around tag done at h none_left = ap (λ ms. Got (opened name ms around) at) (sym (append-nil done))
members_read from d name around tag done at h (and_number f i fs ns is more) =
    ap (λ r. then_read (as_read (λ g. with_member (record { name = f.name; field = g }) (opened name done around)) r) (read_members (read d from) fs)) (number_read d from (Some f.name) f.ty i (opened name done around) at h is)
    ∙ by (λ ms bit. members_read from d name around tag ms bit h more) (integer_read i from.bytes from.end at)
  where
    by : ((ms : List Member) (bit : ℕ) → read_members (read d from) fs (opened name ms around) bit ≡ as_read (λ zs. opened name (ms ++ members_of fs zs) around) (values_read from.bytes from.end ns bit)) → (o : Option (ℤ × ℕ))
        → then_read (as_read (λ g. with_member (record { name = f.name; field = g }) (opened name done around)) (leaf (field.Int f.ty) o)) (read_members (read d from) fs)
        ≡ as_read (λ zs. opened name (done ++ members_of (f ∷ fs) zs) around) (then_read (value_by o) (λ z bit. as_read (λ zs. z ∷ zs) (values_read from.bytes from.end ns bit)))
    by rest None = refl
    by rest (Some r) =
        rest (done ++ record { name = f.name; field = field.Int f.ty r.0 } ∷ []) r.1
        ∙ as_same _ _ (values_read from.bytes from.end ns r.1) (λ zs. ap (λ ms. opened name ms around) (append_assoc done (record { name = f.name; field = field.Int f.ty r.0 } ∷ []) (members_of fs zs)))
        ∙ sym (as_twice (λ zs. r.0 ∷ zs) (λ zs. opened name (done ++ members_of (f ∷ fs) zs) around) (values_read from.bytes from.end ns r.1))

-- ---- the values that are found by names

-- the last value of a field whose name is so, and the first, with the indices of their types
abbrev pub last_value : (ℕ → Bool) → List FieldMeta → List ℤ → Option (ℤ × ℕ)
last_value p [] zs = None
last_value p (f ∷ fs) [] = None
last_value p (f ∷ fs) (z ∷ zs) = or_else (last_value p fs zs) (if p f.name then Some (z, f.ty) else None)

abbrev pub first_value : (ℕ → Bool) → List FieldMeta → List ℤ → Option (ℤ × ℕ)
first_value p [] zs = None
first_value p (f ∷ fs) [] = None
first_value p (f ∷ fs) (z ∷ zs) = if p f.name then Some (z, f.ty) else first_value p fs zs

-- a value as a field
abbrev pub as_field : Option (ℤ × ℕ) → Option Field
as_field None = None
as_field (Some r) = Some (field.Int r.1 r.0)

pub field_number : (o : Option (ℤ × ℕ)) → number_of (as_field o) ≡ o
unfolding Rattle.ctf_fields.specs.declared.field.Field.TheViews.out-Field denote.Hole.Carrier.out Rattle.ctf_fields.specs.declared.field.Field.TheBlock.shown-the_row-Field-1 denote.Hole.Carrier.shown denote.Hole.Carrier.hidden
field_number None = refl
field_number (Some r) = refl

pub or_fields : (o p : Option (ℤ × ℕ)) → or_else (as_field o) (as_field p) ≡ as_field (or_else o p)
or_fields None p = refl
or_fields (Some r) p = refl

if_field : (b : Bool) (z : ℤ) (ty : ℕ) → (if b then Some (field.Int ty z) else None) ≡ as_field (if b then Some (z, ty) else None)
if_field true z ty = refl
if_field false z ty = refl

last_field : (o : Option (ℤ × ℕ)) (b : Bool) (z : ℤ) (ty : ℕ) → or_else (as_field o) (if b then Some (field.Int ty z) else None) ≡ as_field (or_else o (if b then Some (z, ty) else None))
last_field o b z ty = ap (or_else (as_field o)) (if_field b z ty) ∙ or_fields o (if b then Some (z, ty) else None)

first_field : (b : Bool) (o : Option (ℤ × ℕ)) (z : ℤ) (ty : ℕ) → or_else (if b then Some (field.Int ty z) else None) (as_field o) ≡ as_field (if b then Some (z, ty) else o)
first_field true o z ty = refl
first_field false o z ty = refl

-- the nearest field of a name is the last value of that name
pub nearest_value : (names : List Text) (w : ℕ) (fs : List FieldMeta) (zs : List ℤ) → nearest names w (members_of fs zs) ≡ as_field (last_value (same names w) fs zs)
nearest_value names w [] zs = refl
nearest_value names w (f ∷ fs) [] = refl
nearest_value names w (f ∷ fs) (z ∷ zs) =
    ap (λ o. or_else o (if same names w f.name then Some (field.Int f.ty z) else None)) (nearest_value names w fs zs) ∙ last_field (last_value (same names w) fs zs) (same names w f.name) z f.ty

-- within numbers nothing is found
abbrev pub NoneWithin : Within → Type 0
NoneWithin inner = (ty : ℕ) (z : ℤ) → inner (field.Int ty z) ≡ None

-- a number is called so
abbrev pub is_called : List Text → Text → ℕ → Bool
is_called names text name = same_name text (name_at names name)

pub last_found : (inner : Within) (names : List Text) (text : Text) (fs : List FieldMeta) (zs : List ℤ) → NoneWithin inner → last_member inner names text (members_of fs zs) ≡ as_field (last_value (is_called names text) fs zs)
last_found inner names text [] zs h = refl
last_found inner names text (f ∷ fs) [] h = refl
last_found inner names text (f ∷ fs) (z ∷ zs) h =
    ap₂ (λ o w. or_else o (or_else w (if is_called names text f.name then Some (field.Int f.ty z) else None))) (last_found inner names text fs zs h) (h f.ty z)
    ∙ last_field (last_value (is_called names text) fs zs) (is_called names text f.name) z f.ty

pub first_found : (inner : Within) (names : List Text) (text : Text) (fs : List FieldMeta) (zs : List ℤ) → NoneWithin inner → first_member inner names text (members_of fs zs) ≡ as_field (first_value (is_called names text) fs zs)
first_found inner names text [] zs h = refl
first_found inner names text (f ∷ fs) [] h = refl
first_found inner names text (f ∷ fs) (z ∷ zs) h =
    ap₂ (λ w o. or_else (if is_called names text f.name then Some (field.Int f.ty z) else w) o) (h f.ty z) (first_found inner names text fs zs h)
    ∙ first_field (is_called names text f.name) (first_value (is_called names text) fs zs) z f.ty

-- ---- what numbers tell

pub or_none : {A : Type 0} (o : Option A) → or_else o None ≡ o
or_none None = refl
or_none (Some a) = refl

or_if : {A : Type 0} (o : Option A) (b : Bool) (x : A) (y : Option A) → or_else o (if b then Some x else y) ≡ or_else (or_else o (if b then Some x else None)) y
or_if (Some a) b x y = refl
or_if None true x y = refl
or_if None false x y = refl

if_first : {A : Type 0} (o : Option A) (b : Bool) (x : A) (y : Option A) → or_else (if b then or_else o (Some x) else o) y ≡ or_else o (if b then Some x else y)
if_first (Some a) true x y = refl
if_first None true x y = refl
if_first o false x y = refl

value_if : (o : Option (ℤ × ℕ)) (b : Bool) (x : ℤ × ℕ) (y : Option ℤ) → or_else (option_map (λ r. r.0) o) (if b then Some x.0 else y) ≡ or_else (option_map (λ r. r.0) (or_else o (if b then Some x else None))) y
value_if (Some a) b x y = refl
value_if None true x y = refl
value_if None false x y = refl

type_if : (o : Option (ℤ × ℕ)) (b : Bool) (x : ℤ × ℕ) → option_map (λ r. r.1) (or_else o (if b then Some x else None)) ≡ or_else (option_map (λ r. r.1) o) (if b then Some x.1 else None)
type_if (Some a) b x = refl
type_if None true x = refl
type_if None false x = refl

-- the last number that is called `id`
pub told_id : (t : Table) (tag : Option ℕ) {fs : List FieldMeta} {ns : List HeaderNumber} (zs : List ℤ) (before : HeaderNumbers) → AreNumbers t tag fs ns → (told_by ns zs before).id ≡ or_else (last_value (is_id t) fs zs) before.id
told_id t tag zs before none_left = refl
told_id t tag [] before (and_number f i fs ns is more) = refl
told_id t tag (z ∷ zs) before (and_number f i fs ns is more) =
    told_id t tag zs (with_number (header_number t tag f i) z before) more ∙ or_if (last_value (is_id t) fs zs) (is_id t f.name) (z, f.ty) before.id

-- the first number that is called `timestamp`
pub told_timestamp : (t : Table) (tag : Option ℕ) {fs : List FieldMeta} {ns : List HeaderNumber} (zs : List ℤ) (before : HeaderNumbers) → AreNumbers t tag fs ns
    → (told_by ns zs before).timestamp ≡ or_else before.timestamp (first_value (is_timestamp t) fs zs)
told_timestamp t tag zs before none_left = sym (or_none before.timestamp)
told_timestamp t tag [] before (and_number f i fs ns is more) = sym (or_none before.timestamp)
told_timestamp t tag (z ∷ zs) before (and_number f i fs ns is more) =
    told_timestamp t tag zs (with_number (header_number t tag f i) z before) more ∙ if_first before.timestamp (is_timestamp t f.name) (z, f.ty) (first_value (is_timestamp t) fs zs)

-- the last number that is called as the tag
pub told_tag : (t : Table) (w : ℕ) {fs : List FieldMeta} {ns : List HeaderNumber} (zs : List ℤ) (before : HeaderNumbers) → AreNumbers t (Some w) fs ns
    → (told_by ns zs before).tag ≡ or_else (option_map (λ r. r.0) (last_value (same t.names w) fs zs)) before.tag
told_tag t w zs before none_left = refl
told_tag t w [] before (and_number f i fs ns is more) = refl
told_tag t w (z ∷ zs) before (and_number f i fs ns is more) =
    told_tag t w zs (with_number (header_number t (Some w) f i) z before) more ∙ value_if (last_value (same t.names w) fs zs) (same t.names w f.name) (z, f.ty) before.tag

-- and its type
pub told_type : (t : Table) (w : ℕ) {fs : List FieldMeta} {ns : List HeaderNumber} (zs : List ℤ) → AreNumbers t (Some w) fs ns → AreFor ns zs → option_map (λ r. r.1) (last_value (same t.names w) fs zs) ≡ tag_type ns
told_type t w zs none_left all = refl
told_type t w [] (and_number f i fs ns is more) all = absurd all
told_type t w (z ∷ zs) (and_number f i fs ns is more) all =
    type_if (last_value (same t.names w) fs zs) (same t.names w f.name) (z, f.ty) ∙ ap (λ o. or_else o (if same t.names w f.name then Some f.ty else None)) (told_type t w zs more all)
