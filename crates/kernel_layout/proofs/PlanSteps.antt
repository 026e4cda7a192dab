-- The fields of a plan, one after the other: how each is placed, and that it can be read within the plan's bits.
use Rattle.std.proofs.Common.{◌≡◌, ◌∙◌, ℕ, ◌+◌, ◌%◌, ◌≤◌, ◌&&◌, nat_eq, nat_le, nat_lt, Bool, true, false, List, [], ◌∷◌, ◌++◌, length, Option, Some, None, option_map, slice_get, if◌then◌else◌, refl, sym, ap, subst, arith}
use Rattle.std.proofs.lemmas.Bool.{eqb-false}
use Rattle.std.specs.List.{AllByRecursion}
use Rattle.std.specs.Option.{option_and_then}
use Rattle.type_table.specs.Table.{IsSoundTable, Table}
use Rattle.type_table.specs.declared.integer.Integer.{Integer}
use Rattle.type_table.specs.declared.meta.FieldMeta.{FieldMeta}
use Rattle.type_table.specs.declared.meta.TypeMeta.{TypeMeta}
use Rattle.type_table.specs.declared.meta.TypeMeta.TheVariants as meta
use Rattle.ctf_fields.specs.Leaves.{IsReadable}
use Rattle.ctf_fields.specs.Reading.{align_at, integer_type}
use Rattle.read_plan.specs.FixedSizes.{within_byte}
use Rattle.read_plan.proofs.Passing.{some_of}
use Rattle.read_plan.proofs.Readable.{readable}
use Rattle.read_plan.proofs.Rows.{and_true, if_not, if_so}
use Rattle.kernel_layout.specs.Plans.{IsPlaced, IsPlan, end_behind, form_bits, form_by, form_of, integer_in, is_address, no_fields, numbers_of, placed, plan_by, plan_from, plan_of_type, planned, sought_at, whole_integer, with_bits, with_field, within_64}
use Rattle.kernel_layout.specs.declared.plan.TheConstants.{MAX_PLANNED_FIELDS}
use Rattle.kernel_layout.specs.declared.plan.EventPlan.{EventPlan}
use Rattle.kernel_layout.specs.declared.plan.FieldForm.{FieldForm}
use Rattle.kernel_layout.specs.declared.plan.FieldForm.TheVariants as form
use Rattle.kernel_layout.specs.declared.plan.PlannedField.{PlannedField}
use Rattle.kernel_layout.specs.declared.sought.Sought.{Sought}

-- ---- how a field is placed

-- a field of this form ends so far, and is no address
pub record IsAt (s : Option Sought) (bits : ℕ) (o : Option FieldForm) (p : FieldForm × ℕ) : Type 0 where
  pub form : o ≡ Some p.0
  pub end : p.1 ≡ bits + form_bits p.0
  pub no_address : is_address s ≡ false

within_is : (n m : ℕ) → within_64 n ≡ Some m → n ≡ m
within_is n m e = let test = if_so (nat_lt n 18446744073709551616) (Some n) m e in cc (test.1)

end_is : (bits : ℕ) (f : FieldForm) (end : ℕ) → end_behind bits f ≡ Some end → end ≡ bits + form_bits f
end_is bits f end e =
    let parts = some_of (λ n. within_64 (bits + n)) (within_64 (form_bits f)) end e in
    let size = within_is (form_bits f) parts.0 parts.1 in
    let sum = within_is (bits + parts.0) end parts.2 in
    omega (arith, size, sum)

pub is_at : (s : Option Sought) (bits : ℕ) (o : Option FieldForm) (p : FieldForm × ℕ) → placed s bits o ≡ Some p → IsAt s bits o p
is_at s bits None p e = absurd (cc)
is_at s bits (Some f) p e =
    let test = if_not (is_address s) (option_map (λ end. (f, end)) (end_behind bits f)) p e in
    by (end_behind bits f) refl test.0 test.1
  where
    by : (o : Option ℕ) → end_behind bits f ≡ o → is_address s ≡ false → option_map {U = FieldForm × ℕ} (λ end. (f, end)) o ≡ Some p → IsAt s bits (Some f) p
    by None is other e = absurd (cc)
    by (Some end) is other e =
        let same : Path (FieldForm × ℕ) (f, end) p = cc in
        let ends = end_is bits f end is in
        record {
          form = ap (λ x. Some x.0) same;
          end = sym (ap (λ x. x.1) same) ∙ ends ∙ ap (λ x. bits + form_bits x.0) same;
          no_address = other;
        }

-- a plan of fields begins with the plan of the first
pub first_placed : (t : Table) (done plan : EventPlan) (f : FieldMeta) (fs : List FieldMeta) → plan_from t done (f ∷ fs) ≡ Some plan
    → (p : FieldForm × ℕ) × IsAt (sought_at t f) done.bits (form_of t f.ty) p × (plan_from t (with_field done (sought_at t f) p) fs ≡ Some plan)
first_placed t done plan f fs e =
    let parts = some_of (λ p. plan_from t (with_field done (sought_at t f) p) fs) (placed (sought_at t f) done.bits (form_of t f.ty)) plan e in
    (parts.0, is_at (sought_at t f) done.bits (form_of t f.ty) parts.0 parts.1, parts.2)

-- ---- what a form is

-- a form is that of a number, or of an array of numbers
pub data IsForm (t : Table) (ty : ℕ) : FieldForm → Type 0 where
  a_number : (i : Integer) → integer_type t ty ≡ Some i → nat_eq (i.size % 8) 0 ≡ true → within_byte i.align ≡ true → IsForm t ty (form.Number i)
  an_array : (i : Integer) (count item : ℕ) → slice_get t.types ty ≡ Some (meta.Array count item) → integer_type t item ≡ Some i → nat_eq (i.size % 8) 0 ≡ true → within_byte i.align ≡ true → within_byte (align_at t item) ≡ true → IsForm t ty (form.Numbers i count)

whole_is : (o : Option Integer) (i : Integer) → whole_integer o ≡ Some i → (o ≡ Some i) × (nat_eq (i.size % 8) 0 ≡ true) × (within_byte i.align ≡ true)
whole_is None i e = absurd (cc)
whole_is (Some j) i e =
    let test = if_so (nat_eq (j.size % 8) 0 && within_byte j.align) (Some j) i e in
    let both = and_true (nat_eq (j.size % 8) 0) (within_byte j.align) test.0 in
    let same : j ≡ i = cc (test.1) in
    (ap Some same, subst (λ (k : Integer). nat_eq (k.size % 8) 0 ≡ true) same both.0, subst (λ (k : Integer). within_byte k.align ≡ true) same both.1)

is_number : (t : Table) (ty : ℕ) (f : FieldForm) → option_map form.Number (whole_integer (integer_type t ty)) ≡ Some f → IsForm t ty f
is_number t ty f e = by (whole_integer (integer_type t ty)) refl e
  where
    by : (o : Option Integer) → whole_integer (integer_type t ty) ≡ o → option_map form.Number o ≡ Some f → IsForm t ty f
    by None is e = absurd (cc)
    by (Some i) is e =
        let same : form.Number i ≡ f = cc in
        let parts = whole_is (integer_type t ty) i is in
        subst (IsForm t ty) same (a_number i parts.0 parts.1 parts.2)

is_array : (t : Table) (ty count item : ℕ) (f : FieldForm) → slice_get t.types ty ≡ Some (meta.Array count item) → numbers_of t count item ≡ Some f → IsForm t ty f
is_array t ty count item f there e =
    let test = if_so (within_byte (align_at t item)) (option_map (λ i. form.Numbers i count) (whole_integer (integer_type t item))) f e in
    by (whole_integer (integer_type t item)) refl test.0 test.1
  where
    by : (o : Option Integer) → whole_integer (integer_type t item) ≡ o → within_byte (align_at t item) ≡ true → option_map (λ i. form.Numbers i count) o ≡ Some f → IsForm t ty f
    by None is aligned e = absurd (cc)
    by (Some i) is aligned e =
        let same : form.Numbers i count ≡ f = cc in
        let parts = whole_is (integer_type t item) i is in
        subst (IsForm t ty) same (an_array i count item there parts.0 parts.1 parts.2 aligned)

pub is_form : (t : Table) (ty : ℕ) (f : FieldForm) → form_of t ty ≡ Some f → IsForm t ty f
is_form t ty f e = by (slice_get t.types ty) refl e
  where
    by : (m : Option TypeMeta) → slice_get t.types ty ≡ m → form_by t ty m ≡ Some f → IsForm t ty f
    by (Some (meta.Array count item)) is e = is_array t ty count item f is e
    by None is e = is_number t ty f e
    by (Some (meta.Struct align fs)) is e = is_number t ty f e
    by (Some (meta.Integer integer)) is e = is_number t ty f e
    by (Some (meta.Enum base labels)) is e = is_number t ty f e
    by (Some meta.Str) is e = is_number t ty f e
    by (Some (meta.Variant tag fs)) is e = is_number t ty f e
    by (Some (meta.Sequence count item)) is e = is_number t ty f e

-- the integer of a form can be read
form_readable : (t : Table) → IsSoundTable t → (ty : ℕ) (f : FieldForm) → IsForm t ty f → IsReadable (integer_in f)
form_readable t sound ty f (a_number i is bytes aligned) = readable t sound ty i is
form_readable t sound ty f (an_array i count item there is bytes aligned items) = readable t sound item i is

-- ---- all fields of a plan can be read within its bits

wider : (n m : ℕ) (ps : List PlannedField) → n ≤ m → AllByRecursion (IsPlaced n) ps → AllByRecursion (IsPlaced m) ps
wider n m [] h all = tt
wider n m (p ∷ ps) h all = (record { readable = all.0.readable; within = omega (arith, h, all.0.within) }, wider n m ps h all.1)

both_all : (n : ℕ) (ps qs : List PlannedField) → AllByRecursion (IsPlaced n) ps → AllByRecursion (IsPlaced n) qs → AllByRecursion (IsPlaced n) (ps ++ qs)
both_all n [] qs h k = k
both_all n (p ∷ ps) qs h k = (h.0, both_all n ps qs h.1 k)

one_planned : (n bits : ℕ) (s : Option Sought) (f : FieldForm) → IsReadable (integer_in f) → bits + form_bits f ≤ n → AllByRecursion (IsPlaced n) (planned s bits f)
one_planned n bits None f h k = tt
one_planned n bits (Some s) f h k = (record { readable = h; within = k }, tt)

all_placed : (t : Table) → IsSoundTable t → (fs : List FieldMeta) (done plan : EventPlan) → AllByRecursion (IsPlaced done.bits) done.fields → plan_from t done fs ≡ Some plan → (plan.ty ≡ done.ty) × AllByRecursion (IsPlaced plan.bits) plan.fields
all_placed t sound [] done plan all e =
    let same : done ≡ plan = cc in
    (ap (λ p. p.ty) (sym same), subst (λ (p : EventPlan). AllByRecursion (IsPlaced p.bits) p.fields) same all)
all_placed t sound (f ∷ fs) done plan all e =
    let first = first_placed t done plan f fs e in
    let p : FieldForm × ℕ = first.0 in
    let at = first.1 in
    let end : done.bits + form_bits p.0 ≤ p.1 = omega (arith, at.end) in
    let before = wider done.bits p.1 done.fields (omega (arith, at.end)) all in
    let one = one_planned p.1 done.bits (sought_at t f) p.0 (form_readable t sound f.ty p.0 (is_form t f.ty p.0 at.form)) end in
    all_placed t sound fs (with_field done (sought_at t f) p) plan (both_all p.1 done.fields (planned (sought_at t f) done.bits p.0) before one) first.2

-- ---- the plan of a type

-- a structure of fields that a plan was made of
pub record IsPlanOf (t : Table) (ty : ℕ) (plan : EventPlan) : Type 0 where
  pub align : ℕ
  pub fields : List FieldMeta
  pub is : slice_get t.types ty ≡ Some (meta.Struct align fields)
  pub aligned : within_byte align ≡ true
  pub made : plan_from t (no_fields ty) fields ≡ Some plan
  pub some : 1 ≤ plan.bits

has_bits : (p plan : EventPlan) → with_bits p ≡ Some plan → (p ≡ plan) × (1 ≤ plan.bits)
has_bits p plan e = by (nat_eq p.bits 0) refl e
  where
    by : (b : Bool) → nat_eq p.bits 0 ≡ b → (if b then None else Some p) ≡ Some plan → (p ≡ plan) × (1 ≤ plan.bits)
    by true is e = absurd (cc)
    by false is e =
        let same : p ≡ plan = cc in
        (same, subst (λ (q : EventPlan). 1 ≤ q.bits) same (omega (arith, eqb-false p.bits 0 is)))

pub plan_made : (t : Table) (ty : ℕ) (plan : EventPlan) → plan_of_type t ty ≡ Some plan → IsPlanOf t ty plan
plan_made t ty plan e = by (slice_get t.types ty) refl e
  where
    by : (m : Option TypeMeta) → slice_get t.types ty ≡ m → plan_by t ty m ≡ Some plan → IsPlanOf t ty plan
    by (Some (meta.Struct align fs)) is e =
        let test = if_so (nat_le (length fs) MAX_PLANNED_FIELDS && within_byte align) (option_and_then with_bits (plan_from t (no_fields ty) fs)) plan e in
        let both = and_true (nat_le (length fs) MAX_PLANNED_FIELDS) (within_byte align) test.0 in
        let made = some_of with_bits (plan_from t (no_fields ty) fs) plan test.1 in
        let whole = has_bits made.0 plan made.2 in
        record { align = align; fields = fs; is = is; aligned = both.1; made = made.1 ∙ ap Some whole.0; some = whole.1 }
    by None is e = absurd (cc)
    by (Some (meta.Integer integer)) is e = absurd (cc)
    by (Some (meta.Enum base labels)) is e = absurd (cc)
    by (Some meta.Str) is e = absurd (cc)
    by (Some (meta.Variant tag fs)) is e = absurd (cc)
    by (Some (meta.Array count item)) is e = absurd (cc)
    by (Some (meta.Sequence count item)) is e = absurd (cc)

-- it is the plan of the type that it names, and can be read by
pub is_plan : (t : Table) → IsSoundTable t → (ty : ℕ) (plan : EventPlan) → plan_of_type t ty ≡ Some plan → (plan.ty ≡ ty) × IsPlan t plan
is_plan t sound ty plan e =
    let made = plan_made t ty plan e in
    let all = all_placed t sound made.fields (no_fields ty) plan tt made.made in
    (all.0, record { its = ap (plan_of_type t) all.0 ∙ e; fields = all.1 })
