-- Fields that have a plan are read from the bits as their plan has them placed.
use Rattle.std.proofs.Common.{◌≡◌, ◌∙◌, ℕ, ℤ, zero, suc, ◌+◌, ◌*◌, ◌%◌, ◌≤◌, nat_eq, nat_le, Bool, true, false, List, [], ◌∷◌, ◌++◌, append_assoc, append-nil, Option, Some, None, option_map, slice_get, if◌then◌else◌, refl, sym, ap, subst, subst₂, arith}
use Rattle.std.proofs.lemmas.Bool.{eqb-true, leb-true}
use Rattle.std.specs.Int.{next_multiple_of}
use Rattle.type_table.specs.Table.{Table}
use Rattle.type_table.specs.declared.integer.Integer.{Integer}
use Rattle.type_table.specs.declared.meta.FieldMeta.{FieldMeta}
use Rattle.type_table.specs.declared.meta.TypeMeta.TheVariants as meta
use Rattle.ctf_fields.specs.Fields.{fields_of, with_member}
use Rattle.ctf_fields.specs.Leaves.{integer_read}
use Rattle.ctf_fields.specs.Reading.{MAX_TYPE_DEPTH, SourceModel, Reads, Got, Fails, align_at, array_by, as_read, integer_type, leaf, numbers, read, read_item, read_items, read_member, read_members, read_number, then_read}
use Rattle.ctf_fields.specs.declared.field.Field.{Field}
use Rattle.ctf_fields.specs.declared.field.Field.TheVariants as field
use Rattle.ctf_fields.specs.declared.field.Member.{Member}
use Rattle.ctf_fields.specs.declared.open_struct.OpenStruct.{OpenStruct}
use Rattle.ctf_fields.proofs.Integers.{array_read, number_read}
use Rattle.ctf_fields.proofs.Steps.{one_deeper}
use Rattle.read_plan.specs.FixedSizes.{within_byte}
use Rattle.read_plan.specs.Placed.{IsReadFrom}
use Rattle.read_plan.proofs.Passing.{reach, there}
use Rattle.read_plan.proofs.Rows.{by_struct}
use Rattle.kernel_layout.specs.Plans.{bits_by, field_by, form_bits, item_of, members_at, no_fields, number_field, numbers_from, plan_from, plan_of_type, sought_at, struct_at, struct_by, with_field}
use Rattle.kernel_layout.specs.declared.plan.EventPlan.{EventPlan}
use Rattle.kernel_layout.specs.declared.plan.FieldForm.{FieldForm}
use Rattle.kernel_layout.proofs.PlanSteps.{IsForm, a_number, an_array, first_placed, is_form, plan_made}

-- ---- one after the other

-- what is read is this, of so many bits from here on, or it can't be read
abbrev IsThere : {A : Type 0} → Reads A → A → ℕ → ℕ → ℕ → Type 0
IsThere (Got a bit) b at n end = (a ≡ b) × (bit ≡ at + n) × (1 ≤ n → at + n ≤ end)
IsThere (Fails cause) b at n end = Unit {0}

further : {A : Type 0} (x : Reads A) (b : A) (at n m end : ℕ) → (1 ≤ n → at + n ≤ end) → IsThere x b (at + n) m end → IsThere x b at (n + m) end
further (Got c to) b at n m end h r = (r.0, omega (arith, r.1), reach at n m end h r.2)
further (Fails cause) b at n m end h r = tt

then_there : {A B : Type 0} (x : Reads A) (next : A → ℕ → Reads B) (a : A) (b : B) (at n m end : ℕ) → IsThere x a at n end → IsThere (next a (at + n)) b (at + n) m end → IsThere (then_read x next) b at (n + m) end
then_there (Got c bit) next a b at n m end h rest = subst₂ (λ c bit. IsThere (next c bit) b at (n + m) end) (sym h.0) (sym h.1) (further (next a (at + n)) b at n m end h.2 rest)
then_there (Fails cause) next a b at n m end h rest = tt

as_there : {A B : Type 0} (f : A → B) (x : Reads A) (a : A) (at n end : ℕ) → IsThere x a at n end → IsThere (as_read f x) (f a) at n end
as_there f (Got c bit) a at n end h = (ap f h.0, h.1, h.2)
as_there f (Fails cause) a at n end h = tt

no_bits : {A : Type 0} (a : A) (at end : ℕ) → IsThere (Got a at) a at 0 end
no_bits a at end = (refl, omega arith, λ none. omega (arith, none))

both_bytes : (a b : ℕ) → a % 8 ≡ 0 → b % 8 ≡ 0 → (a + b) % 8 ≡ 0
both_bytes a b h k = omega (arith, h, k)

times_bytes : (count n : ℕ) → n % 8 ≡ 0 → (count * n) % 8 ≡ 0
times_bytes zero n h = omega arith
times_bytes (suc count) n h = ap (λ m. m % 8) (omega arith) ∙ both_bytes n (count * n) h (times_bytes count n h)

-- ---- numbers and arrays of numbers

-- a number that is read
number_there : (i : Integer) (bytes : List ℕ) (end ty at : ℕ) → at % 8 ≡ 0 → within_byte i.align ≡ true
    → IsThere (leaf (field.Int ty) (integer_read i bytes end at)) (number_field ty (integer_read i bytes end at)) at i.size end
number_there i bytes end ty at whole aligned = by (nat_le (next_multiple_of at i.align + i.size) end) refl _ (there at i.align whole aligned)
  where
    by : (b : Bool) → nat_le (next_multiple_of at i.align + i.size) end ≡ b → (z : ℤ) → next_multiple_of at i.align ≡ at
        → IsThere (leaf (field.Int ty) (if b then Some (z, next_multiple_of at i.align + i.size) else None)) (number_field ty (if b then Some (z, next_multiple_of at i.align + i.size) else None)) at i.size end
    by true is z same = let fits = leb-true (next_multiple_of at i.align + i.size) end is in (refl, omega (arith, same), λ some. omega (arith, fits, same))
    by false is z same = tt

items_there : (from : SourceModel) (i : Integer) (item : ℕ) → nat_eq (i.size % 8) 0 ≡ true → within_byte i.align ≡ true → (count : ℕ) (done : List Field) (at : ℕ) → at % 8 ≡ 0
    → IsThere (read_items (numbers from i) item [] count done at) (done ++ numbers_from from.bytes from.end item i at count) at (count * i.size) from.end
items_there from i item bytes aligned zero done at whole =
    let none : 0 ≡ zero * i.size = omega arith in
    subst₂ (λ fs n. IsThere (Got done at) fs at n from.end) (sym (append-nil done)) none (no_bits done at from.end)
items_there from i item bytes aligned (suc count) done at whole =
    let one = number_field item (integer_read i from.bytes from.end at) in
    let rest = numbers_from from.bytes from.end item i (at + i.size) count in
    let size : i.size + count * i.size ≡ suc count * i.size = omega arith in
    let items : (done ++ one ∷ []) ++ rest ≡ done ++ one ∷ rest = append_assoc done (one ∷ []) rest in
    subst₂ (λ fs n. IsThere (read_items (numbers from i) item [] (suc count) done at) fs at n from.end) items size
    (then_there (read_item (numbers from i) item [] done at) (read_items (numbers from i) item [] count) (done ++ one ∷ []) ((done ++ one ∷ []) ++ rest) at i.size (count * i.size) from.end
    (as_there (λ g. done ++ g ∷ []) (read_number from item (Some i) at) one at i.size from.end (number_there i from.bytes from.end item at whole aligned))
    (items_there from i item bytes aligned count (done ++ one ∷ []) (at + i.size) (both_bytes at i.size whole (eqb-true (i.size % 8) 0 bytes))))

-- a field of a form that is known
record FieldThere (from : SourceModel) (ty : ℕ) (f : FieldForm) : Type 0 where
  bytes : form_bits f % 8 ≡ 0
  reads : (d : ℕ) (name : Option ℕ) (opens : List OpenStruct) (at : ℕ) → 2 ≤ d → at % 8 ≡ 0 → IsThere (read d from name ty opens at) (field_by from.table ty from.bytes from.end at (Some f)) at (form_bits f) from.end

array_found : (t : Table) (ty count item : ℕ) (i : Integer) → slice_get t.types ty ≡ Some (meta.Array count item) → integer_type t item ≡ Some i → array_by t (slice_get t.types ty) ≡ Some (i, count, item)
array_found t ty count item i is found = ap (array_by t) is ∙ ap (option_map {U = Integer × ℕ × ℕ} (λ i. (i, count, item))) found

field_there : (from : SourceModel) (ty : ℕ) (f : FieldForm) → IsForm from.table ty f → FieldThere from ty f
field_there from ty f (a_number i is bytes aligned) = record {
  bytes = eqb-true (i.size % 8) 0 bytes;
  reads = λ d name opens at h whole.
      subst (λ x. IsThere x (number_field ty (integer_read i from.bytes from.end at)) at i.size from.end) (sym (number_read d from name ty i opens at (omega (arith, h)) is))
      (number_there i from.bytes from.end ty at whole aligned);
}
field_there from ty f (an_array i count item is found bytes aligned items) = record {
  bytes = times_bytes count i.size (eqb-true (i.size % 8) 0 bytes);
  reads = λ d name opens at h whole.
      let its : item_of (slice_get from.table.types ty) ≡ item = ap item_of is in
      subst₂ (λ x g. IsThere x g at (count * i.size) from.end) (sym (array_read d from name ty i count item opens at h (array_found from.table ty count item i is found))) (ap (λ it. field.List it (numbers_from from.bytes from.end it i at count)) (sym its))
      (as_there (field.List item) (read_items (numbers from i) item [] count [] (next_multiple_of at (align_at from.table item))) (numbers_from from.bytes from.end item i at count) at (count * i.size) from.end
      (subst (λ bit. IsThere (read_items (numbers from i) item [] count [] bit) (numbers_from from.bytes from.end item i at count) at (count * i.size) from.end) (sym (there at (align_at from.table item) whole items))
      (items_there from i item bytes aligned count [] at whole)));
}

-- ---- the fields of a structure

abbrev opened : Option ℕ → List Member → List OpenStruct → List OpenStruct
opened name ms around = record { name = name; fields = ms } ∷ around

-- fields that a plan was made of, behind those before them
members_there : (from : SourceModel) (d : ℕ) (name : Option ℕ) (around : List OpenStruct) → 2 ≤ d → (fs : List FieldMeta) (done plan : EventPlan) (before : List Member) (at : ℕ) → plan_from from.table done fs ≡ Some plan → at % 8 ≡ 0
    → (n : ℕ) × (plan.bits ≡ done.bits + n) × IsThere (read_members (read d from) fs (opened name before around) at) (opened name (before ++ members_at from.table from.bytes from.end at fs) around) at n from.end
members_there from d name around h [] done plan before at e whole =
    let same : done ≡ plan = cc in
    (0, omega (arith, ap (λ p. p.bits) same), subst (λ ms. IsThere (Got (opened name before around) at) (opened name ms around) at 0 from.end) (sym (append-nil before)) (no_bits (opened name before around) at from.end))
members_there from d name around h (f ∷ fs) done plan before at e whole =
    let first = first_placed from.table done plan f fs e in
    let p : FieldForm × ℕ = first.0 in
    let n : ℕ = form_bits p.0 in
    let one = field_there from f.ty p.0 (is_form from.table f.ty p.0 first.1.form) in
    let g : Field = field_by from.table f.ty from.bytes from.end at (Some p.0) in
    let m : Member = record { name = f.name; field = g } in
    let rest = members_there from d name around h fs (with_field done (sought_at from.table f) p) plan (before ++ m ∷ []) (at + n) first.2 (both_bytes at n whole one.bytes) in
    let later : List Member = members_at from.table from.bytes from.end (at + n) fs in
    let members : (before ++ m ∷ []) ++ later ≡ before ++ members_at from.table from.bytes from.end at (f ∷ fs) =
    append_assoc before (m ∷ []) later ∙ ap (λ o. before ++ record { name = f.name; field = field_by from.table f.ty from.bytes from.end at o } ∷ members_at from.table from.bytes from.end (at + bits_by o) fs) (sym first.1.form) in (
      n + rest.0,
      omega (arith, rest.1, first.1.end),
      subst (λ ms. IsThere (read_members (read d from) (f ∷ fs) (opened name before around) at) (opened name ms around) at (n + rest.0) from.end) members
          (then_there (read_member (read d from) f (opened name before around) at) (read_members (read d from) fs) (opened name (before ++ m ∷ []) around) (opened name ((before ++ m ∷ []) ++ later) around) at n rest.0 from.end
          (as_there (λ g. with_member (record { name = f.name; field = g }) (opened name before around)) (read d from (Some f.name) f.ty (opened name before around) at) g at n from.end (one.reads d (Some f.name) (opened name before around) at h whole))
          rest.2),
    )

got_there : {A : Type 0} (x : Reads A) (b : A) (at n end : ℕ) (a : A) (bit : ℕ) → IsThere x b at n end → x ≡ Got a bit → (a ≡ b) × (1 ≤ n → at + n ≤ end)
got_there (Got c to) b at n end a bit h e = let same : c ≡ a = cc in (sym same ∙ h.0, h.2)
got_there (Fails cause) b at n end a bit h e = absurd (cc)

-- what is read of a type with a plan is the structure of its fields at their places, whose bits are all there
pub is_struct : (t : Table) (bytes : List ℕ) (end ty at : ℕ) (whole : Field) (plan : EventPlan) → plan_of_type t ty ≡ Some plan → at % 8 ≡ 0 → IsReadFrom t bytes end (Some ty) at whole
    → (whole ≡ struct_at t ty bytes end at) × (at + plan.bits ≤ end)
is_struct t bytes end ty at whole plan e begins (scopes, bit, reads) =
    let from : SourceModel = record { table = t; bytes = bytes; end = end; scopes = scopes } in
    let made = plan_made t ty plan e in
    let members = members_there from 31 None [] (omega arith) made.fields (no_fields ty) plan [] at made.made begins in
    let align : next_multiple_of at made.align ≡ at = there at made.align begins made.aligned in
    let struct = as_there (λ s. field.Struct (fields_of s)) (read_members (read 31 from) made.fields (opened None [] []) at) (opened None (members_at t bytes end at made.fields) []) at members.0 end members.2 in
    let is : read MAX_TYPE_DEPTH from None ty [] at ≡ as_read (λ s. field.Struct (fields_of s)) (read_members (read 31 from) made.fields (opened None [] []) at) =
    one_deeper MAX_TYPE_DEPTH from None ty (meta.Struct made.align made.fields) [] at (omega arith) made.is
    ∙ by_struct (read 31 from) from None ty made.align made.fields [] at
    ∙ ap (λ a. as_read (λ s. field.Struct (fields_of s)) (read_members (read 31 from) made.fields (opened None [] []) a)) align in
    let got = got_there (as_read (λ s. field.Struct (fields_of s)) (read_members (read 31 from) made.fields (opened None [] []) at)) (field.Struct (members_at t bytes end at made.fields)) at members.0 end whole bit struct (sym is ∙ reads) in
    (got.0 ∙ ap (struct_by t bytes end at) (sym made.is), omega (arith, members.1, made.some, got.1 (omega (arith, members.1, made.some))))
