-- What is found by a plan is what is found by a name in the structure that the plan is of.
use Rattle.std.proofs.Common.{◌≡◌, ◌≤◌, ◌%◌, ◌/◌, ◌∙◌, ℕ, ℤ, zero, suc, ◌+◌, ◌*◌, ◌<◌, Bool, true, false, cond, List, [], ◌∷◌, ◌++◌, append_assoc, append-nil, get_or, length, map, slice_set, take, Option, Some, None, option_map, slice_get, codes, if◌then◌else◌, refl, sym, ap, ap₂, subst, subst₂, arith}
use Rattle.std.specs.List.{AllByRecursion}
use Rattle.std.proofs.lemmas.Bool.{false_from_ne_true}
use Rattle.type_table.specs.Names.{same_name}
use Rattle.type_table.specs.Table.{Table, name_at}
use Rattle.type_table.specs.Types.{Text}
use Rattle.type_table.specs.declared.integer.Integer.{Integer}
use Rattle.type_table.specs.declared.meta.FieldMeta.{FieldMeta}
use Rattle.trace_types.specs.Padding.{name_in}
use Rattle.ctf_fields.specs.Fields.{number_of, or_else}
use Rattle.ctf_fields.specs.Leaves.{integer_read}
use Rattle.ctf_fields.specs.Named.{first_in, first_member, first_named}
use Rattle.ctf_fields.specs.Reading.{integer_type}
use Rattle.ctf_fields.specs.declared.field.Field.{Field, out-Field, out-roll-Field, roll-Field}
use Rattle.ctf_fields.specs.declared.field.Field.TheOpen.{Field-F}
use Rattle.ctf_fields.specs.declared.field.Field.TheVariants as field
use Rattle.ctf_fields.specs.declared.field.Member.{Member}
use Rattle.read_plan.specs.FixedSizes.{within_byte}
use Rattle.kernel_layout.proofs.Bytes.{byte_read, byte_value}
use Rattle.kernel_layout.specs.Kinds.{ports, segment}
use Rattle.kernel_layout.specs.Needed.{address, address_in, and_then, byte_of, comm, comm_in, is_byte, name_by, number, of_16, of_32}
use Rattle.kernel_layout.specs.Plans.{IsPlaced, IsPlan, bits_by, byte_by, field_by, form_bits, found, is_address, item_of, members_at, name_by_plan, name_spelt, no_fields, number_by, number_field, number_in, numbers_from, plan_from, planned, sought_at, struct_at, struct_by, value_at, with_field}
use Rattle.kernel_layout.specs.Sought.{sought_of, text_of}
use Rattle.kernel_layout.specs.declared.plan.EventPlan.{EventPlan}
use Rattle.kernel_layout.specs.declared.plan.FieldForm.{FieldForm}
use Rattle.kernel_layout.specs.declared.plan.FieldForm.TheVariants as form
use Rattle.kernel_layout.specs.declared.plan.PlannedField.{PlannedField}
use Rattle.kernel_layout.specs.declared.sought.Sought.{Sought}
use Rattle.kernel_layout.specs.declared.sought.Sought.TheVariants as sought
use Rattle.kernel_layout.proofs.FirstChosen.{in_struct}
use Rattle.kernel_layout.proofs.KnownNames.{as_counted, counted, itself, none_counted}
use Rattle.kernel_layout.proofs.Names.{next_byte}
use Rattle.kernel_layout.proofs.PlanSteps.{IsForm, a_number, an_array, first_placed, is_form, plan_made}

-- ---- what is told by a field that is found

-- a field that is found by the plan tells what the one tells that is found by the name
abbrev pub Tells : Table → List ℕ → ℕ → ℕ → Option PlannedField → Option Field → Type 0
Tells t bytes end at None None = Unit {0}
Tells t bytes end at (Some p) (Some g) = (option_map (λ n. n.0) (number_of (Some g)) ≡ number_in bytes end (at + p.offset) p.form) × (comm_in t (Some g) ≡ name_spelt bytes end (at + p.offset) p.form)
Tells t bytes end at None (Some g) = ⊥
Tells t bytes end at (Some p) None = ⊥

number_told : (ty : ℕ) (o : Option (ℤ × ℕ)) → option_map (λ n. n.0) (number_of (Some (number_field ty o))) ≡ option_map (λ r. r.0) o
unfolding Rattle.ctf_fields.specs.declared.field.Field.TheViews.out-Field denote.Hole.Carrier.out Rattle.ctf_fields.specs.declared.field.Field.TheBlock.shown-the_row-Field-1 denote.Hole.Carrier.shown denote.Hole.Carrier.hidden
number_told ty None = refl
number_told ty (Some r) = refl

no_name : (t : Table) (ty : ℕ) (o : Option (ℤ × ℕ)) → comm_in t (Some (number_field ty o)) ≡ None
unfolding Rattle.ctf_fields.specs.declared.field.Field.TheViews.out-Field denote.Hole.Carrier.out Rattle.ctf_fields.specs.declared.field.Field.TheBlock.shown-the_row-Field-1 denote.Hole.Carrier.shown denote.Hole.Carrier.hidden
no_name t ty None = refl
no_name t ty (Some r) = refl

no_number : (item : ℕ) (fs : List Field) → option_map (λ n. n.0) (number_of (Some (field.List item fs))) ≡ None
unfolding Rattle.ctf_fields.specs.declared.field.Field.TheViews.out-Field denote.Hole.Carrier.out Rattle.ctf_fields.specs.declared.field.Field.TheBlock.shown-the_row-Field-1 denote.Hole.Carrier.shown denote.Hole.Carrier.hidden
no_number item fs = refl

list_name : (t : Table) (item : ℕ) (fs : List Field) → comm_in t (Some (field.List item fs)) ≡ (if is_byte (integer_type t item) then Some (take 15 (name_in (map byte_of fs))) else None)
unfolding roll-Field out-Field denote.Hole.Carrier.roll
list_name t item fs = ap (name_by t) (out-roll-Field (Field-F.List item fs))

-- the byte of a number is the same whatever its type is
same_byte : (a b : ℕ) (o : Option (ℤ × ℕ)) → byte_of (number_field a o) ≡ byte_of (number_field b o)
unfolding Rattle.ctf_fields.specs.declared.field.Field.TheViews.out-Field denote.Hole.Carrier.out Rattle.ctf_fields.specs.declared.field.Field.TheBlock.shown-the_row-Field-1 denote.Hole.Carrier.shown denote.Hole.Carrier.hidden
same_byte a b None = refl
same_byte a b (Some r) = refl

same_bytes : (bytes : List ℕ) (end a b : ℕ) (i : Integer) (at n : ℕ) → map byte_of (numbers_from bytes end a i at n) ≡ map byte_of (numbers_from bytes end b i at n)
same_bytes bytes end a b i at zero = refl
same_bytes bytes end a b i at (suc n) = ap₂ (λ x xs. x ∷ xs) (same_byte a b (integer_read i bytes end at)) (same_bytes bytes end a b i (at + i.size) n)

-- a field tells what its form does
form_tells : (t : Table) (bytes : List ℕ) (end ty at : ℕ) (f : FieldForm) → IsForm t ty f
    → (option_map (λ n. n.0) (number_of (Some (field_by t ty bytes end at (Some f)))) ≡ number_in bytes end at f) × (comm_in t (Some (field_by t ty bytes end at (Some f))) ≡ name_spelt bytes end at f)
form_tells t bytes end ty at f (a_number i is whole aligned) = (number_told ty (integer_read i bytes end at), no_name t ty (integer_read i bytes end at))
form_tells t bytes end ty at f (an_array i count item is got whole aligned items) =
    let it : item_of (slice_get t.types ty) ≡ item = ap item_of is in (
      no_number _ _,
      ap (λ n. comm_in t (Some (field.List n (numbers_from bytes end n i at count)))) it
          ∙ list_name t item (numbers_from bytes end item i at count)
          ∙ ap₂ (λ o bs. if is_byte o then Some (take 15 (name_in bs)) else None) got (same_bytes bytes end item 0 i at count),
    )

-- within a field nothing else is found
none_in_number : (d : ℕ) (names : List Text) (text : Text) (ty : ℕ) (o : Option (ℤ × ℕ)) → first_in d names text (number_field ty o) ≡ None
unfolding first_in Rattle.ctf_fields.specs.declared.field.Field.TheViews.out-Field denote.Hole.Carrier.out Rattle.ctf_fields.specs.declared.field.Field.TheBlock.shown-the_row-Field-1 denote.Hole.Carrier.shown denote.Hole.Carrier.hidden
none_in_number zero names text ty o = refl
none_in_number (suc d) names text ty None = refl
none_in_number (suc d) names text ty (Some r) = refl

none_in_list : (d : ℕ) (names : List Text) (text : Text) (item : ℕ) (fs : List Field) → first_in d names text (field.List item fs) ≡ None
unfolding first_in Rattle.ctf_fields.specs.declared.field.Field.TheViews.out-Field denote.Hole.Carrier.out Rattle.ctf_fields.specs.declared.field.Field.TheBlock.shown-the_row-Field-1 denote.Hole.Carrier.shown denote.Hole.Carrier.hidden
none_in_list zero names text item fs = refl
none_in_list (suc d) names text item fs = refl

none_within : (d : ℕ) (names : List Text) (text : Text) (t : Table) (ty : ℕ) (bytes : List ℕ) (end at : ℕ) (f : FieldForm) → first_in d names text (field_by t ty bytes end at (Some f)) ≡ None
none_within d names text t ty bytes end at (form.Number i) = none_in_number d names text ty (integer_read i bytes end at)
none_within d names text t ty bytes end at (form.Numbers i count) = none_in_list d names text _ _

-- ---- the first of a name

module _ (t : Table) (bytes : List ℕ) (end at : ℕ) (s : Sought) (d : ℕ) where
  -- the first of the name among members
  abbrev its_first : List Member → Option Field
  its_first ms = first_member (first_in d t.names (text_of s)) t.names (text_of s) ms

  -- one field before others
  one_before : (name : Text) (o : Option Sought) (bits : ℕ) (f : FieldForm) (g : Field) (later : List PlannedField) (rest : Option Field) → sought_of name ≡ o
      → (option_map (λ n. n.0) (number_of (Some g)) ≡ number_in bytes end (at + bits) f) × (comm_in t (Some g) ≡ name_spelt bytes end (at + bits) f) → Tells t bytes end at (found s later) rest
      → Tells t bytes end at (found s (planned o bits f ++ later)) (or_else (if same_name (text_of s) name then Some g else None) rest)
  one_before name None bits f g later rest is tells more = subst (λ b. Tells t bytes end at (found s later) (or_else (if b then Some g else None) rest)) (sym (none_counted name s is)) more
  one_before name (Some k) bits f g later rest is tells more = subst (λ b. Tells t bytes end at (cond (same_name (text_of s) (text_of k)) (Some one) (found s later)) (or_else (if b then Some g else None) rest)) (as_counted name k s is) (by (same_name (text_of s) (text_of k)))
    where
      one : PlannedField
      one = record { sought = k; offset = bits; form = f }

      by : (b : Bool) → Tells t bytes end at (cond b (Some one) (found s later)) (or_else (if b then Some g else None) rest)
      by true = tells
      by false = more

  finds : (fs : List FieldMeta) (done plan : EventPlan) → plan_from t done fs ≡ Some plan
      → (later : List PlannedField) × (plan.fields ≡ done.fields ++ later) × Tells t bytes end at (found s later) (its_first (members_at t bytes end (at + done.bits) fs))
  finds [] done plan e = let same : done ≡ plan = cc in ([], ap (λ p. p.fields) (sym same) ∙ sym (append-nil done.fields), tt)
  finds (f ∷ fs) done plan e =
      let first = first_placed t done plan f fs e in
      let p : FieldForm × ℕ = first.0 in
      let name : Text = name_at t.names f.name in
      let rest = finds fs (with_field done (sought_at t f) p) plan first.2 in
      let later : List PlannedField = rest.0 in
      let here : ℕ = at + done.bits in
      let behind : at + p.1 ≡ here + form_bits p.0 = omega (arith, first.1.end) in
      let g : Field = field_by t f.ty bytes end here (Some p.0) in
      let others : Option Field = its_first (members_at t bytes end (at + p.1) fs) in
      let one = one_before name (sought_at t f) done.bits p.0 g later others refl (form_tells t bytes end f.ty here p.0 (is_form t f.ty p.0 first.1.form)) rest.2 in
      let inner : first_in d t.names (text_of s) g ≡ None = none_within d t.names (text_of s) t f.ty bytes end here p.0 in
      let members : or_else (if same_name (text_of s) name then Some g else None) others ≡ its_first (members_at t bytes end here (f ∷ fs)) =
      ap₂ (λ o n. or_else (if same_name (text_of s) name then Some g else o) (its_first (members_at t bytes end n fs))) (sym inner) behind
      ∙ ap (λ o. its_first (record { name = f.name; field = field_by t f.ty bytes end here o } ∷ members_at t bytes end (here + bits_by o) fs)) (sym first.1.form) in (
        planned (sought_at t f) done.bits p.0 ++ later,
        rest.1 ∙ append_assoc done.fields (planned (sought_at t f) done.bits p.0) later,
        subst (Tells t bytes end at (found s (planned (sought_at t f) done.bits p.0 ++ later))) members one,
      )

-- the first of a name that is sought, in the structure that a plan is of
pub plan_finds : (t : Table) (plan : EventPlan) (bytes : List ℕ) (end at : ℕ) (s : Sought) → IsPlan t plan → Tells t bytes end at (found s plan.fields) (first_named t.names (text_of s) (Some (struct_at t plan.ty bytes end at)))
plan_finds t plan bytes end at s usable =
    let made = plan_made t plan.ty plan usable.its in
    let all = finds t bytes end at s 31 made.fields (no_fields plan.ty) plan made.made in
    let begins : at + 0 ≡ at = omega arith in
    let root : first_named t.names (text_of s) (Some (struct_at t plan.ty bytes end at)) ≡ first_member (first_in 31 t.names (text_of s)) t.names (text_of s) (members_at t bytes end (at + 0) made.fields) =
    ap (λ m. first_in 32 t.names (text_of s) (struct_by t bytes end at m)) made.is
    ∙ in_struct 31 t.names (text_of s) (members_at t bytes end at made.fields)
    ∙ ap (λ n. first_member (first_in 31 t.names (text_of s)) t.names (text_of s) (members_at t bytes end n made.fields)) (sym begins) in
    subst₂ (λ ps g. Tells t bytes end at (found s ps) g) (sym all.1) (sym root) all.2

number_of_found : (t : Table) (bytes : List ℕ) (end at : ℕ) (o : Option PlannedField) (g : Option Field) → Tells t bytes end at o g → option_map (λ n. n.0) (number_of g) ≡ number_by bytes end at o
number_of_found t bytes end at None None h = refl
number_of_found t bytes end at (Some p) (Some g) h = h.0
number_of_found t bytes end at None (Some g) h = absurd h
number_of_found t bytes end at (Some p) None h = absurd h

name_of_found : (t : Table) (bytes : List ℕ) (end at : ℕ) (o : Option PlannedField) (g : Option Field) → Tells t bytes end at o g → comm_in t g ≡ name_by_plan bytes end at o
name_of_found t bytes end at None None h = refl
name_of_found t bytes end at (Some p) (Some g) h = h.1
name_of_found t bytes end at None (Some g) h = absurd h
name_of_found t bytes end at (Some p) None h = absurd h

-- the number and the name that a plan finds
pub number_found : (t : Table) (plan : EventPlan) (bytes : List ℕ) (end at : ℕ) (s : Sought) → IsPlan t plan → number t (struct_at t plan.ty bytes end at) (text_of s) ≡ number_by bytes end at (found s plan.fields)
number_found t plan bytes end at s usable = number_of_found t bytes end at (found s plan.fields) (first_named t.names (text_of s) (Some (struct_at t plan.ty bytes end at))) (plan_finds t plan bytes end at s usable)

pub name_found : (t : Table) (plan : EventPlan) (bytes : List ℕ) (end at : ℕ) (s : Sought) → IsPlan t plan → comm t (struct_at t plan.ty bytes end at) (text_of s) ≡ name_by_plan bytes end at (found s plan.fields)
name_found t plan bytes end at s usable = name_of_found t bytes end at (found s plan.fields) (first_named t.names (text_of s) (Some (struct_at t plan.ty bytes end at))) (plan_finds t plan bytes end at s usable)

-- a field that is found can be read
pub found_placed : (n : ℕ) (s : Sought) (ps : List PlannedField) (p : PlannedField) → AllByRecursion (IsPlaced n) ps → found s ps ≡ Some p → IsPlaced n p
found_placed n s [] p h e = absurd (cc)
found_placed n s (x ∷ ps) p h e = by (same_name (text_of s) (text_of x.sought)) e (found_placed n s ps p h.1)
  where
    by : (b : Bool) → cond b (Some x) (found s ps) ≡ Some p → (found s ps ≡ Some p → IsPlaced n p) → IsPlaced n p
    by true e rest = let same : x ≡ p = cc in subst (IsPlaced n) same h.0
    by false e rest = rest e

-- ---- no plan has an address

no_address : (k : Sought) → is_address (Some k) ≡ false → same_name (text_of sought.Saddr) (text_of k) ≡ false
no_address k told = false_from_ne_true (same_name (text_of sought.Saddr) (text_of k)) (λ e.
    let one : sought_of (text_of k) ≡ Some k = itself k in
    let other : sought_of (text_of k) ≡ Some sought.Saddr = counted (text_of k) sought.Saddr e in
    let same : k ≡ sought.Saddr = cc in
    let yes : is_address (Some sought.Saddr) ≡ false = subst (λ x. is_address (Some x) ≡ false) same told in
    absurd (cc))

none_more : (ps : List PlannedField) (o : Option Sought) (bits : ℕ) (f : FieldForm) → is_address o ≡ false → found sought.Saddr ps ≡ None → found sought.Saddr (ps ++ planned o bits f) ≡ None
none_more [] None bits f other h = refl
none_more [] (Some k) bits f other h = ap (λ b. cond b (Some (record { sought = k; offset = bits; form = f })) None) (no_address k other)
none_more (p ∷ ps) o bits f other h = by (same_name (text_of sought.Saddr) (text_of p.sought)) h (none_more ps o bits f other)
  where
    by : (b : Bool) → cond b (Some p) (found sought.Saddr ps) ≡ None → (found sought.Saddr ps ≡ None → found sought.Saddr (ps ++ planned o bits f) ≡ None) → cond b (Some p) (found sought.Saddr (ps ++ planned o bits f)) ≡ None
    by true h rest = absurd (cc)
    by false h rest = rest h

none_placed : (t : Table) (fs : List FieldMeta) (done plan : EventPlan) → plan_from t done fs ≡ Some plan → found sought.Saddr done.fields ≡ None → found sought.Saddr plan.fields ≡ None
none_placed t [] done plan e h = let same : done ≡ plan = cc in ap (λ p. found sought.Saddr p.fields) (sym same) ∙ h
none_placed t (f ∷ fs) done plan e h =
    let first = first_placed t done plan f fs e in
    let p : FieldForm × ℕ = first.0 in
    none_placed t fs (with_field done (sought_at t f) p) plan first.2 (none_more done.fields (sought_at t f) done.bits p.0 first.1.no_address h)

none_told : (t : Table) (bytes : List ℕ) (end at : ℕ) (o : Option PlannedField) (g : Option Field) → o ≡ None → Tells t bytes end at o g → g ≡ None
none_told t bytes end at None None e h = refl
none_told t bytes end at (Some p) (Some g) e h = absurd (cc)
none_told t bytes end at None (Some g) e h = absurd h
none_told t bytes end at (Some p) None e h = refl

-- so nothing that is read by a plan tells of a segment
pub no_segment : (t : Table) (plan : EventPlan) (bytes : List ℕ) (end at : ℕ) → IsPlan t plan → None ≡ segment t (struct_at t plan.ty bytes end at)
no_segment t plan bytes end at usable =
    let made = plan_made t plan.ty plan usable.its in
    let none = none_placed t made.fields (no_fields plan.ty) plan made.made refl in
    let root : Field = struct_at t plan.ty bytes end at in
    let not_found : first_named t.names (codes "saddr") (Some root) ≡ None = none_told t bytes end at (found sought.Saddr plan.fields) (first_named t.names (codes "saddr") (Some root)) none (plan_finds t plan bytes end at sought.Saddr usable) in
    sym (ap (λ o. and_then (address_in t o) (λ saddr.
    and_then (address t root (codes "daddr")) (λ daddr.
    and_then (ports t root) (λ p.
    and_then (of_32 t root (codes "seq")) (λ seq.
    and_then (of_32 t root (codes "ack_seq")) (λ ack.
    and_then (of_16 t root (codes "flags")) (λ flags.
    Some (record { saddr = saddr; daddr = daddr; seq = seq; ack_seq = ack; source_port = p.0; dest_port = p.1; flags = flags })))))))) not_found)

-- ---- the bytes of a name

byte_same : (item : ℕ) (o : Option (ℤ × ℕ)) → byte_by (option_map (λ r. r.0) o) ≡ byte_of (number_field item o)
unfolding Rattle.ctf_fields.specs.declared.field.Field.TheViews.out-Field denote.Hole.Carrier.out Rattle.ctf_fields.specs.declared.field.Field.TheBlock.shown-the_row-Field-1 denote.Hole.Carrier.shown denote.Hole.Carrier.hidden
byte_same item None = refl
byte_same item (Some r) = refl

-- as many numbers as are counted
pub how_many : (bytes : List ℕ) (end item : ℕ) (i : Integer) (at n : ℕ) → length (numbers_from bytes end item i at n) ≡ n
how_many bytes end item i at zero = refl
how_many bytes end item i at (suc n) = ap suc (how_many bytes end item i (at + i.size) n)

nth_number : (bytes : List ℕ) (end item : ℕ) (i : Integer) (at n k : ℕ) (d : Field) → k < n → get_or (numbers_from bytes end item i at n) k d ≡ number_field item (integer_read i bytes end (at + i.size * k))
nth_number bytes end item i at zero k d h = absurd (omega (arith, h))
nth_number bytes end item i at (suc n) zero d h = let here : at ≡ at + i.size * zero = omega arith in ap (λ a. number_field item (integer_read i bytes end a)) here
nth_number bytes end item i at (suc n) (suc k) d h =
    let next : (at + i.size) + i.size * k ≡ at + i.size * suc k = omega arith in
    nth_number bytes end item i (at + i.size) n k d (omega (arith, h)) ∙ ap (λ a. number_field item (integer_read i bytes end a)) next

-- one byte more
pub byte_placed : (bytes : List ℕ) (end : ℕ) (i : Integer) (at count : ℕ) (done : List ℕ) (k byte : ℕ) → i.size ≡ 8 → k < count → k < length done → byte ≡ byte_by (value_at bytes end i (at + 8 * k))
    → take k done ≡ take k (map byte_of (numbers_from bytes end 0 i at count)) → take (k + 1) (slice_set done k byte) ≡ take (k + 1) (map byte_of (numbers_from bytes end 0 i at count))
byte_placed bytes end i at count done k byte size few room is same =
    let fs : List Field = numbers_from bytes end 0 i at count in
    let f : Field = number_field 0 (integer_read i bytes end (at + i.size * k)) in
    let its : byte ≡ byte_of f = is ∙ ap (λ n. byte_by (value_at bytes end i (at + n * k))) (sym size) ∙ byte_same 0 (integer_read i bytes end (at + i.size * k)) in
    let long = how_many bytes end 0 i at count in
    rw its (next_byte fs done k f (omega (arith, few, long)) room (sym (nth_number bytes end 0 i at count k f few)) same)

-- an integer of 8 bits that stands at a whole byte
pub byte_there : (bytes : List ℕ) (end : ℕ) (i : Integer) (at byte : ℕ) → i.size ≡ 8 → i.align ≡ 8 → at % 8 ≡ 0 → at + 8 ≤ end → byte ≡ get_or bytes (at / 8) 0 → byte < 256 → byte ≡ byte_by (value_at bytes end i at)
byte_there bytes end i at byte size aligned whole within is small =
    let its : get_or bytes (at / 8) 0 < 256 = omega (arith, is, small) in
    is ∙ sym (ap (λ o. byte_by (option_map (λ r. r.0) o)) (byte_read i bytes end at size (ap within_byte aligned) whole within its) ∙ byte_value i (get_or bytes (at / 8) 0) size its)
