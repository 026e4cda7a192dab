-- Headers are read by their plans as by their types.
use Rattle.std.proofs.Common.{◌≡◌, ◌∙◌, ℕ, ℤ, suc, ◌&&◌, ◌||◌, nat_le, List, [], ◌∷◌, ◌++◌, length, Option, Some, None, option_map, slice_get, codes, false, if◌then◌else◌, append-nil, Result, Ok, Err, IfOk, IfSome, refl, sym, ap, ap₂, subst, subst₂, arith}
use Rattle.std.specs.Int.{next_multiple_of}
use Rattle.trace_types.specs.declared.memory.OutOfMemory.{OutOfMemory}
use Rattle.type_table.specs.Table.{Table}
use Rattle.type_table.specs.Types.{Text}
use Rattle.type_table.specs.declared.meta.FieldMeta.{FieldMeta}
use Rattle.type_table.specs.declared.meta.Reference.{Reference}
use Rattle.type_table.specs.declared.meta.ScopeName.{ScopeName}
use Rattle.type_table.specs.declared.meta.TypeMeta.{TypeMeta}
use Rattle.type_table.specs.declared.meta.TypeMeta.TheVariants as meta
use Rattle.ctf_fields.specs.Choice.{by_labels, chosen, labels_in}
use Rattle.ctf_fields.specs.Fields.{field_by, fields_of, nearest, number_of, or_else, same, with_member}
use Rattle.ctf_fields.specs.Named.{Within, first_at, first_by, first_in, first_member, last_at, last_by, last_in, last_member}
use Rattle.ctf_fields.specs.Reading.{Fails, Got, Inner, MAX_TYPE_DEPTH, Reads, SourceModel, as_read, number_at, read, read_by, read_choice, read_member, read_members, scope_read, then_read}
use Rattle.ctf_fields.specs.declared.field.Field.{Field}
use Rattle.ctf_fields.specs.declared.field.Field.TheOpen.{Field-F}
use Rattle.ctf_fields.specs.declared.field.Field.TheVariants as field
use Rattle.ctf_fields.specs.declared.field.Field.TheViews.{out-Field, out-roll-Field, roll-Field}
use Rattle.ctf_fields.specs.declared.field.Member.{Member}
use Rattle.ctf_fields.specs.declared.open_struct.OpenStruct.{OpenStruct}
use Rattle.ctf_fields.proofs.Chosen.{none_first, none_last}
use Rattle.ctf_fields.proofs.Steps.{one_deeper}
use Rattle.read_plan.specs.Headers.{IsPlanFor, Tells, behind_numbers, behind_row, header_plan, header_read, is_id, is_timestamp, leading_numbers, no_numbers, option_by, options_of, planned_behind, planned_by, planned_last, planned_tag, planned_variant, tag_type}
use Rattle.read_plan.specs.declared.header.TheConstants.{MAX_PLANNED}
use Rattle.read_plan.specs.declared.header.HeaderNumber.{HeaderNumber}
use Rattle.read_plan.specs.declared.header.HeaderNumbers.{HeaderNumbers}
use Rattle.read_plan.specs.declared.header.HeaderOption.{HeaderOption}
use Rattle.read_plan.specs.declared.header.HeaderPlan.{HeaderPlan}
use Rattle.read_plan.specs.declared.header.NumberRow.{NumberRow}
use Rattle.read_plan.proofs.Rows.{IsOption, IsRow, OptionTells, by_struct, if_not, if_so, labels_tell, leading, or_false, row_fields}
use Rattle.read_plan.proofs.Values.{AreFor, AreNumbers, NoneWithin, OnGot, as_field, field_number, first_found, first_value, is_called, last_found, last_value, members_of, members_read, nearest_value, numbers_tell, opened, or_fields, or_none, told_by, told_id, told_tag, told_timestamp, told_type, values_for, values_read}

-- ---- what is found in a structure, and in a chosen field

last_struct : (d : ℕ) (names : List Text) (text : Text) (ms : List Member) → last_in (suc d) names text (field.Struct ms) ≡ last_member (last_in d names text) names text ms
unfolding last_in roll-Field out-Field denote.Hole.Carrier.roll
last_struct d names text ms = ap (last_by (last_in d names text) names text) (out-roll-Field (Field-F.Struct ms))

pub first_struct : (d : ℕ) (names : List Text) (text : Text) (ms : List Member) → first_in (suc d) names text (field.Struct ms) ≡ first_member (first_in d names text) names text ms
unfolding first_in roll-Field out-Field denote.Hole.Carrier.roll
first_struct d names text ms = ap (first_by (first_in d names text) names text) (out-roll-Field (Field-F.Struct ms))

last_choice : (d : ℕ) (names : List Text) (text : Text) (name : ℕ) (f : Field) → last_in (suc d) names text (field.Choice name f) ≡ last_at (last_in d names text) names text name f
unfolding last_in Rattle.ctf_fields.specs.declared.field.Field.TheViews.out-Field denote.Hole.Carrier.out Rattle.ctf_fields.specs.declared.field.Field.TheBlock.shown-the_row-Field-1 denote.Hole.Carrier.shown denote.Hole.Carrier.hidden
last_choice d names text name f = refl

first_choice : (d : ℕ) (names : List Text) (text : Text) (name : ℕ) (f : Field) → first_in (suc d) names text (field.Choice name f) ≡ first_at (first_in d names text) names text name f
unfolding first_in Rattle.ctf_fields.specs.declared.field.Field.TheViews.out-Field denote.Hole.Carrier.out Rattle.ctf_fields.specs.declared.field.Field.TheBlock.shown-the_row-Field-1 denote.Hole.Carrier.shown denote.Hole.Carrier.hidden
first_choice d names text name f = refl

no_last : (d : ℕ) (names : List Text) (text : Text) → NoneWithin (last_in d names text)
no_last d names text = λ ty z. none_last d names text (field.Int ty z) ty z refl

no_first : (d : ℕ) (names : List Text) (text : Text) → NoneWithin (first_in d names text)
no_first d names text = λ ty z. none_first d names text (field.Int ty z) ty z refl

-- ---- one more member

or_assoc : {A : Type 0} (a b c : Option A) → or_else (or_else a b) c ≡ or_else a (or_else b c)
or_assoc (Some x) b c = refl
or_assoc None b c = refl

last_push : (inner : Within) (names : List Text) (text : Text) (ms : List Member) (m : Member) → last_member inner names text (ms ++ m ∷ []) ≡ or_else (last_at inner names text m.name m.field) (last_member inner names text ms)
last_push inner names text [] m = sym (or_none (last_at inner names text m.name m.field))
last_push inner names text (n ∷ ms) m =
    ap (λ o. or_else o (last_at inner names text n.name n.field)) (last_push inner names text ms m)
    ∙ or_assoc (last_at inner names text m.name m.field) (last_member inner names text ms) (last_at inner names text n.name n.field)

first_push : (inner : Within) (names : List Text) (text : Text) (ms : List Member) (m : Member) → first_member inner names text (ms ++ m ∷ []) ≡ or_else (first_member inner names text ms) (first_at inner names text m.name m.field)
first_push inner names text [] m = or_none (first_at inner names text m.name m.field)
first_push inner names text (n ∷ ms) m =
    ap (or_else (first_at inner names text n.name n.field)) (first_push inner names text ms m)
    ∙ sym (or_assoc (first_at inner names text n.name n.field) (first_member inner names text ms) (first_at inner names text m.name m.field))

-- a field that isn't called so
last_other : (inner : Within) (names : List Text) (text : Text) (name : ℕ) (f : Field) → is_called names text name ≡ false → last_at inner names text name f ≡ inner f
last_other inner names text name f e = ap (λ b. or_else (inner f) (if b then Some f else None)) e ∙ or_none (inner f)

first_other : (inner : Within) (names : List Text) (text : Text) (name : ℕ) (f : Field) → is_called names text name ≡ false → first_at inner names text name f ≡ inner f
first_other inner names text name f e = ap (λ b. if b then Some f else inner f) e

-- ---- what is found in a header

-- a header of numbers alone
last_in_row : (d : ℕ) (names : List Text) (text : Text) (fs : List FieldMeta) (zs : List ℤ) → last_in (suc d) names text (field.Struct (members_of fs zs)) ≡ as_field (last_value (is_called names text) fs zs)
last_in_row d names text fs zs = last_struct d names text (members_of fs zs) ∙ last_found (last_in d names text) names text fs zs (no_last d names text)

first_in_row : (d : ℕ) (names : List Text) (text : Text) (fs : List FieldMeta) (zs : List ℤ) → first_in (suc d) names text (field.Struct (members_of fs zs)) ≡ as_field (first_value (is_called names text) fs zs)
first_in_row d names text fs zs = first_struct d names text (members_of fs zs) ∙ first_found (first_in d names text) names text fs zs (no_first d names text)

-- a variant of a structure of numbers
abbrev variant_of : ℕ → ℕ → List FieldMeta → List ℤ → Member
variant_of v o gs ys = record { name = v; field = field.Choice o (field.Struct (members_of gs ys)) }

last_in_variant : (d : ℕ) (names : List Text) (text : Text) (v o : ℕ) (gs : List FieldMeta) (ys : List ℤ) → is_called names text v ≡ false → is_called names text o ≡ false
    → last_at (last_in (suc (suc d)) names text) names text v (field.Choice o (field.Struct (members_of gs ys))) ≡ as_field (last_value (is_called names text) gs ys)
last_in_variant d names text v o gs ys not_v not_o =
    last_other (last_in (suc (suc d)) names text) names text v (field.Choice o (field.Struct (members_of gs ys))) not_v
    ∙ last_choice (suc d) names text o (field.Struct (members_of gs ys))
    ∙ last_other (last_in (suc d) names text) names text o (field.Struct (members_of gs ys)) not_o
    ∙ last_in_row d names text gs ys

first_in_variant : (d : ℕ) (names : List Text) (text : Text) (v o : ℕ) (gs : List FieldMeta) (ys : List ℤ) → is_called names text v ≡ false → is_called names text o ≡ false
    → first_at (first_in (suc (suc d)) names text) names text v (field.Choice o (field.Struct (members_of gs ys))) ≡ as_field (first_value (is_called names text) gs ys)
first_in_variant d names text v o gs ys not_v not_o =
    first_other (first_in (suc (suc d)) names text) names text v (field.Choice o (field.Struct (members_of gs ys))) not_v
    ∙ first_choice (suc d) names text o (field.Struct (members_of gs ys))
    ∙ first_other (first_in (suc d) names text) names text o (field.Struct (members_of gs ys)) not_o
    ∙ first_in_row d names text gs ys

-- numbers, and behind them a variant
last_in_whole : (d : ℕ) (names : List Text) (text : Text) (fs : List FieldMeta) (zs : List ℤ) (v o : ℕ) (gs : List FieldMeta) (ys : List ℤ) → is_called names text v ≡ false → is_called names text o ≡ false
    → last_in (suc (suc (suc d))) names text (field.Struct (members_of fs zs ++ variant_of v o gs ys ∷ [])) ≡ as_field (or_else (last_value (is_called names text) gs ys) (last_value (is_called names text) fs zs))
last_in_whole d names text fs zs v o gs ys not_v not_o =
    last_struct (suc (suc d)) names text (members_of fs zs ++ variant_of v o gs ys ∷ [])
    ∙ last_push (last_in (suc (suc d)) names text) names text (members_of fs zs) (variant_of v o gs ys)
    ∙ ap₂ or_else (last_in_variant d names text v o gs ys not_v not_o) (last_found (last_in (suc (suc d)) names text) names text fs zs (no_last (suc (suc d)) names text))
    ∙ or_fields (last_value (is_called names text) gs ys) (last_value (is_called names text) fs zs)

first_in_whole : (d : ℕ) (names : List Text) (text : Text) (fs : List FieldMeta) (zs : List ℤ) (v o : ℕ) (gs : List FieldMeta) (ys : List ℤ) → is_called names text v ≡ false → is_called names text o ≡ false
    → first_in (suc (suc (suc d))) names text (field.Struct (members_of fs zs ++ variant_of v o gs ys ∷ [])) ≡ as_field (or_else (first_value (is_called names text) fs zs) (first_value (is_called names text) gs ys))
first_in_whole d names text fs zs v o gs ys not_v not_o =
    first_struct (suc (suc d)) names text (members_of fs zs ++ variant_of v o gs ys ∷ [])
    ∙ first_push (first_in (suc (suc d)) names text) names text (members_of fs zs) (variant_of v o gs ys)
    ∙ ap₂ or_else (first_found (first_in (suc (suc d)) names text) names text fs zs (no_first (suc (suc d)) names text)) (first_in_variant d names text v o gs ys not_v not_o)
    ∙ or_fields (first_value (is_called names text) fs zs) (first_value (is_called names text) gs ys)

-- ---- headers of numbers alone

-- what numbers tell is what is found
row_tells : (t : Table) (fs : List FieldMeta) (ns : List HeaderNumber) (x : Reads (List ℤ)) → AreNumbers t None fs ns
    → Tells t.names (as_read (λ zs. field.Struct (members_of fs zs)) x) (then_read (as_read (λ zs. told_by ns zs no_numbers) x) Got)
row_tells t fs ns (Fails cause) all = refl
row_tells t fs ns (Got zs bit) all = (
  refl,
  told_id t None zs no_numbers all ∙ or_none (last_value (is_id t) fs zs) ∙ sym (ap number_of (last_in_row 31 t.names (codes "id") fs zs) ∙ field_number (last_value (is_id t) fs zs)),
  told_timestamp t None zs no_numbers all ∙ sym (ap number_of (first_in_row 31 t.names (codes "timestamp") fs zs) ∙ field_number (first_value (is_timestamp t) fs zs)),
)

numbers_plan : (from : SourceModel) (ty at : ℕ) (row : NumberRow) → IsRow from.table (slice_get from.table.types ty) row → Tells from.table.names (scope_read from ty at) (header_read from.bytes from.end (record { first = row; options = None }) at)
numbers_plan from ty at row r =
    subst₂ (Tells from.table.names) (sym (row_fields from MAX_TYPE_DEPTH None ty row [] at (omega arith) r))
    (ap (λ x. then_read x (behind_row from.bytes from.end None)) (sym (numbers_tell from.bytes from.end row.numbers no_numbers (next_multiple_of at row.align))))
    (row_tells from.table r.fields row.numbers (values_read from.bytes from.end row.numbers (next_multiple_of at row.align)) r.numbers)

-- ---- headers with a variant

-- fields after others
members_after : (inner : Inner) (fs gs : List FieldMeta) (around : List OpenStruct) (at : ℕ) → read_members inner (fs ++ gs) around at ≡ then_read (read_members inner fs around at) (read_members inner gs)
members_after inner [] gs around at = refl
members_after inner (f ∷ fs) gs around at = by (λ a bit. members_after inner fs gs a bit) (read_member inner f around at)
  where
    by : ((a : List OpenStruct) (bit : ℕ) → read_members inner (fs ++ gs) a bit ≡ then_read (read_members inner fs a bit) (read_members inner gs)) → (x : Reads (List OpenStruct))
        → then_read x (read_members inner (fs ++ gs)) ≡ then_read (then_read x (read_members inner fs)) (read_members inner gs)
    by rest (Got a bit) = rest a bit
    by rest (Fails cause) = refl

-- a number of a type that is known
of_type : (o : Option (ℤ × ℕ)) (ty : ℕ) → option_map (λ r. r.1) o ≡ Some ty → (z : ℤ) × (o ≡ Some (z, ty))
of_type None ty e = absurd (cc)
of_type (Some r) ty e = let same : r.1 ≡ ty = cc in (r.0, ap (λ k. Some (r.0, k)) same)

-- a header whose last field is a variant whose tag is one of the numbers before it
record HasVariant (from : SourceModel) (ty align : ℕ) (ns : List HeaderNumber) (os : List HeaderOption) : Type 0 where
  fields : List FieldMeta
  last : FieldMeta
  tag : Reference
  options : List FieldMeta
  name : ℕ
  number : ℕ
  is : slice_get from.table.types ty ≡ Some (meta.Struct align (fields ++ last ∷ []))
  variant : slice_get from.table.types last.ty ≡ Some (meta.Variant tag options)
  no_id : is_id from.table last.name ≡ false
  no_timestamp : is_timestamp from.table last.name ≡ false
  here : tag.scope ≡ None
  word : tag.words ≡ name ∷ []
  numbers : AreNumbers from.table (Some name) fields ns
  type : tag_type ns ≡ Some number
  chooses : options_of from.table options (labels_in (slice_get from.table.types number)) ≡ Some os

by_variant : (inner : Inner) (from : SourceModel) (name : Option ℕ) (ty : ℕ) (tag : Reference) (fs : List FieldMeta) (around : List OpenStruct) (at : ℕ) → read_by inner from name ty (Some (meta.Variant tag fs)) around at ≡ read_choice inner (chosen from.table (number_at from around tag) fs) around at
unfolding read_by
by_variant inner from name ty tag fs around at = refl

-- a variant as the last field is read as the field that its tag chooses
variant_read : (from : SourceModel) (last : FieldMeta) (tag : Reference) (options : List FieldMeta) (around : List OpenStruct) (at : ℕ) → slice_get from.table.types last.ty ≡ Some (meta.Variant tag options)
    → read_member (read 31 from) last around at ≡ as_read (λ g. with_member (record { name = last.name; field = g }) around) (read_choice (read 30 from) (chosen from.table (number_at from around tag) options) around at)
variant_read from last tag options around at is =
    ap (as_read (λ g. with_member (record { name = last.name; field = g }) around)) (one_deeper 31 from (Some last.name) last.ty (meta.Variant tag options) around at (omega arith) is ∙ by_variant (read 30 from) from (Some last.name) last.ty tag options around at)

-- a tag of one word is the nearest number of that name
tag_number : (from : SourceModel) (fs : List FieldMeta) (zs : List ℤ) (tag : Reference) (name : ℕ) → tag.scope ≡ None → tag.words ≡ name ∷ [] → number_at from (opened None (members_of fs zs) []) tag ≡ last_value (same from.table.names name) fs zs
tag_number from fs zs tag name here word =
    ap (λ s. number_of (field_by from.table.names from.scopes (opened None (members_of fs zs) []) s tag.words)) here
    ∙ ap (λ ws. number_of (field_by from.table.names from.scopes (opened None (members_of fs zs) []) None ws)) word
    ∙ ap number_of (or_none (nearest from.table.names name (members_of fs zs)) ∙ nearest_value from.table.names name fs zs)
    ∙ field_number (last_value (same from.table.names name) fs zs)

-- what the numbers and the chosen structure tell is what is found
variant_tells : (t : Table) (tag : Option ℕ) (fs : List FieldMeta) (ns : List HeaderNumber) (zs : List ℤ) (v : ℕ) (x : Reads Field) (y : Reads HeaderNumbers) → AreNumbers t tag fs ns → is_id t v ≡ false → is_timestamp t v ≡ false → OptionTells t (told_by ns zs no_numbers) x y
    → Tells t.names (as_read (λ whole. field.Struct (fields_of whole)) (then_read (as_read (λ g. with_member (record { name = v; field = g }) (opened None (members_of fs zs) [])) x) (λ a bit. Got a bit))) y
variant_tells t tag fs ns zs v (Fails cause) (Fails other) all no_id no_timestamp h = h
variant_tells t tag fs ns zs v (Got g bit) (Fails other) all no_id no_timestamp h = absurd h
variant_tells t tag fs ns zs v (Fails cause) (Got told to) all no_id no_timestamp h = absurd h
variant_tells t tag fs ns zs v (Got g bit) (Got told to) all no_id no_timestamp h =
    let o : IsOption t (told_by ns zs no_numbers) g told = h.1 in (
      h.0,
      ap (λ n. n.id) o.tells
          ∙ told_id t None o.values (told_by ns zs no_numbers) o.all
          ∙ ap (or_else (last_value (is_id t) o.fields o.values)) (told_id t tag zs no_numbers all ∙ or_none (last_value (is_id t) fs zs))
          ∙ sym (ap (λ f. number_of (last_in 32 t.names (codes "id") (field.Struct (members_of fs zs ++ record { name = v; field = f } ∷ [])))) o.is
          ∙ ap number_of (last_in_whole 29 t.names (codes "id") fs zs v o.name o.fields o.values no_id o.no_id)
          ∙ field_number (or_else (last_value (is_id t) o.fields o.values) (last_value (is_id t) fs zs))),
      ap (λ n. n.timestamp) o.tells
          ∙ told_timestamp t None o.values (told_by ns zs no_numbers) o.all
          ∙ ap (λ s. or_else s (first_value (is_timestamp t) o.fields o.values)) (told_timestamp t tag zs no_numbers all)
          ∙ sym (ap (λ f. number_of (first_in 32 t.names (codes "timestamp") (field.Struct (members_of fs zs ++ record { name = v; field = f } ∷ [])))) o.is
          ∙ ap number_of (first_in_whole 29 t.names (codes "timestamp") fs zs v o.name o.fields o.values no_timestamp o.no_timestamp)
          ∙ field_number (or_else (first_value (is_timestamp t) fs zs) (first_value (is_timestamp t) o.fields o.values))),
    )

variant_plan : (from : SourceModel) (ty at align : ℕ) (ns : List HeaderNumber) (os : List HeaderOption) → HasVariant from ty align ns os
    → Tells from.table.names (scope_read from ty at) (header_read from.bytes from.end (record { first = record { align = align; numbers = ns }; options = Some os }) at)
variant_plan from ty at align ns os v =
    subst₂ (Tells from.table.names) (sym whole) (ap (λ x. then_read x (behind_row from.bytes from.end (Some os))) (sym (numbers_tell from.bytes from.end ns no_numbers (next_multiple_of at align))))
    (by (values_read from.bytes from.end ns (next_multiple_of at align)) (values_for from.bytes from.end ns (next_multiple_of at align)))
  where
    whole : scope_read from ty at ≡ as_read (λ all. field.Struct (fields_of all)) (then_read (as_read (λ zs. opened None (members_of v.fields zs) []) (values_read from.bytes from.end ns (next_multiple_of at align))) (read_members (read 31 from) (v.last ∷ [])))
    whole =
        one_deeper MAX_TYPE_DEPTH from None ty (meta.Struct align (v.fields ++ v.last ∷ [])) [] at (omega arith) v.is
        ∙ by_struct (read 31 from) from None ty align (v.fields ++ v.last ∷ []) [] at
        ∙ ap (as_read (λ all. field.Struct (fields_of all))) (members_after (read 31 from) v.fields (v.last ∷ []) (opened None [] []) (next_multiple_of at align)
        ∙ ap (λ r. then_read r (read_members (read 31 from) (v.last ∷ []))) (members_read from 31 None [] (Some v.name) [] (next_multiple_of at align) (omega arith) v.numbers))

    behind : (zs : List ℤ) (bit : ℕ) → AreFor ns zs
        → Tells from.table.names (as_read (λ all. field.Struct (fields_of all)) (then_read (read_member (read 31 from) v.last (opened None (members_of v.fields zs) []) bit) (λ a end. Got a end))) (option_by from.bytes from.end os (told_by ns zs no_numbers).tag (told_by ns zs no_numbers) bit)
    behind zs bit all =
        let n = of_type (last_value (same from.table.names v.name) v.fields zs) v.number (told_type from.table v.name zs v.numbers all ∙ v.type) in
        let tag : (told_by ns zs no_numbers).tag ≡ Some n.0 = told_tag from.table v.name zs no_numbers v.numbers ∙ or_none (option_map (λ r. r.0) (last_value (same from.table.names v.name) v.fields zs)) ∙ ap (option_map (λ r. r.0)) n.1 in
        let got : read_member (read 31 from) v.last (opened None (members_of v.fields zs) []) bit
        ≡ as_read (λ g. with_member (record { name = v.last.name; field = g }) (opened None (members_of v.fields zs) [])) (read_choice (read 30 from) (by_labels from.table.names n.0 (labels_in (slice_get from.table.types v.number)) v.options) (opened None (members_of v.fields zs) []) bit)
        = variant_read from v.last v.tag v.options (opened None (members_of v.fields zs) []) bit v.variant
        ∙ ap (λ k. as_read (λ g. with_member (record { name = v.last.name; field = g }) (opened None (members_of v.fields zs) [])) (read_choice (read 30 from) (chosen from.table k v.options) (opened None (members_of v.fields zs) []) bit)) (tag_number from v.fields zs v.tag v.name v.here v.word ∙ n.1) in
        subst₂ (λ r k. Tells from.table.names (as_read (λ all. field.Struct (fields_of all)) (then_read r (λ a end. Got a end))) (option_by from.bytes from.end os k (told_by ns zs no_numbers) bit)) (sym got) (sym tag)
        (variant_tells from.table (Some v.name) v.fields ns zs v.last.name _ _ v.numbers v.no_id v.no_timestamp
        (labels_tell from 30 (told_by ns zs no_numbers) (opened None (members_of v.fields zs) []) bit n.0 (omega arith) v.options (labels_in (slice_get from.table.types v.number)) os v.chooses))

    by : (x : Reads (List ℤ)) → OnGot x (AreFor ns)
        → Tells from.table.names (as_read (λ all. field.Struct (fields_of all)) (then_read (as_read (λ zs. opened None (members_of v.fields zs) []) x) (read_members (read 31 from) (v.last ∷ [])))) (then_read (as_read (λ zs. told_by ns zs no_numbers) x) (behind_row from.bytes from.end (Some os)))
    by (Got zs bit) all = behind zs bit all
    by (Fails cause) all = refl

-- ---- the plan of a type

module _ (from : SourceModel) (ty at : ℕ) (plan : HeaderPlan) where
  abbrev ReadsBy : HeaderPlan → Type 0
  ReadsBy p = Tells from.table.names (scope_read from ty at) (header_read from.bytes from.end p at)

  -- numbers alone
  no_variant : (align : ℕ) (fs : List FieldMeta) → slice_get from.table.types ty ≡ Some (meta.Struct align fs) → behind_numbers from.table fs ≡ [] → ReadsBy (record { first = record { align = align; numbers = leading_numbers from.table None fs }; options = None })
  no_variant align fs is none =
      let lead = leading from.table None fs in
      let whole : fs ≡ lead.front = lead.whole ∙ ap (λ xs. lead.front ++ xs) none ∙ append-nil lead.front in
      numbers_plan from ty at (record { align = align; numbers = leading_numbers from.table None fs }) (record { fields = fs; numbers = subst (λ xs. AreNumbers from.table None xs (leading_numbers from.table None fs)) (sym whole) lead.numbers; is = is })

  -- numbers, and a variant behind them
  module _ (align : ℕ) (fs : List FieldMeta) (is : slice_get from.table.types ty ≡ Some (meta.Struct align fs)) (last : FieldMeta) (alone : behind_numbers from.table fs ≡ last ∷ []) (tag : Reference) (options : List FieldMeta)
      (variant : slice_get from.table.types last.ty ≡ Some (meta.Variant tag options)) (no_id : is_id from.table last.name ≡ false) (no_timestamp : is_timestamp from.table last.name ≡ false) where
    chosen_options : (name number : ℕ) (o : Option (List HeaderOption)) → tag.scope ≡ None → tag.words ≡ name ∷ [] → tag_type (leading_numbers from.table (Some name) fs) ≡ Some number → options_of from.table options (labels_in (slice_get from.table.types number)) ≡ o
        → option_map (λ os. record { first = record { align = align; numbers = leading_numbers from.table (Some name) fs }; options = Some os }) o ≡ Some plan → ReadsBy plan
    chosen_options name number None here word type chooses e = absurd (cc)
    chosen_options name number (Some os) here word type chooses e =
        let lead = leading from.table (Some name) fs in
        let whole : fs ≡ lead.front ++ last ∷ [] = lead.whole ∙ ap (λ xs. lead.front ++ xs) alone in
        let same : Path HeaderPlan (record { first = record { align = align; numbers = leading_numbers from.table (Some name) fs }; options = Some os }) plan = cc in
        subst ReadsBy same (variant_plan from ty at align (leading_numbers from.table (Some name) fs) os (record {
          fields = lead.front;
          last = last;
          tag = tag;
          options = options;
          name = name;
          number = number;
          is = is ∙ ap (λ xs. Some (meta.Struct align xs)) whole;
          variant = variant;
          no_id = no_id;
          no_timestamp = no_timestamp;
          here = here;
          word = word;
          numbers = lead.numbers;
          type = type;
          chooses = chooses;
        }))

    of_tag : (name : ℕ) (o : Option ℕ) → tag.scope ≡ None → tag.words ≡ name ∷ [] → tag_type (leading_numbers from.table (Some name) fs) ≡ o → planned_tag from.table align (leading_numbers from.table (Some name) fs) options o ≡ Some plan → ReadsBy plan
    of_tag name None here word type e = absurd (cc)
    of_tag name (Some number) here word type e =
        let labels = labels_in (slice_get from.table.types number) in
        let tests = if_so (nat_le (length options) MAX_PLANNED && nat_le (length labels) MAX_PLANNED) (option_map (λ os. record { first = record { align = align; numbers = leading_numbers from.table (Some name) fs }; options = Some os }) (options_of from.table options labels)) plan e in
        chosen_options name number (options_of from.table options labels) here word type refl tests.1

    of_words : (scope : Option ScopeName) (words : List ℕ) → tag.scope ≡ scope → tag.words ≡ words → planned_variant from.table align fs scope words options ≡ Some plan → ReadsBy plan
    of_words None (name ∷ []) here word e = of_tag name (tag_type (leading_numbers from.table (Some name) fs)) here word refl e
    of_words None [] here word e = absurd (cc)
    of_words None (name ∷ other ∷ more) here word e = absurd (cc)
    of_words (Some scope) words here word e = absurd (cc)

  of_last : (align : ℕ) (fs : List FieldMeta) (last : FieldMeta) (m : Option TypeMeta) → slice_get from.table.types ty ≡ Some (meta.Struct align fs) → behind_numbers from.table fs ≡ last ∷ [] → slice_get from.table.types last.ty ≡ m → planned_last from.table align fs last.name m ≡ Some plan → ReadsBy plan
  of_last align fs last (Some (meta.Variant tag options)) is alone there e =
      let tests = if_not (is_id from.table last.name || is_timestamp from.table last.name) (planned_variant from.table align fs tag.scope tag.words options) plan e in
      let names = or_false (is_id from.table last.name) (is_timestamp from.table last.name) tests.0 in
      of_words align fs is last alone tag options there names.0 names.1 tag.scope tag.words refl refl tests.1
  of_last align fs last None is alone there e = absurd (cc)
  of_last align fs last (Some (meta.Integer integer)) is alone there e = absurd (cc)
  of_last align fs last (Some (meta.Enum base labels)) is alone there e = absurd (cc)
  of_last align fs last (Some meta.Str) is alone there e = absurd (cc)
  of_last align fs last (Some (meta.Struct a gs)) is alone there e = absurd (cc)
  of_last align fs last (Some (meta.Array count item)) is alone there e = absurd (cc)
  of_last align fs last (Some (meta.Sequence count item)) is alone there e = absurd (cc)

  of_behind : (align : ℕ) (fs more : List FieldMeta) → slice_get from.table.types ty ≡ Some (meta.Struct align fs) → behind_numbers from.table fs ≡ more → planned_behind from.table align fs more ≡ Some plan → ReadsBy plan
  of_behind align fs [] is left e =
      let same : Path HeaderPlan (record { first = record { align = align; numbers = leading_numbers from.table None fs }; options = None }) plan = cc in
      subst ReadsBy same (no_variant align fs is left)
  of_behind align fs (last ∷ []) is left e = of_last align fs last (slice_get from.table.types last.ty) is left refl e
  of_behind align fs (last ∷ other ∷ more) is left e = absurd (cc)

  of_type_meta : (m : Option TypeMeta) → slice_get from.table.types ty ≡ m → planned_by from.table m ≡ Some plan → ReadsBy plan
  of_type_meta (Some (meta.Struct align fs)) is e =
      let tests = if_so (nat_le (length fs) MAX_PLANNED) (planned_behind from.table align fs (behind_numbers from.table fs)) plan e in
      of_behind align fs (behind_numbers from.table fs) is refl tests.1
  of_type_meta None is e = absurd (cc)
  of_type_meta (Some (meta.Integer integer)) is e = absurd (cc)
  of_type_meta (Some (meta.Enum base labels)) is e = absurd (cc)
  of_type_meta (Some meta.Str) is e = absurd (cc)
  of_type_meta (Some (meta.Variant tag fs)) is e = absurd (cc)
  of_type_meta (Some (meta.Array count item)) is e = absurd (cc)
  of_type_meta (Some (meta.Sequence count item)) is e = absurd (cc)

-- headers of a type are read by its plan
pub plan_is_for : (t : Table) (ty : ℕ) (plan : HeaderPlan) → header_plan t ty ≡ Some plan → IsPlanFor t ty plan
plan_is_for t ty plan e = λ bytes end scopes at. of_type_meta (record { table = t; bytes = bytes; end = end; scopes = scopes }) ty at plan (slice_get t.types ty) refl e

-- what a call answers that gives the plan of a type
pub answer_is_for : (t : Table) (ty : ℕ) (r : Result (Option HeaderPlan) OutOfMemory) → IfOk r (λ plan. plan ≡ header_plan t ty) → IfOk r (λ plan. IfSome plan (IsPlanFor t ty))
answer_is_for t ty (Err e) h = tt
answer_is_for t ty (Ok None) h = tt
answer_is_for t ty (Ok (Some plan)) h = plan_is_for t ty plan (sym h)
