-- Contexts are read by their plans as by their types.
use Rattle.std.proofs.Common.{◌≡◌, ◌∙◌, ℕ, ℤ, zero, suc, ◌+◌, ◌-◌, ◌%◌, ◌<◌, ◌≤◌, ◌&&◌, ◌||◌, ◌⊎◌, inl, inr, nat_eq, nat_le, Bool, true, false, is_some, List, [], ◌∷◌, ◌++◌, append_assoc, append-nil, length, length-append, Option, Some, None, option_map, slice_get, codes, if◌then◌else◌, refl, sym, ap, subst, arith}
use Rattle.std.proofs.lemmas.Bool.{eqb-true, leb-true, leb-false}
use Rattle.std.specs.Option.{option_and_then}
use Rattle.bit_reader.specs.Bits.{integer}
use Rattle.type_table.specs.Names.{same_name}
use Rattle.type_table.specs.Table.{IsSoundTable, Table, name_at}
use Rattle.type_table.specs.Types.{Text}
use Rattle.type_table.specs.declared.integer.Integer.{Integer}
use Rattle.type_table.specs.declared.meta.FieldMeta.{FieldMeta}
use Rattle.type_table.specs.declared.meta.TypeMeta.{TypeMeta}
use Rattle.type_table.specs.declared.meta.TypeMeta.TheVariants as meta
use Rattle.ctf_fields.specs.Fields.{Scopes, fields_of, number_in, number_of, or_else, with_member}
use Rattle.ctf_fields.specs.Leaves.{integer_at, integer_read, value_of}
use Rattle.ctf_fields.specs.Named.{first_in, first_member}
use Rattle.ctf_fields.specs.Reading.{Fails, Got, MAX_TYPE_DEPTH, Reads, SourceModel, as_read, integer_type, leaf, read, read_member, read_members, read_number, scope_read, then_read}
use Rattle.ctf_fields.specs.Values.{number_named}
use Rattle.ctf_fields.specs.declared.error.FieldError.TheVariants.{ShortContent, NoVariant, TooLong, OutOfMemory}
use Rattle.ctf_fields.specs.declared.field.Field.{Field}
use Rattle.ctf_fields.specs.declared.field.Field.TheOpen.{Field-F}
use Rattle.ctf_fields.specs.declared.field.Field.TheVariants as field
use Rattle.ctf_fields.specs.declared.field.Field.TheViews.{out-Field, out-roll-Field, roll-Field}
use Rattle.ctf_fields.specs.declared.field.Member.{Member}
use Rattle.ctf_fields.specs.declared.open_struct.OpenStruct.{OpenStruct}
use Rattle.ctf_fields.proofs.Chosen.{none_first}
use Rattle.ctf_fields.proofs.Integers.{number_read, same_type}
use Rattle.ctf_fields.proofs.Steps.{one_deeper}
use Rattle.read_plan.specs.Contexts.{AreContextPlans, IsContextPlan, IsPlaced, IsReadableContext, TellsNumbers, context_numbers, context_plan, context_plans, context_read, leaf_by, leaf_size, leaves_size, number_there, numbers_there, placed, placed_number, plan_at, plan_of_fields, planned_context, plans_of_first, tells_size, with_leaf}
use Rattle.read_plan.specs.FixedSizes.{no_size, number_size, within_byte}
use Rattle.read_plan.specs.declared.context.ContextPlan.{ContextPlan}
use Rattle.read_plan.specs.declared.context.PlacedNumber.{PlacedNumber}
use Rattle.read_plan.specs.declared.fixed.FixedSize.{FixedSize}
use Rattle.read_plan.proofs.Passing.{at_last, both, if_so, reach, some_of, there}
use Rattle.read_plan.proofs.Planned.{first_struct}
use Rattle.read_plan.proofs.Plans.{bits_of, one_leaf}
use Rattle.read_plan.proofs.Readable.{readable}
use Rattle.read_plan.proofs.Rows.{by_struct}
use Rattle.read_plan.proofs.Values.{opened}

-- ---- fields that a plan counts

-- an integer of whole bytes
record IsWhole (i : Integer) (s : FixedSize) : Type 0 where
  size : i.size ≡ s.bits
  some : 1 ≤ s.bits
  bytes : s.bits % 8 ≡ 0
  aligned : within_byte i.align ≡ true

is_whole : (i : Integer) (s : FixedSize) → number_size i ≡ Some s → IsWhole i s
is_whole i s e =
    let made : FixedSize = record { bits = i.size; depth = 1 } in
    let tests = if_so (nat_le 1 i.size && nat_eq (i.size % 8) 0 && within_byte i.align) (Some made) s e in
    let first = both (nat_le 1 i.size && nat_eq (i.size % 8) 0) (within_byte i.align) tests.0 in
    let second = both (nat_le 1 i.size) (nat_eq (i.size % 8) 0) first.0 in
    let some = leb-true 1 i.size second.0 in
    let bytes = eqb-true (i.size % 8) 0 second.1 in
    let same : made ≡ s = cc (tests.1) in
    let size : i.size ≡ s.bits = ap (λ f. f.bits) same in
    record { size = size; some = omega (arith, some, size); bytes = ap (λ n. n % 8) (sym size) ∙ bytes; aligned = first.1 }

-- a number, or a structure without fields
data IsLeaf (t : Table) (ty : ℕ) (s : FixedSize) : Type 0 where
  a_number : (i : Integer) → integer_type t ty ≡ Some i → IsWhole i s → IsLeaf t ty s
  nothing : (align : ℕ) → slice_get t.types ty ≡ Some (meta.Struct align []) → within_byte align ≡ true → s.bits ≡ 0 → IsLeaf t ty s

is_leaf : (t : Table) (ty : ℕ) (s : FixedSize) → leaf_size t ty ≡ Some s → IsLeaf t ty s
is_leaf t ty s e = by (slice_get t.types ty) refl e
  where
    number : option_and_then number_size (integer_type t ty) ≡ Some s → IsLeaf t ty s
    number e = let one = some_of number_size (integer_type t ty) s e in a_number one.0 one.1 (is_whole one.0 s one.2)

    by : (m : Option TypeMeta) → slice_get t.types ty ≡ m → leaf_by t ty m ≡ Some s → IsLeaf t ty s
    by None is e = number e
    by (Some (meta.Struct align [])) is e =
        let tests = if_so (within_byte align) (Some no_size) s e in
        let same : no_size ≡ s = cc (tests.1) in
        nothing align is tests.0 (ap (λ f. f.bits) (sym same))
    by (Some (meta.Struct align (f ∷ fs))) is e = number e
    by (Some (meta.Integer integer)) is e = number e
    by (Some (meta.Enum base labels)) is e = number e
    by (Some meta.Str) is e = number e
    by (Some (meta.Variant tag fs)) is e = number e
    by (Some (meta.Array count item)) is e = number e
    by (Some (meta.Sequence count item)) is e = number e

-- it takes whole bytes
leaf_bytes : (t : Table) (ty : ℕ) (s : FixedSize) → IsLeaf t ty s → s.bits % 8 ≡ 0
leaf_bytes t ty s (a_number i found whole) = whole.bytes
leaf_bytes t ty s (nothing align found aligned none) = ap (λ n. n % 8) none

no_integer : (t : Table) (ty align : ℕ) → slice_get t.types ty ≡ Some (meta.Struct align []) → integer_type t ty ≡ None
no_integer t ty align found = same_type t ty (Some (meta.Struct align [])) found

not_some : (o : Option Integer) → o ≡ None → is_some o ≡ true → ⊥
not_some None e told = absurd (cc)
not_some (Some i) e told = absurd (cc)

-- some bits, where it is a number
leaf_some : (t : Table) (ty : ℕ) (s : FixedSize) → IsLeaf t ty s → is_some (integer_type t ty) ≡ true → 1 ≤ s.bits
leaf_some t ty s (a_number i found whole) e = whole.some
leaf_some t ty s (nothing align found aligned none) e = absurd (not_some (integer_type t ty) (no_integer t ty align found) e)

both_bytes : (a b : ℕ) → a % 8 ≡ 0 → b % 8 ≡ 0 → (a + b) % 8 ≡ 0
both_bytes a b h k = omega (arith, h, k)

-- ---- the numbers that are placed

-- fields take no fewer bits than those before them
no_less : (t : Table) (fs : List FieldMeta) (done total : FixedSize) → leaves_size t done fs ≡ Some total → done.bits ≤ total.bits
no_less t [] done total e = let same : done ≡ total = cc in omega (arith, ap (λ s. s.bits) same)
no_less t (f ∷ fs) done total e =
    let sum = some_of (λ sum. leaves_size t sum fs) (with_leaf t done f.ty) total e in
    let one = one_leaf t done sum.0 f.ty sum.1 in
    omega (arith, one.bits, no_less t fs sum.0 total sum.2)

is_number : (offset ty : ℕ) (o : Option Integer) → is_some (option_map {U = PlacedNumber} (λ i. record { offset = offset; integer = i; ty = ty }) o) ≡ true → is_some o ≡ true
is_number offset ty None e = e
is_number offset ty (Some i) e = refl

-- where a number is placed among fields, they take some bits
some_bits : (t : Table) (text : Text) (fs : List FieldMeta) (done total : FixedSize) → leaves_size t done fs ≡ Some total → is_some (placed t text done.bits fs) ≡ true → 1 ≤ total.bits
some_bits t text [] done total e told = absurd (cc)
some_bits t text (f ∷ fs) done total e told =
    let sum = some_of (λ sum. leaves_size t sum fs) (with_leaf t done f.ty) total e in
    let one = one_leaf t done sum.0 f.ty sum.1 in
    let less = no_less t fs sum.0 total sum.2 in
    let begins : done.bits + bits_of (leaf_size t f.ty) ≡ sum.0.bits = ap (λ o. done.bits + bits_of o) one.its ∙ sym one.bits in
    let here : is_some (integer_type t f.ty) ≡ true → 1 ≤ total.bits = λ h. let some = leaf_some t f.ty one.size (is_leaf t f.ty one.size one.its) h in omega (arith, some, one.bits, less) in
    by t text f fs done sum.0 total (same_name text (name_at t.names f.name)) begins here (some_bits t text fs sum.0 total sum.2) told
  where
    by : (t : Table) (text : Text) (f : FieldMeta) (fs : List FieldMeta) (done sum total : FixedSize) (c : Bool) → done.bits + bits_of (leaf_size t f.ty) ≡ sum.bits
        → (is_some (integer_type t f.ty) ≡ true → 1 ≤ total.bits) → (is_some (placed t text sum.bits fs) ≡ true → 1 ≤ total.bits)
        → is_some (if c then placed_number t done.bits f.ty else placed t text (done.bits + bits_of (leaf_size t f.ty)) fs) ≡ true → 1 ≤ total.bits
    by t text f fs done sum total true begins here later told = here (is_number done.bits f.ty (integer_type t f.ty) told)
    by t text f fs done sum total false begins here later told = later (ap (λ n. is_some (placed t text n fs)) (sym begins) ∙ told)

-- a number that is placed can be read, and lies within what the fields take
all_placed : (t : Table) → IsSoundTable t → (text : Text) (fs : List FieldMeta) (done total : FixedSize) → leaves_size t done fs ≡ Some total → IsPlaced total.bits (placed t text done.bits fs)
all_placed t sound text [] done total e = tt
all_placed t sound text (f ∷ fs) done total e =
    let sum = some_of (λ sum. leaves_size t sum fs) (with_leaf t done f.ty) total e in
    let one = one_leaf t done sum.0 f.ty sum.1 in
    let begins : done.bits + bits_of (leaf_size t f.ty) ≡ sum.0.bits = ap (λ o. done.bits + bits_of o) one.its ∙ sym one.bits in
    by (same_name text (name_at t.names f.name)) (integer_type t f.ty) refl (subst (λ n. IsPlaced total.bits (placed t text n fs)) (sym begins) (all_placed t sound text fs sum.0 total sum.2))
  where
    by : (c : Bool) (o : Option Integer) → integer_type t f.ty ≡ o → IsPlaced total.bits (placed t text (done.bits + bits_of (leaf_size t f.ty)) fs)
        → IsPlaced total.bits (if c then option_map {U = PlacedNumber} (λ i. record { offset = done.bits; integer = i; ty = f.ty }) o else placed t text (done.bits + bits_of (leaf_size t f.ty)) fs)
    by true None is later = tt
    by true (Some i) is later = (readable t sound f.ty i is, no_less t (f ∷ fs) done total e)
    by false o is later = later

-- ---- one after the other

-- what is read takes so many bits from here and is so, or the content is too short
abbrev ReadsSo : {A : Type 0} → (A → Type 0) → Reads A → ℕ → ℕ → ℕ → Type 0
ReadsSo P (Got a bit) at n end = P a × (bit ≡ at + n) × (1 ≤ n → at + n ≤ end)
ReadsSo P (Fails ShortContent) at n end = (1 ≤ n) × (end < at + n)
ReadsSo P (Fails NoVariant) at n end = ⊥
ReadsSo P (Fails TooLong) at n end = ⊥
ReadsSo P (Fails OutOfMemory) at n end = ⊥

reads_as : {A B : Type 0} (f : A → B) (P : A → Type 0) (Q : B → Type 0) (x : Reads A) (at n end : ℕ) → ((a : A) → P a → Q (f a)) → ReadsSo P x at n end → ReadsSo Q (as_read f x) at n end
reads_as f P Q (Got a bit) at n end so h = (so a h.0, h.1, h.2)
reads_as f P Q (Fails ShortContent) at n end so h = h
reads_as f P Q (Fails NoVariant) at n end so h = absurd h
reads_as f P Q (Fails TooLong) at n end so h = absurd h
reads_as f P Q (Fails OutOfMemory) at n end so h = absurd h

weaker : {A : Type 0} (P Q : A → Type 0) (x : Reads A) (at n end : ℕ) → ((a : A) → P a → Q a) → ReadsSo P x at n end → ReadsSo Q x at n end
weaker P Q (Got a bit) at n end so h = (so a h.0, h.1, h.2)
weaker P Q (Fails ShortContent) at n end so h = h
weaker P Q (Fails NoVariant) at n end so h = absurd h
weaker P Q (Fails TooLong) at n end so h = absurd h
weaker P Q (Fails OutOfMemory) at n end so h = absurd h

further : {A : Type 0} (P : A → Type 0) (x : Reads A) (at n m end : ℕ) → (1 ≤ n → at + n ≤ end) → ReadsSo P x (at + n) m end → ReadsSo P x at (n + m) end
further P (Got a bit) at n m end fits r = (r.0, omega (arith, r.1), reach at n m end fits r.2)
further P (Fails ShortContent) at n m end fits r = (omega (arith, r.0), omega (arith, r.1))
further P (Fails NoVariant) at n m end fits r = absurd r
further P (Fails TooLong) at n m end fits r = absurd r
further P (Fails OutOfMemory) at n m end fits r = absurd r

reads_then : {A B : Type 0} (P : A → Type 0) (Q : B → Type 0) (x : Reads A) (next : A → ℕ → Reads B) (at n m end : ℕ) → ReadsSo P x at n end → ((a : A) → P a → ReadsSo Q (next a (at + n)) (at + n) m end) → ReadsSo Q (then_read x next) at (n + m) end
reads_then P Q (Got a bit) next at n m end h rest = subst (λ b. ReadsSo Q (next a b) at (n + m) end) (sym h.1) (further Q (next a (at + n)) at n m end h.2 (rest a h.0))
reads_then P Q (Fails ShortContent) next at n m end h rest = (omega (arith, h.0), omega (arith, h.1))
reads_then P Q (Fails NoVariant) next at n m end h rest = absurd h
reads_then P Q (Fails TooLong) next at n m end h rest = absurd h
reads_then P Q (Fails OutOfMemory) next at n m end h rest = absurd h

-- ---- integers and structures without fields

-- an integer that is read ends so far behind its first bit, or not all of its bits are there
abbrev Ends : Option (ℤ × ℕ) → ℕ → ℕ → ℕ → Type 0
Ends None at n end = end < at + n
Ends (Some r) at n end = (r.1 ≡ at + n) × (at + n ≤ end)

integer_ends : (i : Integer) (bytes : List ℕ) (end at : ℕ) → at % 8 ≡ 0 → within_byte i.align ≡ true → Ends (integer_read i bytes end at) at i.size end
integer_ends i bytes end at whole aligned = subst (λ bit. Ends (integer_at i bytes end bit) at i.size end) (sym (there at i.align whole aligned)) (by (nat_le (at + i.size) end) refl)
  where
    by : (b : Bool) → nat_le (at + i.size) end ≡ b → Ends (if b then Some (value_of i (integer i.order bytes at i.size), at + i.size) else None) at i.size end
    by true e = (refl, leb-true (at + i.size) end e)
    by false e = leb-false (at + i.size) end e

number_told : (ty : ℕ) (z : ℤ) → number_of (Some (field.Int ty z)) ≡ Some (z, ty)
unfolding Rattle.ctf_fields.specs.declared.field.Field.TheViews.out-Field denote.Hole.Carrier.out Rattle.ctf_fields.specs.declared.field.Field.TheBlock.shown-the_row-Field-1 denote.Hole.Carrier.shown denote.Hole.Carrier.hidden
number_told ty z = refl

no_number : (ms : List Member) → number_of (Some (field.Struct ms)) ≡ None
unfolding roll-Field out-Field denote.Hole.Carrier.roll
no_number ms = ap number_in (out-roll-Field (Field-F.Struct ms))

module _ (t : Table) (bytes : List ℕ) (end : ℕ) (scopes : Scopes) (start : ℕ) where
  abbrev from : SourceModel
  from = record { table = t; bytes = bytes; end = end; scopes = scopes }

  -- ---- one field

  -- nothing is found within a field, and it is the number that is placed
  abbrev TellsField : ℕ → ℕ → Field → Type 0
  TellsField offset ty g = ((text : Text) → first_in 31 t.names text g ≡ None) × (number_of (Some g) ≡ number_there bytes end start (placed_number t offset ty))

  number_tells : (offset ty at : ℕ) (i : Integer) (s : FixedSize) → at ≡ start + offset → at % 8 ≡ 0 → integer_type t ty ≡ Some i → IsWhole i s → ReadsSo (TellsField offset ty) (read_number from ty (Some i) at) at s.bits end
  number_tells offset ty at i s here whole found w = by (integer_read i bytes end at) refl (subst (λ n. Ends (integer_read i bytes end at) at n end) w.size (integer_ends i bytes end at whole w.aligned))
    where
      by : (o : Option (ℤ × ℕ)) → integer_read i bytes end at ≡ o → Ends o at s.bits end → ReadsSo (TellsField offset ty) (leaf (field.Int ty) o) at s.bits end
      by None e short = (w.some, short)
      by (Some r) e ends =
          let its : number_there bytes end start (placed_number t offset ty) ≡ Some (r.0, ty) =
          ap (λ o. number_there bytes end start (option_map {U = PlacedNumber} (λ i. record { offset = offset; integer = i; ty = ty }) o)) found
          ∙ ap (λ n. option_map {U = ℤ × ℕ} (λ r. (r.0, ty)) (integer_read i bytes end n)) (sym here)
          ∙ ap (λ o. option_map {U = ℤ × ℕ} (λ r. (r.0, ty)) o) e in
          ((λ text. none_first 31 t.names text (field.Int ty r.0) ty r.0 refl, number_told ty r.0 ∙ sym its), ends.0, λ some. ends.1)

  nothing_read : (name : Option ℕ) (ty align : ℕ) (opens : List OpenStruct) (at : ℕ) → at % 8 ≡ 0 → slice_get t.types ty ≡ Some (meta.Struct align []) → within_byte align ≡ true → read 31 from name ty opens at ≡ Got (field.Struct []) at
  nothing_read name ty align opens at whole found aligned =
      one_deeper 31 from name ty (meta.Struct align []) opens at (omega arith) found
      ∙ by_struct (read 30 from) from name ty align [] opens at
      ∙ ap (λ bit. Got (field.Struct []) bit) (there at align whole aligned)

  leaf_tells : (name : Option ℕ) (offset ty at : ℕ) (s : FixedSize) (opens : List OpenStruct) → at ≡ start + offset → at % 8 ≡ 0 → IsLeaf t ty s → ReadsSo (TellsField offset ty) (read 31 from name ty opens at) at s.bits end
  leaf_tells name offset ty at s opens here whole (a_number i found w) =
      subst (λ x. ReadsSo (TellsField offset ty) x at s.bits end) (sym (number_read 31 from name ty i opens at (omega arith) found)) (number_tells offset ty at i s here whole found w)
  leaf_tells name offset ty at s opens here whole (nothing align found aligned none) =
      let its : number_there bytes end start (placed_number t offset ty) ≡ None =
      ap (λ o. number_there bytes end start (option_map {U = PlacedNumber} (λ i. record { offset = offset; integer = i; ty = ty }) o)) (no_integer t ty align found) in
      subst (λ x. ReadsSo (TellsField offset ty) x at s.bits end) (sym (nothing_read name ty align opens at whole found aligned))
      ((λ text. first_struct 30 t.names text [], no_number [] ∙ sym its), omega (arith, none), λ some. absurd (omega (arith, some, none)))

  -- ---- the fields of a structure

  -- of each name the first is the number that is placed
  abbrev TellMembers : ℕ → List FieldMeta → List Member → Type 0
  TellMembers offset fs ms = (text : Text) → number_of (first_member (first_in 31 t.names text) t.names text ms) ≡ number_there bytes end start (placed t text offset fs)

  -- so are the fields of the innermost structure, behind those before them
  abbrev TellsOpen : Option ℕ → List OpenStruct → List Member → ℕ → List FieldMeta → List OpenStruct → Type 0
  TellsOpen name around before offset fs opens = (ms : List Member) × (opens ≡ opened name (before ++ ms) around) × TellMembers offset fs ms

  tell_more : (f : FieldMeta) (fs : List FieldMeta) (offset next : ℕ) (g : Field) (ms : List Member) → offset + bits_of (leaf_size t f.ty) ≡ next → TellsField offset f.ty g → TellMembers next fs ms → TellMembers offset (f ∷ fs) (record { name = f.name; field = g } ∷ ms)
  tell_more f fs offset next g ms begins one more = λ text. by text (same_name text (name_at t.names f.name))
    where
      by : (text : Text) (c : Bool) → number_of (or_else (if c then Some g else first_in 31 t.names text g) (first_member (first_in 31 t.names text) t.names text ms)) ≡ number_there bytes end start (if c then placed_number t offset f.ty else placed t text (offset + bits_of (leaf_size t f.ty)) fs)
      by text true = one.1
      by text false = ap (λ o. number_of (or_else o (first_member (first_in 31 t.names text) t.names text ms))) (one.0 text) ∙ more text ∙ ap (λ n. number_there bytes end start (placed t text n fs)) (sym begins)

  members_tell : (fs : List FieldMeta) (done total : FixedSize) → leaves_size t done fs ≡ Some total → (name : Option ℕ) (around : List OpenStruct) (before : List Member) (at : ℕ) → at ≡ start + done.bits → at % 8 ≡ 0
      → ReadsSo (TellsOpen name around before done.bits fs) (read_members (read 31 from) fs (opened name before around) at) at (total.bits - done.bits) end
  members_tell [] done total e name around before at here whole =
      let same : done ≡ total = cc in
      let none : total.bits - done.bits ≡ 0 = omega (arith, ap (λ s. s.bits) same) in
      (([], ap (λ ms. opened name ms around) (sym (append-nil before)), λ text. refl), omega (arith, none), λ some. absurd (omega (arith, some, none)))
  members_tell (f ∷ fs) done total e name around before at here whole =
      let sum = some_of (λ sum. leaves_size t sum fs) (with_leaf t done f.ty) total e in
      let one = one_leaf t done sum.0 f.ty sum.1 in
      let n : ℕ = one.size.bits in
      let m : ℕ = total.bits - sum.0.bits in
      let less = no_less t fs sum.0 total sum.2 in
      let takes : n + m ≡ total.bits - done.bits = omega (arith, one.bits, less) in
      let begins : done.bits + bits_of (leaf_size t f.ty) ≡ sum.0.bits = ap (λ o. done.bits + bits_of o) one.its ∙ sym one.bits in
      let is = is_leaf t f.ty one.size one.its in
      subst (λ k. ReadsSo (TellsOpen name around before done.bits (f ∷ fs)) (read_members (read 31 from) (f ∷ fs) (opened name before around) at) at k end) takes
      (reads_then (OneOpen name around before done.bits f) (TellsOpen name around before done.bits (f ∷ fs)) (read_member (read 31 from) f (opened name before around) at) (read_members (read 31 from) fs) at n m end
      (reads_as (λ g. with_member (record { name = f.name; field = g }) (opened name before around)) (TellsField done.bits f.ty) (OneOpen name around before done.bits f) (read 31 from (Some f.name) f.ty (opened name before around) at) at n end (λ g h. (g, refl, h))
      (leaf_tells (Some f.name) done.bits f.ty at one.size (opened name before around) here whole is))
      (λ opens h. rest f fs done sum.0 total name around before (at + n) m begins opens h
      (members_tell fs sum.0 total sum.2 name around (before ++ record { name = f.name; field = h.0 } ∷ []) (at + n) (omega (arith, here, one.bits)) (both_bytes at n whole (leaf_bytes t f.ty one.size is)))))
    where
      OneOpen : Option ℕ → List OpenStruct → List Member → ℕ → FieldMeta → List OpenStruct → Type 0
      OneOpen name around before offset f opens = (g : Field) × (opens ≡ opened name (before ++ record { name = f.name; field = g } ∷ []) around) × TellsField offset f.ty g

      rest : (f : FieldMeta) (fs : List FieldMeta) (done sum total : FixedSize) (name : Option ℕ) (around : List OpenStruct) (before : List Member) (at m : ℕ) → done.bits + bits_of (leaf_size t f.ty) ≡ sum.bits
          → (opens : List OpenStruct) (h : OneOpen name around before done.bits f opens)
          → ReadsSo (TellsOpen name around (before ++ record { name = f.name; field = h.0 } ∷ []) sum.bits fs) (read_members (read 31 from) fs (opened name (before ++ record { name = f.name; field = h.0 } ∷ []) around) at) at m end
          → ReadsSo (TellsOpen name around before done.bits (f ∷ fs)) (read_members (read 31 from) fs opens at) at m end
      rest f fs done sum total name around before at m begins opens h r =
          let g : Field = h.0 in
          let one : List Member = record { name = f.name; field = g } ∷ [] in
          subst (λ o. ReadsSo (TellsOpen name around before done.bits (f ∷ fs)) (read_members (read 31 from) fs o at) at m end) (sym h.1)
          (weaker (TellsOpen name around (before ++ one) sum.bits fs) (TellsOpen name around before done.bits (f ∷ fs)) (read_members (read 31 from) fs (opened name (before ++ one) around) at) at m end
          (λ o more. (
            record { name = f.name; field = g } ∷ more.0,
            more.1 ∙ ap (λ ms. opened name ms around) (append_assoc before one more.0),
            tell_more f fs done.bits sum.bits g more.0 begins h.2 more.2,
          )) r)

  -- ---- the whole context

  abbrev TellsStruct : List FieldMeta → Field → Type 0
  TellsStruct fs g = (ms : List Member) × (g ≡ field.Struct ms) × TellMembers 0 fs ms

  struct_tells : (ty align : ℕ) (fs : List FieldMeta) (s : FixedSize) → slice_get t.types ty ≡ Some (meta.Struct align fs) → within_byte align ≡ true → leaves_size t no_size fs ≡ Some s → start % 8 ≡ 0
      → ReadsSo (TellsStruct fs) (scope_read from ty start) start s.bits end
  struct_tells ty align fs s found aligned e whole =
      let is : scope_read from ty start ≡ as_read (λ o. field.Struct (fields_of o)) (read_members (read 31 from) fs (opened None [] []) start) =
      one_deeper MAX_TYPE_DEPTH from None ty (meta.Struct align fs) [] start (omega arith) found
      ∙ by_struct (read 31 from) from None ty align fs [] start
      ∙ ap (λ bit. as_read (λ o. field.Struct (fields_of o)) (read_members (read 31 from) fs (opened None [] []) bit)) (there start align whole aligned) in
      let all : s.bits - no_size.bits ≡ s.bits = omega arith in
      subst (λ x. ReadsSo (TellsStruct fs) x start s.bits end) (sym is)
      (reads_as (λ o. field.Struct (fields_of o)) (TellsOpen None [] [] 0 fs) (TellsStruct fs) (read_members (read 31 from) fs (opened None [] []) start) start s.bits end
      (λ o h. (h.0, ap (λ o. field.Struct (fields_of o)) h.1, h.2))
      (subst (λ n. ReadsSo (TellsOpen None [] [] 0 fs) (read_members (read 31 from) fs (opened None [] []) start) start n end) all
      (members_tell fs no_size s e None [] [] start (omega arith) whole)))

  same_numbers : (fs : List FieldMeta) (bits : ℕ) (g : Field) → TellsStruct fs g → numbers_there bytes end (plan_of_fields t fs bits) start ≡ context_numbers t (Some g)
  same_numbers fs bits g (ms, is, tell) = λ i. record {
    packet_size = its (codes "packet_size") i;
    content_size = its (codes "content_size") i;
    timestamp_begin = its (codes "timestamp_begin") i;
    cpu_id = its (codes "cpu_id") i;
    packet_seq_num = its (codes "packet_seq_num") i;
    events_discarded = its (codes "events_discarded") i;
  }
    where
      its : (text : Text) → number_there bytes end start (placed t text 0 fs) ≡ number_named t text (Some g)
      its text = sym (ap (λ f. number_of (first_in 32 t.names text f)) is ∙ ap number_of (first_struct 31 t.names text ms) ∙ tell text)

  tells : (fs : List FieldMeta) (bits : ℕ) (x : Reads Field) → 1 ≤ bits → ReadsSo (TellsStruct fs) x start bits end → TellsNumbers t x (context_read bytes end (plan_of_fields t fs bits) start)
  tells fs bits (Got g bit) some h = by (nat_le (start + bits) end) refl
    where
      by : (b : Bool) → nat_le (start + bits) end ≡ b → TellsNumbers t (Got g bit) (if b then Got (numbers_there bytes end (plan_of_fields t fs bits) start) (start + bits) else Fails ShortContent)
      by true e = (sym h.1, same_numbers fs bits g h.0)
      by false e = let over = leb-false (start + bits) end e in let fits = h.2 some in absurd (omega (arith, over, fits))
  tells fs bits (Fails ShortContent) some h = by (nat_le (start + bits) end) refl
    where
      by : (b : Bool) → nat_le (start + bits) end ≡ b → TellsNumbers t (Fails ShortContent) (if b then Got (numbers_there bytes end (plan_of_fields t fs bits) start) (start + bits) else Fails ShortContent)
      by true e = let fits = leb-true (start + bits) end e in absurd (omega (arith, fits, h.1))
      by false e = refl
  tells fs bits (Fails NoVariant) some h = absurd h
  tells fs bits (Fails TooLong) some h = absurd h
  tells fs bits (Fails OutOfMemory) some h = absurd h

-- ---- plans of a table's types

some_map : {A B : Type 0} (f : A → B) (o : Option A) (b : B) → option_map f o ≡ Some b → (a : A) × (o ≡ Some a) × (f a ≡ b)
some_map f None b e = absurd (cc)
some_map f (Some a) b e = (a, refl, cc)

either : (a b : Bool) → (a || b) ≡ true → (a ≡ true) ⊎ (b ≡ true)
either true b e = inl refl
either false b e = inr e

-- a structure whose fields take so much
record IsPlanned (t : Table) (m : Option TypeMeta) (plan : ContextPlan) : Type 0 where
  align : ℕ
  fields : List FieldMeta
  size : FixedSize
  is : m ≡ Some (meta.Struct align fields)
  aligned : within_byte align ≡ true
  takes : leaves_size t no_size fields ≡ Some size
  some : 1 ≤ size.bits
  made : plan_of_fields t fields size.bits ≡ plan

is_planned : (t : Table) (m : Option TypeMeta) (plan : ContextPlan) → planned_context t m ≡ Some plan → IsPlanned t m plan
is_planned t (Some (meta.Struct align fs)) plan e =
    let tests = if_so (within_byte align && tells_size t fs) (option_map (λ s. plan_of_fields t fs s.bits) (leaves_size t no_size fs)) plan e in
    let first = both (within_byte align) (tells_size t fs) tests.0 in
    let size = some_map (λ s. plan_of_fields t fs s.bits) (leaves_size t no_size fs) plan tests.1 in
    let some : 1 ≤ size.0.bits = elim (either (is_some (placed t (codes "packet_size") 0 fs)) (is_some (placed t (codes "content_size") 0 fs)) first.1) [
      | inl told ↦ some_bits t (codes "packet_size") fs no_size size.0 size.1 told
      | inr told ↦ some_bits t (codes "content_size") fs no_size size.0 size.1 told
    ] in
    record { align = align; fields = fs; size = size.0; is = refl; aligned = first.0; takes = size.1; some = some; made = size.2 }
is_planned t None plan e = absurd (cc)
is_planned t (Some (meta.Integer integer)) plan e = absurd (cc)
is_planned t (Some (meta.Enum base labels)) plan e = absurd (cc)
is_planned t (Some meta.Str) plan e = absurd (cc)
is_planned t (Some (meta.Variant tag fs)) plan e = absurd (cc)
is_planned t (Some (meta.Array count item)) plan e = absurd (cc)
is_planned t (Some (meta.Sequence count item)) plan e = absurd (cc)

-- a plan can be read, and contexts are read by it as by their type
one_plan : (t : Table) → IsSoundTable t → (ty : ℕ) (plan : ContextPlan) → context_plan t ty ≡ Some plan → IsReadableContext plan × IsContextPlan t ty plan
one_plan t sound ty plan e = subst (λ p. IsReadableContext p × IsContextPlan t ty p) made.made (
  record {
    packet_size = all (codes "packet_size");
    content_size = all (codes "content_size");
    timestamp_begin = all (codes "timestamp_begin");
    cpu_id = all (codes "cpu_id");
    packet_seq_num = all (codes "packet_seq_num");
    events_discarded = all (codes "events_discarded");
  },
  λ bytes end scopes at whole.
      tells t bytes end scopes at made.fields made.size.bits (scope_read (record { table = t; bytes = bytes; end = end; scopes = scopes }) ty at) made.some (struct_tells t bytes end scopes at ty made.align made.fields made.size made.is made.aligned made.takes whole),
)
  where
    made : IsPlanned t (slice_get t.types ty) plan
    made = is_planned t (slice_get t.types ty) plan e

    all : (text : Text) → IsPlaced made.size.bits (placed t text 0 made.fields)
    all text = all_placed t sound text made.fields no_size made.size made.takes

so_many : (t : Table) (n : ℕ) → length (plans_of_first t n) ≡ n
unfolding plans_of_first
so_many t zero = refl
so_many t (suc n) = omega (arith, length-append (plans_of_first t n) (context_plan t n ∷ []), so_many t n)

-- a plan at an index is the one of that type
of_type : (t : Table) (n ty : ℕ) (plan : ContextPlan) → plan_at (plans_of_first t n) ty ≡ Some plan → context_plan t ty ≡ Some plan
unfolding plans_of_first
of_type t zero ty plan e = absurd (cc)
of_type t (suc n) ty plan e =
    elim (at_last (plans_of_first t n) (context_plan t n) ty plan e) [
      | inl h ↦ of_type t n ty plan h
      | inr h ↦ ap (context_plan t) (h.0 ∙ so_many t n) ∙ h.1
    ]

-- by the plans of a sound table contexts are read as by their types
pub are_context_plans : (t : Table) → IsSoundTable t → AreContextPlans t (context_plans t)
are_context_plans t sound = λ ty plan e. one_plan t sound ty plan (of_type t (length t.types) ty plan e)
