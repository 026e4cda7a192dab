-- Types of one size take as many bits wherever they begin at a whole byte.
use Rattle.std.proofs.Common.{◌≡◌, ◌∙◌, ℕ, ℤ, zero, suc, ◌+◌, ◌-◌, ◌*◌, ◌%◌, ◌<◌, ◌≤◌, ◌&&◌, max, ◌⊎◌, inl, inr, length-append, add-one, Bool, true, false, nat_eq, nat_le, nat_lt, List, [], ◌∷◌, ◌++◌, length, Option, Some, None, slice_get, unwrap_or, if◌then◌else◌, refl, sym, ap, subst, arith}
use Rattle.std.proofs.Math.Nat.{mod-mod_of_dvd, mod_self, zero-mod}
use Rattle.std.proofs.lemmas.Nat.Gcd.{dvd_of_mod-eq-zero}
use Rattle.std.proofs.lemmas.Bool.{eqb-true, leb-true, leb-false, ltb-true}
use Rattle.std.specs.Int.{next_multiple_of}
use Rattle.std.specs.Option.{option_and_then}
use Rattle.type_table.specs.Table.{Table}
use Rattle.type_table.specs.declared.integer.Integer.{Integer}
use Rattle.type_table.specs.declared.meta.FieldMeta.{FieldMeta}
use Rattle.type_table.specs.declared.meta.TypeMeta.{TypeMeta}
use Rattle.type_table.specs.declared.meta.TypeMeta.TheVariants as meta
use Rattle.ctf_fields.specs.declared.open_struct.OpenStruct.{OpenStruct}
use Rattle.ctf_fields.specs.declared.error.FieldError.TheVariants.{ShortContent, NoVariant, TooLong, OutOfMemory}
use Rattle.ctf_fields.specs.declared.field.Field.{Field}
use Rattle.read_plan.specs.declared.fixed.FixedSize.{FixedSize}
use Rattle.bit_reader.specs.Bits.{integer}
use Rattle.ctf_fields.specs.declared.field.Field.TheVariants as field
use Rattle.ctf_fields.specs.Leaves.{integer_at, value_of}
use Rattle.ctf_fields.specs.Reading.{MAX_TYPE_DEPTH, SourceModel, Reads, Got, Fails, align_at, as_read, integer_type, leaf, then_read, read, read_by, read_item, read_items, read_member, read_members, read_number}
use Rattle.read_plan.specs.FixedSizes.{Passes, TakesBits, array_size, joined, members_from, no_size, number_size, one_around, repeated, size_at, size_within, sized, sized_by, sizes_of, sizes_of_first, struct_size, with_field, within_byte}
use Rattle.ctf_fields.proofs.Integers.{number_read}
use Rattle.ctf_fields.proofs.Steps.{one_deeper}

-- ---- whole bytes

pub there : (at align : ℕ) → at % 8 ≡ 0 → within_byte align ≡ true → next_multiple_of at align ≡ at
there at align whole h = omega (arith, gap)
  where
    even : at % align ≡ 0
    even = sym (mod-mod_of_dvd align at (dvd_of_mod-eq-zero align (eqb-true (8 % align) 0 h))) ∙ (ap (λ n. n % align) whole ∙ zero-mod align)

    less : (n : ℕ) → n ≡ 0 → align - n ≡ align
    less n e = omega (arith, e)

    gap : (align - at % align) % align ≡ 0
    gap = ap (λ n. n % align) (less (at % align) even) ∙ mod_self align

-- ---- one after the other

pub as_passes : {A B : Type 0} (f : A → B) (x : Reads A) (at n end : ℕ) → Passes x at n end → Passes (as_read f x) at n end
as_passes f (Got a bit) at n end h = h
as_passes f (Fails ShortContent) at n end h = h
as_passes f (Fails NoVariant) at n end h = absurd h
as_passes f (Fails TooLong) at n end h = absurd h
as_passes f (Fails OutOfMemory) at n end h = absurd h

short_first : (at n m end : ℕ) → (1 ≤ n) × (end < at + n) → (1 ≤ n + m) × (end < at + (n + m))
short_first at n m end h = (omega (arith, h.0), omega (arith, h.1))

pub reach : (at n m end : ℕ) → (1 ≤ n → at + n ≤ end) → (1 ≤ m → at + n + m ≤ end) → 1 ≤ n + m → at + (n + m) ≤ end
reach at n zero end f g h = omega (arith, f (omega (arith, h)))
reach at n (suc m) end f g h = omega (arith, g (omega arith))

-- what takes n bits, and after it what takes m
then_passes : {A B : Type 0} (x : Reads A) (next : A → ℕ → Reads B) (at n m end : ℕ) → Passes x at n end → ((a : A) → Passes (next a (at + n)) (at + n) m end) → Passes (then_read x next) at (n + m) end
then_passes (Got a bit) next at n m end h rest = subst (λ b. Passes (next a b) at (n + m) end) (sym h.0) (by (next a (at + n)) (rest a))
  where
    by : {B : Type 0} (y : Reads B) → Passes y (at + n) m end → Passes y at (n + m) end
    by (Got b to) r = (omega (arith, r.0), reach at n m end h.1 r.1)
    by (Fails ShortContent) r = (omega (arith, r.0), omega (arith, r.1))
    by (Fails NoVariant) r = absurd r
    by (Fails TooLong) r = absurd r
    by (Fails OutOfMemory) r = absurd r
then_passes (Fails ShortContent) next at n m end h rest = short_first at n m end h
then_passes (Fails NoVariant) next at n m end h rest = absurd h
then_passes (Fails TooLong) next at n m end h rest = absurd h
then_passes (Fails OutOfMemory) next at n m end h rest = absurd h

same_bits : {A : Type 0} (x : Reads A) (at n m end : ℕ) → n ≡ m → Passes x at n end → Passes x at m end
same_bits x at n m end e h = subst (λ k. Passes x at k end) e h

-- ---- sizes that are there

pub within : (bits depth : ℕ) (s : FixedSize) → size_within bits depth ≡ Some s → (bits ≡ s.bits) × (depth ≡ s.depth)
within bits depth s e = by (nat_lt bits 18446744073709551616) e
  where
    by : (b : Bool) → (if b then Some (record { bits = bits; depth = depth }) else None) ≡ Some s → (bits ≡ s.bits) × (depth ≡ s.depth)
    by true e = let same : Path FixedSize (record { bits = bits; depth = depth }) s = cc in (ap (λ f. f.bits) same, ap (λ f. f.depth) same)
    by false e = absurd (cc)

around : (inner s : FixedSize) → one_around inner ≡ Some s → (inner.bits ≡ s.bits) × (inner.depth + 1 ≡ s.depth) × (s.depth ≤ MAX_TYPE_DEPTH)
around inner s e = by (nat_lt inner.depth MAX_TYPE_DEPTH) refl e
  where
    by : (b : Bool) → nat_lt inner.depth MAX_TYPE_DEPTH ≡ b → (if b then Some (record { bits = inner.bits; depth = inner.depth + 1 }) else None) ≡ Some s → (inner.bits ≡ s.bits) × (inner.depth + 1 ≡ s.depth) × (s.depth ≤ MAX_TYPE_DEPTH)
    by true is e =
        let same : Path FixedSize (record { bits = inner.bits; depth = inner.depth + 1 }) s = cc in
        let below = ltb-true inner.depth MAX_TYPE_DEPTH is in
        let depth : inner.depth + 1 ≡ s.depth = ap (λ f. f.depth) same in
        (ap (λ f. f.bits) same, depth, omega (arith, below, depth))
    by false is e = absurd (cc)

pub some_of : {A B : Type 0} (f : A → Option B) (o : Option A) (b : B) → option_and_then f o ≡ Some b → (a : A) × (o ≡ Some a) × (f a ≡ Some b)
some_of f None b e = absurd (cc)
some_of f (Some a) b e = (a, refl, e)

pub if_so : {A : Type 0} (c : Bool) (o : Option A) (a : A) → (if c then o else None) ≡ Some a → (c ≡ true) × (o ≡ Some a)
if_so true o a e = (refl, e)
if_so false o a e = absurd (cc)

pub both : (a b : Bool) → (a && b) ≡ true → (a ≡ true) × (b ≡ true)
both true true e = (refl, refl)
both true false e = absurd (cc)
both false b e = absurd (cc)

-- what stands at an index of a longer list stood there before, or is the last
pub at_last : {A : Type 0} (os : List (Option A)) (one : Option A) (n : ℕ) (a : A) → unwrap_or (slice_get (os ++ one ∷ []) n) None ≡ Some a → (unwrap_or (slice_get os n) None ≡ Some a) ⊎ ((n ≡ length os) × (one ≡ Some a))
at_last [] one zero a e = inr (refl, e)
at_last [] one (suc n) a e = absurd (cc)
at_last (o ∷ os) one zero a e = inl e
at_last (o ∷ os) one (suc n) a e = elim (at_last os one n a e) [ inl h ↦ inl h | inr h ↦ inr (ap suc h.0, h.1) ]

-- ---- the size of a type

module _ (from : SourceModel) where
  -- a type of this size is passed over, however it is named and whatever stands around it
  record Holds (ty : ℕ) (s : FixedSize) : Type 0 where
    bytes : s.bits % 8 ≡ 0
    deep : s.depth ≤ MAX_TYPE_DEPTH
    passes : (d : ℕ) (name : Option ℕ) (opens : List OpenStruct) (at : ℕ) → s.depth ≤ d → at % 8 ≡ 0 → Passes (read d from name ty opens at) at s.bits from.end

  abbrev AllHold : List (Option FixedSize) → Type 0
  AllHold sizes = (ty : ℕ) (s : FixedSize) → size_at sizes ty ≡ Some s → Holds ty s

  -- ---- integers

  number_passes : (i : Integer) (n ty : ℕ) (at : ℕ) → i.size ≡ n → 1 ≤ n → at % 8 ≡ 0 → within_byte i.align ≡ true → Passes (read_number from ty (Some i) at) at n from.end
  number_passes i n ty at is some whole aligned = subst (λ bit. Passes (as_number (integer_at i from.bytes from.end bit)) at n from.end) (sym (there at i.align whole aligned)) (by (nat_le (at + i.size) from.end) refl)
    where
      as_number : Option (ℤ × ℕ) → Reads Field
      as_number o = leaf (field.Int ty) o

      by : (b : Bool) → nat_le (at + i.size) from.end ≡ b → Passes (as_number (if b then Some (value_of i (integer i.order from.bytes at i.size), at + i.size) else None)) at n from.end
      by true e = let fits = leb-true (at + i.size) from.end e in (omega (arith, is), λ h. omega (arith, fits, is))
      by false e = let over = leb-false (at + i.size) from.end e in (some, omega (arith, over, is))

  number_holds : (ty : ℕ) (i : Integer) (s : FixedSize) → integer_type from.table ty ≡ Some i → number_size i ≡ Some s → Holds ty s
  number_holds ty i s found e =
      let tests = if_so (nat_le 1 i.size && nat_eq (i.size % 8) 0 && within_byte i.align) (Some (record { bits = i.size; depth = 1 })) s e in
      let first = both (nat_le 1 i.size && nat_eq (i.size % 8) 0) (within_byte i.align) tests.0 in
      let second = both (nat_le 1 i.size) (nat_eq (i.size % 8) 0) first.0 in
      let some = leb-true 1 i.size second.0 in
      let bytes = eqb-true (i.size % 8) 0 second.1 in
      let same : Path FixedSize (record { bits = i.size; depth = 1 }) s = cc in
      let bits : i.size ≡ s.bits = ap (λ f. f.bits) same in
      let depth : 1 ≡ s.depth = ap (λ f. f.depth) same in
      record {
        bytes = ap (λ n. n % 8) (sym bits) ∙ bytes;
        deep = omega (arith, depth);
        passes = λ d name opens at h whole. subst (λ x. Passes x at s.bits from.end) (sym (number_read d from name ty i opens at (omega (arith, h, depth)) found)) (number_passes i s.bits ty at bits (omega (arith, some, bits)) whole first.1);
      }

  -- ---- structures

  member_passes : (sizes : List (Option FixedSize)) → AllHold sizes → (f : FieldMeta) (s : FixedSize) (d : ℕ) (opens : List OpenStruct) (at : ℕ) → size_at sizes f.ty ≡ Some s → s.depth ≤ d → at % 8 ≡ 0 → Passes (read_member (read d from) f opens at) at s.bits from.end
  member_passes sizes all f s d opens at e h whole = as_passes _ (read d from (Some f.name) f.ty opens at) at s.bits from.end ((all f.ty s e).passes d (Some f.name) opens at h whole)

  -- what stands after a size, and that no field is deeper than all together
  record More (sizes : List (Option FixedSize)) (done total : FixedSize) (fs : List FieldMeta) : Type 0 where
    bits : ℕ
    is : total.bits ≡ done.bits + bits
    bytes : bits % 8 ≡ 0
    depth : done.depth ≤ total.depth
    passes : (d : ℕ) (opens : List OpenStruct) (at : ℕ) → total.depth ≤ d → at % 8 ≡ 0 → Passes (read_members (read d from) fs opens at) at bits from.end

  both_bytes : (a b : ℕ) → a % 8 ≡ 0 → b % 8 ≡ 0 → (a + b) % 8 ≡ 0
  both_bytes a b h k = omega (arith, h, k)

  members_hold : (sizes : List (Option FixedSize)) → AllHold sizes → (fs : List FieldMeta) (done total : FixedSize) → members_from sizes done fs ≡ Some total → More sizes done total fs
  members_hold sizes all [] done total e =
      let same : done ≡ total = cc in
      record {
        bits = 0;
        is = omega (arith, ap (λ s. s.bits) same);
        bytes = refl;
        depth = omega (arith, ap (λ s. s.depth) same);
        passes = λ d opens at h whole. (omega arith, λ none. omega (arith, none));
      }
  members_hold sizes all (f ∷ fs) done total e =
      let sum = some_of (λ sum. members_from sizes sum fs) (with_field sizes done f.ty) total e in
      let one = some_of (joined done) (size_at sizes f.ty) sum.0 sum.1 in
      let s : FixedSize = one.0 in
      let parts = within (done.bits + s.bits) (max done.depth s.depth) sum.0 one.2 in
      let rest = members_hold sizes all fs sum.0 total sum.2 in
      let first = all f.ty s one.1 in
      record {
        bits = s.bits + rest.bits;
        is = omega (arith, rest.is, parts.0);
        bytes = both_bytes s.bits rest.bits first.bytes rest.bytes;
        depth = omega (arith, rest.depth, parts.1);
        passes = λ d opens at h whole.
            then_passes (read_member (read d from) f opens at) (read_members (read d from) fs) at s.bits rest.bits from.end
            (member_passes sizes all f s d opens at one.1 (omega (arith, h, rest.depth, parts.1)) whole)
            (λ a. rest.passes d a (at + s.bits) h (both_bytes at s.bits whole first.bytes));
      }

  in_struct : (ty d : ℕ) (name : Option ℕ) (align : ℕ) (fs : List FieldMeta) (opens : List OpenStruct) (at n : ℕ) → within_byte align ≡ true → at % 8 ≡ 0
      → Passes (read_members (read d from) fs (record { name = name; fields = [] } ∷ opens) at) at n from.end
      → Passes (read_by (read d from) from name ty (Some (meta.Struct align fs)) opens at) at n from.end
  unfolding read_by
  in_struct ty d name align fs opens at n aligned whole h =
      as_passes _ (read_members (read d from) fs (record { name = name; fields = [] } ∷ opens) (next_multiple_of at align)) at n from.end
      (subst (λ bit. Passes (read_members (read d from) fs (record { name = name; fields = [] } ∷ opens) bit) at n from.end) (sym (there at align whole aligned)) h)

  struct_holds : (sizes : List (Option FixedSize)) → AllHold sizes → (ty align : ℕ) (fs : List FieldMeta) (s : FixedSize) → slice_get from.table.types ty ≡ Some (meta.Struct align fs) → struct_size sizes align fs ≡ Some s → Holds ty s
  struct_holds sizes all ty align fs s found e =
      let tests = if_so (within_byte align) (option_and_then one_around (members_from sizes no_size fs)) s e in
      let inner = some_of one_around (members_from sizes no_size fs) s tests.1 in
      let total : FixedSize = inner.0 in
      let out = around total s inner.2 in
      let more = members_hold sizes all fs no_size total inner.1 in
      let bits : more.bits ≡ s.bits = omega (arith, more.is, out.0) in
      record {
        bytes = ap (λ n. n % 8) (sym bits) ∙ more.bytes;
        deep = out.2;
        passes = λ d name opens at h whole.
            subst (λ x. Passes x at s.bits from.end) (sym (one_deeper d from name ty (meta.Struct align fs) opens at (omega (arith, h, out.1)) found))
            (in_struct ty (d - 1) name align fs opens at s.bits tests.0 whole
            (same_bits (read_members (read (d - 1) from) fs (record { name = name; fields = [] } ∷ opens) at) at more.bits s.bits from.end bits
            (more.passes (d - 1) (record { name = name; fields = [] } ∷ opens) at (omega (arith, h, out.1)) whole)));
      }

  -- ---- arrays

  items_pass : (ty n : ℕ) (d : ℕ) (opens : List OpenStruct) → n % 8 ≡ 0 → ((at : ℕ) → at % 8 ≡ 0 → Passes (read d from None ty opens at) at n from.end)
      → (count : ℕ) (done : List Field) (at : ℕ) → at % 8 ≡ 0 → Passes (read_items (read d from) ty opens count done at) at (count * n) from.end
  items_pass ty n d opens bytes one zero done at whole = (omega arith, λ none. omega (arith, none))
  items_pass ty n d opens bytes one (suc count) done at whole =
      same_bits (read_items (read d from) ty opens (suc count) done at) at (n + count * n) (suc count * n) from.end (omega arith)
      (then_passes (read_item (read d from) ty opens done at) (read_items (read d from) ty opens count) at n (count * n) from.end
      (as_passes _ (read d from None ty opens at) at n from.end (one at whole))
      (λ a. items_pass ty n d opens bytes one count a (at + n) (both_bytes at n whole bytes)))

  times_bytes : (count n : ℕ) → n % 8 ≡ 0 → (count * n) % 8 ≡ 0
  times_bytes zero n h = omega arith
  times_bytes (suc count) n h = ap (λ m. m % 8) (omega arith) ∙ both_bytes n (count * n) h (times_bytes count n h)

  in_array : (ty count item d : ℕ) (name : Option ℕ) (opens : List OpenStruct) (at n : ℕ) → within_byte (align_at from.table item) ≡ true → at % 8 ≡ 0
      → Passes (read_items (read d from) item opens count [] at) at n from.end
      → Passes (read_by (read d from) from name ty (Some (meta.Array count item)) opens at) at n from.end
  unfolding read_by
  in_array ty count item d name opens at n aligned whole h =
      as_passes _ (read_items (read d from) item opens count [] (next_multiple_of at (align_at from.table item))) at n from.end
      (subst (λ bit. Passes (read_items (read d from) item opens count [] bit) at n from.end) (sym (there at (align_at from.table item) whole aligned)) h)

  array_holds : (sizes : List (Option FixedSize)) → AllHold sizes → (ty count item : ℕ) (s : FixedSize) → slice_get from.table.types ty ≡ Some (meta.Array count item) → array_size from.table sizes count item ≡ Some s → Holds ty s
  array_holds sizes all ty count item s found e =
      let tests = if_so (within_byte (align_at from.table item)) (option_and_then one_around (option_and_then (repeated count) (size_at sizes item))) s e in
      let inner = some_of one_around (option_and_then (repeated count) (size_at sizes item)) s tests.1 in
      let total : FixedSize = inner.0 in
      let out = around total s inner.2 in
      let one = some_of (repeated count) (size_at sizes item) total inner.1 in
      let each : FixedSize = one.0 in
      let parts = within (count * each.bits) each.depth total one.2 in
      let holds = all item each one.1 in
      let bits : count * each.bits ≡ s.bits = parts.0 ∙ out.0 in
      record {
        bytes = ap (λ n. n % 8) (sym bits) ∙ times_bytes count each.bits holds.bytes;
        deep = out.2;
        passes = λ d name opens at h whole.
            subst (λ x. Passes x at s.bits from.end) (sym (one_deeper d from name ty (meta.Array count item) opens at (omega (arith, h, out.1)) found))
            (in_array ty count item (d - 1) name opens at s.bits tests.0 whole
            (same_bits (read_items (read (d - 1) from) item opens count [] at) at (count * each.bits) s.bits from.end bits
            (items_pass item each.bits (d - 1) opens holds.bytes (λ at whole. holds.passes (d - 1) None opens at (omega (arith, h, out.1, parts.1)) whole) count [] at whole)));
      }

  -- ---- all types of a table

  as_number : (sizes : List (Option FixedSize)) (ty : ℕ) (s : FixedSize) → option_and_then number_size (integer_type from.table ty) ≡ Some s → Holds ty s
  as_number sizes ty s e = let one = some_of number_size (integer_type from.table ty) s e in number_holds ty one.0 s one.1 one.2

  by_type : (sizes : List (Option FixedSize)) → AllHold sizes → (ty : ℕ) (s : FixedSize) (m : Option TypeMeta) → slice_get from.table.types ty ≡ m → sized_by from.table sizes ty m ≡ Some s → Holds ty s
  by_type sizes all ty s None is e = absurd (cc)
  by_type sizes all ty s (Some (meta.Struct align fs)) is e = struct_holds sizes all ty align fs s is e
  by_type sizes all ty s (Some (meta.Array count item)) is e = array_holds sizes all ty count item s is e
  by_type sizes all ty s (Some (meta.Integer integer)) is e = as_number sizes ty s e
  by_type sizes all ty s (Some (meta.Enum base labels)) is e = as_number sizes ty s e
  by_type sizes all ty s (Some meta.Str) is e = as_number sizes ty s e
  by_type sizes all ty s (Some (meta.Variant tag fs)) is e = as_number sizes ty s e
  by_type sizes all ty s (Some (meta.Sequence count item)) is e = as_number sizes ty s e

  so_many : (n : ℕ) → length (sizes_of_first from.table n) ≡ n
  unfolding sizes_of_first
  so_many zero = refl
  so_many (suc n) = omega (arith, length-append (sizes_of_first from.table n) (sized from.table (sizes_of_first from.table n) n ∷ []), so_many n)

  first_hold : (n : ℕ) → AllHold (sizes_of_first from.table n)
  unfolding sizes_of_first
  first_hold zero ty s e = absurd (cc)
  first_hold (suc n) ty s e =
      elim (at_last (sizes_of_first from.table n) (sized from.table (sizes_of_first from.table n) n) ty s e) [
        | inl h ↦ first_hold n ty s h
        | inr h ↦ by_type (sizes_of_first from.table n) (first_hold n) ty s (slice_get from.table.types ty) refl (ap (sized from.table (sizes_of_first from.table n)) (h.0 ∙ so_many n) ∙ h.1)
      ]

-- the sizes with that of one more type
pub one_more : (t : Table) (n : ℕ) → sizes_of_first t (n + 1) ≡ sizes_of_first t n ++ sized t (sizes_of_first t n) n ∷ []
unfolding sizes_of_first
one_more t n = ap (sizes_of_first t) (add-one n)

-- a type that has a size takes as many bits
pub takes_bits : (t : Table) (ty : ℕ) (s : FixedSize) → size_at (sizes_of t) ty ≡ Some s → TakesBits t ty s.bits
takes_bits t ty s e = λ bytes end scopes at whole.
    let holds = first_hold (record { table = t; bytes = bytes; end = end; scopes = scopes }) (length t.types) ty s e in
    holds.passes MAX_TYPE_DEPTH None [] at holds.deep whole
