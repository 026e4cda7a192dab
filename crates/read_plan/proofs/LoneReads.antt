-- What is read where no type looks into a scope is the same whatever was read of that scope before.
use Rattle.std.proofs.Common.{◌≡◌, ◌∙◌, ℕ, zero, suc, ◌+◌, Bool, true, false, ◌||◌, not, List, [], ◌∷◌, Option, Some, None, drop, slice_get, refl, ap, add-one}
use Rattle.std.specs.List.{list_any}
use Rattle.type_table.specs.PerScope.{of_scope, with_scope}
use Rattle.type_table.specs.Table.{Table}
use Rattle.type_table.specs.declared.meta.Reference.{Reference}
use Rattle.type_table.specs.declared.meta.ScopeName.{ScopeName}
use Rattle.type_table.specs.declared.meta.ScopeName.TheVariants.{PacketHeader, PacketContext, EventHeader, StreamContext, EventContext, EventFields}
use Rattle.type_table.specs.declared.meta.TypeMeta.{TypeMeta}
use Rattle.type_table.specs.declared.meta.TypeMeta.TheVariants as meta
use Rattle.ctf_fields.specs.Choice.{chosen}
use Rattle.ctf_fields.specs.Fields.{Scopes, field_by, from_scope, number_of}
use Rattle.ctf_fields.specs.Reading.{Inner, MAX_TYPE_DEPTH, SourceModel, length_of, number_at, read, read_by, read_choice, read_sequence}
use Rattle.ctf_fields.specs.declared.field.Field.{Field}
use Rattle.ctf_fields.specs.declared.open_struct.OpenStruct.{OpenStruct}
use Rattle.read_plan.specs.Lone.{HasLoneContexts, IsLone, IsLoneFrom, begins_at, contexts_are_lone, headers_are_lone, looks_into, none_looks_into}

-- ---- the other scopes

-- another value for this scope leaves the others
abbrev LeavesOthers : ScopeName → Type 0
LeavesOthers name = (scopes : Scopes) (f : Option Field) (scope : ScopeName) → begins_at name (Some scope) ≡ false → of_scope scope (with_scope name f scopes) ≡ of_scope scope scopes

header_leaves : LeavesOthers EventHeader
header_leaves scopes f PacketHeader e = refl
header_leaves scopes f PacketContext e = refl
header_leaves scopes f EventHeader e = absurd (cc)
header_leaves scopes f StreamContext e = refl
header_leaves scopes f EventContext e = refl
header_leaves scopes f EventFields e = refl

context_leaves : LeavesOthers PacketContext
context_leaves scopes f PacketHeader e = refl
context_leaves scopes f PacketContext e = absurd (cc)
context_leaves scopes f EventHeader e = refl
context_leaves scopes f StreamContext e = refl
context_leaves scopes f EventContext e = refl
context_leaves scopes f EventFields e = refl

-- ---- no type looks into a scope

neither : (a b : Bool) → (a || b) ≡ false → (a ≡ false) × (b ≡ false)
neither false false e = (refl, refl)
neither false true e = absurd (cc)
neither true b e = absurd (cc)

none_looks : (b : Bool) → not b ≡ true → b ≡ false
none_looks false e = refl
none_looks true e = absurd (cc)

module _ (name : ScopeName) where
  -- the type that may be there
  abbrev looks_if : Option TypeMeta → Bool
  looks_if None = false
  looks_if (Some m) = looks_into name m

  none_at : (ms : List TypeMeta) (ty : ℕ) → list_any (looks_into name) ms ≡ false → looks_if (slice_get ms ty) ≡ false
  none_at [] ty e = refl
  none_at (m ∷ ms) zero e = (neither (looks_into name m) (list_any (looks_into name) ms) e).0
  none_at (m ∷ ms) (suc ty) e = none_at ms ty (neither (looks_into name m) (list_any (looks_into name) ms) e).1

module _ (name : ScopeName) (leaves : LeavesOthers name) (t : Table) (bytes : List ℕ) (end : ℕ) (scopes : Scopes) (f : Option Field) where
  -- the same bits after another field of the scope, and after this one
  abbrev to : SourceModel
  to = record { table = t; bytes = bytes; end = end; scopes = with_scope name f scopes }

  abbrev from : SourceModel
  from = record { table = t; bytes = bytes; end = end; scopes = scopes }

  -- ---- where field paths lead

  same_field : (opens : List OpenStruct) (scope : Option ScopeName) (words : List ℕ) → begins_at name scope ≡ false → field_by t.names (with_scope name f scopes) opens scope words ≡ field_by t.names scopes opens scope words
  same_field opens None words e = refl
  same_field opens (Some scope) words e = ap (λ g. from_scope t.names g opens words) (leaves scopes f scope e)

  same_number : (opens : List OpenStruct) (field_path : Reference) → begins_at name field_path.scope ≡ false → number_at to opens field_path ≡ number_at from opens field_path
  same_number opens field_path e = ap number_of (same_field opens field_path.scope field_path.words e)

  -- ---- types

  -- a type that doesn't look into the scope, where the types within it are read so
  same_by : (inner : Inner) (word : Option ℕ) (ty : ℕ) (m : Option TypeMeta) (opens : List OpenStruct) (at : ℕ) → looks_if name m ≡ false → read_by inner to word ty m opens at ≡ read_by inner from word ty m opens at
  unfolding read_by
  same_by inner word ty None opens at e = refl
  same_by inner word ty (Some (meta.Integer integer)) opens at e = refl
  same_by inner word ty (Some (meta.Enum base labels)) opens at e = refl
  same_by inner word ty (Some meta.Str) opens at e = refl
  same_by inner word ty (Some (meta.Struct align fs)) opens at e = refl
  same_by inner word ty (Some (meta.Variant tag fs)) opens at e = ap (λ n. read_choice inner (chosen t n fs) opens at) (same_number opens tag e)
  same_by inner word ty (Some (meta.Array count item)) opens at e = refl
  same_by inner word ty (Some (meta.Sequence count item)) opens at e = ap (λ n. read_sequence inner t (length_of n) item opens at) (same_number opens count e)

  -- one type more deep
  one_more : list_any (looks_into name) t.types ≡ false → (depth : ℕ) → Path Inner (read depth to) (read depth from) → (word : Option ℕ) (ty : ℕ) (opens : List OpenStruct) (at : ℕ) → read (suc depth) to word ty opens at ≡ read (suc depth) from word ty opens at
  unfolding read
  one_more none depth inner word ty opens at =
      ap (λ i. read_by i to word ty (slice_get t.types ty) opens at) inner ∙ same_by (read depth from) word ty (slice_get t.types ty) opens at (none_at name t.types ty none)

  -- at every depth
  same_reads : list_any (looks_into name) t.types ≡ false → (depth : ℕ) → Path Inner (read depth to) (read depth from)
  unfolding read
  same_reads none zero = refl
  same_reads none (suc depth) = λ i word ty opens at. one_more none depth (same_reads none depth) word ty opens at i

-- where no type looks into the scope, what is read is the same whatever it was
lone_from : (name : ScopeName) → LeavesOthers name → (t : Table) → none_looks_into name t ≡ true → IsLoneFrom name t
lone_from name leaves t e = λ bytes end scopes f ty at.
    ap (λ inner. inner None ty [] at) (same_reads name leaves t bytes end scopes f (none_looks (list_any (looks_into name) t.types) e) MAX_TYPE_DEPTH)

-- where no type looks into the headers of events, what is read is the same whatever they were
pub is_lone : (t : Table) → headers_are_lone t ≡ true → IsLone t
is_lone t e = lone_from EventHeader header_leaves t e

-- where no type looks into the contexts of packets, what is read is the same whatever they were
pub lone_contexts : (t : Table) → contexts_are_lone t ≡ true → HasLoneContexts t
lone_contexts t e = lone_from PacketContext context_leaves t e

-- ---- the types one after the other

-- from one that does
pub one_looks : (name : ScopeName) (ms : List TypeMeta) (n : ℕ) (m : TypeMeta) → slice_get ms n ≡ Some m → looks_into name m ≡ true → list_any (looks_into name) (drop n ms) ≡ true
one_looks name [] n m e is = absurd (cc)
one_looks name (x ∷ ms) zero m e is = let same : x ≡ m = cc in ap (λ y. looks_into name y || list_any (looks_into name) ms) same ∙ ap (λ b. b || list_any (looks_into name) ms) is
one_looks name (x ∷ ms) (suc n) m e is = one_looks name ms n m e is

-- from one that doesn't
pub one_passes : (name : ScopeName) (ms : List TypeMeta) (n : ℕ) (m : TypeMeta) → slice_get ms n ≡ Some m → looks_into name m ≡ false → list_any (looks_into name) (drop n ms) ≡ list_any (looks_into name) (drop (n + 1) ms)
one_passes name ms n m e is = rw (add-one n) (by ms n e)
  where
    by : (ms : List TypeMeta) (n : ℕ) → slice_get ms n ≡ Some m → list_any (looks_into name) (drop n ms) ≡ list_any (looks_into name) (drop (suc n) ms)
    by [] n e = absurd (cc)
    by (x ∷ ms) zero e = let same : x ≡ m = cc in ap (λ y. looks_into name y || list_any (looks_into name) ms) same ∙ ap (λ b. b || list_any (looks_into name) ms) is
    by (x ∷ ms) (suc n) e = by ms n e
