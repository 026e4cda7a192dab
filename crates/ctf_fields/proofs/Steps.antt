-- One step of reading.
use Rattle.std.proofs.Common.{◌≡◌, ◌∙◌, ℕ, suc, ◌+◌, ◌-◌, ◌<◌, ◌≤◌, List, Option, Some, slice_get, Err, ap, arith}
use Rattle.type_table.specs.declared.meta.TypeMeta.{TypeMeta}
use Rattle.ctf_fields.specs.declared.open_struct.OpenStruct.{OpenStruct}
use Rattle.ctf_fields.specs.declared.error.FieldError.{FieldError}
use Rattle.ctf_fields.specs.declared.error.FieldError.TheVariants.{ShortContent, NoVariant, TooLong, OutOfMemory}
use Rattle.ctf_fields.specs.declared.field.Field.{Field}
use Rattle.ctf_fields.specs.Reading.{SourceModel, Inner, Reads, Got, Fails, GivesWith, read, read_by, read_item, read_items, then_read}

step_in : (d e : ℕ) (from : SourceModel) (name : Option ℕ) (ty : ℕ) (meta : TypeMeta) (open_structs : List OpenStruct) (at : ℕ) → d ≡ suc e → slice_get from.table.types ty ≡ Some meta
    → read d from name ty open_structs at ≡ read_by (read e from) from name ty (Some meta) open_structs at
unfolding read
step_in d e from name ty meta open_structs at is there = ap (λ n. read n from name ty open_structs at) is ∙ ap (λ m. read_by (read e from) from name ty m open_structs at) there

-- a type is read by those within it, one less deep
pub one_deeper : (d : ℕ) (from : SourceModel) (name : Option ℕ) (ty : ℕ) (meta : TypeMeta) (open_structs : List OpenStruct) (at : ℕ) → 1 ≤ d → slice_get from.table.types ty ≡ Some meta
    → read d from name ty open_structs at ≡ read_by (read (d - 1) from) from name ty (Some meta) open_structs at
one_deeper d from name ty meta open_structs at h there = step_in d (d - 1) from name ty meta open_structs at (omega (arith, h)) there

-- one item of several
pub one_item : (inner : Inner) (ty : ℕ) (open_structs after : List OpenStruct) (count index : ℕ) (done more : List Field) (at bit : ℕ) → index < count → open_structs ≡ after → read_item inner ty open_structs done at ≡ Got more bit
    → read_items inner ty open_structs (count - index) done at ≡ read_items inner ty after (count - (index + 1)) more bit
one_item inner ty open_structs after count index done more at bit h same got =
    ap (λ n. read_items inner ty open_structs n done at) next
    ∙ ap (λ r. then_read r (read_items inner ty open_structs (count - (index + 1)))) got
    ∙ ap (λ a. read_items inner ty a (count - (index + 1)) more bit) same
  where
    next : count - index ≡ suc (count - (index + 1))
    next = omega (arith, h)

failed : (inner : Inner) (ty : ℕ) (open_structs : List OpenStruct) (count index : ℕ) (done : List Field) (at : ℕ) (cause : FieldError) → index < count → read_item inner ty open_structs done at ≡ Fails cause
    → read_items inner ty open_structs (count - index) done at ≡ Fails cause
failed inner ty open_structs count index done at cause h fails =
    ap (λ n. read_items inner ty open_structs n done at) (next count index h)
    ∙ ap (λ r. then_read r (read_items inner ty open_structs (count - (index + 1)))) fails
  where
    next : (count index : ℕ) → index < count → count - index ≡ suc (count - (index + 1))
    next count index h = omega (arith, h)

-- one item of several that fails
pub no_item : (inner : Inner) (ty : ℕ) (open_structs : List OpenStruct) (count index : ℕ) (done more : List Field) (at : ℕ) (e : FieldError) (x : Reads (List Field)) → index < count → x ≡ read_items inner ty open_structs (count - index) done at
    → GivesWith (read_item inner ty open_structs done at) more (Err e) → GivesWith x more (Err e)
no_item inner ty open_structs count index done more at ShortContent x h is fails = is ∙ failed inner ty open_structs count index done at ShortContent h fails
no_item inner ty open_structs count index done more at NoVariant x h is fails = is ∙ failed inner ty open_structs count index done at NoVariant h fails
no_item inner ty open_structs count index done more at TooLong x h is fails = is ∙ failed inner ty open_structs count index done at TooLong h fails
no_item inner ty open_structs count index done more at OutOfMemory x h is fails = tt
