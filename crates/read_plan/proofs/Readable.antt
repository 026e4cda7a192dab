-- Integers of a sound table can be read.
use Rattle.std.proofs.Common.{◌≡◌, ◌∙◌, ℕ, Option, Some, None, slice_get, refl, sym, subst}
use Rattle.type_table.specs.Table.{IsSound, IsSoundTable, Table}
use Rattle.type_table.specs.declared.integer.Integer.{Integer}
use Rattle.type_table.specs.declared.meta.TypeMeta.{TypeMeta}
use Rattle.type_table.specs.declared.meta.TypeMeta.TheVariants as meta
use Rattle.type_table.proofs.Tables.{sound_at}
use Rattle.ctf_fields.specs.Leaves.{IsReadable}
use Rattle.ctf_fields.specs.Reading.{integer_of, integer_type}
use Rattle.ctf_fields.proofs.Integers.{same_type, type_number}

integer_sound : (o : Option TypeMeta) (i : Integer) → ((m : TypeMeta) → o ≡ Some m → IsSound m) → integer_of o ≡ Some i → IsReadable i
integer_sound (Some (meta.Integer integer)) i h e =
    let sound = h (meta.Integer integer) refl in
    let same : integer ≡ i = cc in
    subst IsReadable same (record { some = sound.0; wide = sound.1; aligned = sound.2 })
integer_sound None i h e = absurd (cc)
integer_sound (Some (meta.Struct align fs)) i h e = absurd (cc)
integer_sound (Some (meta.Enum base labels)) i h e = absurd (cc)
integer_sound (Some meta.Str) i h e = absurd (cc)
integer_sound (Some (meta.Variant tag fs)) i h e = absurd (cc)
integer_sound (Some (meta.Array count item)) i h e = absurd (cc)
integer_sound (Some (meta.Sequence count item)) i h e = absurd (cc)

pub readable : (t : Table) → IsSoundTable t → (ty : ℕ) (i : Integer) → integer_type t ty ≡ Some i → IsReadable i
readable t sound ty i e = by (slice_get t.types ty) refl (sym (same_type t ty (slice_get t.types ty) refl) ∙ e)
  where
    at : (n : ℕ) (m : TypeMeta) → slice_get t.types n ≡ Some m → IsSound m
    at n m is = sound_at t.types n m sound.sound is

    by : (m : Option TypeMeta) → slice_get t.types ty ≡ m → type_number t m ≡ Some i → IsReadable i
    by (Some (meta.Enum base labels)) is e = integer_sound (slice_get t.types base) i (at base) e
    by None is e = absurd (cc)
    by (Some (meta.Integer integer)) is e = integer_sound (Some (meta.Integer integer)) i (λ m same. at ty m (is ∙ same)) e
    by (Some (meta.Struct align fs)) is e = absurd (cc)
    by (Some meta.Str) is e = absurd (cc)
    by (Some (meta.Variant tag fs)) is e = absurd (cc)
    by (Some (meta.Array count item)) is e = absurd (cc)
    by (Some (meta.Sequence count item)) is e = absurd (cc)
