-- How many numbers fields begin with.
use Rattle.std.proofs.Common.{ℕ, ◌≤◌, List, [], ◌∷◌, length, Option, Some, None, arith}
use Rattle.type_table.specs.Table.{Table}
use Rattle.type_table.specs.declared.integer.Integer.{Integer}
use Rattle.type_table.specs.declared.meta.FieldMeta.{FieldMeta}
use Rattle.ctf_fields.specs.Reading.{integer_type}
use Rattle.read_plan.specs.Headers.{leading_numbers, number_before}

-- there are no more numbers than fields
pub leading_few : (t : Table) (tag : Option ℕ) (fs : List FieldMeta) → length (leading_numbers t tag fs) ≤ length fs
leading_few t tag [] = omega arith
leading_few t tag (f ∷ fs) = by (integer_type t f.ty) (leading_few t tag fs)
  where
    by : (o : Option Integer) → length (leading_numbers t tag fs) ≤ length fs → length (number_before t tag f o (leading_numbers t tag fs)) ≤ length (f ∷ fs)
    by None h = omega arith
    by (Some i) h = omega (arith, h)
