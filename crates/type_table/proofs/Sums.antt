-- Sums of fields.
use Rattle.std.proofs.Common.{◌≤◌, List, [], ◌∷◌, arith}
use Rattle.type_table.specs.declared.type_size.TypeSize.{TypeSize}
use Rattle.type_table.specs.declared.type_size.Sum.{Sum}
use Rattle.type_table.specs.declared.meta.FieldMeta.{FieldMeta}
use Rattle.type_table.specs.TypeSizes.{sum_from, summed_field}

-- the number of types never falls
pub parts_rise : (type_sizes : List TypeSize) (s : Sum) (fields : List FieldMeta) → s.nodes ≤ (sum_from type_sizes s fields).nodes
parts_rise type_sizes s [] = omega arith
parts_rise type_sizes s (f ∷ fs) = omega (arith, parts_rise type_sizes (summed_field type_sizes s f) fs)
