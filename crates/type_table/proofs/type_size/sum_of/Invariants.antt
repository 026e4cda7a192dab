use Rattle.std.proofs.Common.{◌≡◌, ◌≤◌, length, drop}
use Rattle.type_table.specs.TypeSizes.{sum_from, sum_of}
use Rattle.type_table.specs.Table.{FieldsIn}
use Rattle.type_table.proofs.type_size.sum_of.Given as goal

abbrev pub invariant-loop-field : goal.invariant-loop-field
invariant-loop-field l = (sum_from l.type_sizes l.sum (drop l.field-index l.fields) ≡ sum_of l.type_sizes l.fields) × FieldsIn (length l.type_sizes) (drop l.field-index l.fields) × (l.sum.nodes ≤ 65536)
