use Rattle.std.proofs.Common.{take}
use Rattle.type_table.specs.VariantFields.{AreFirsts}
use Rattle.type_table.proofs.variant_fields.firsts_of.Given as goal

abbrev pub invariant-loop-index : goal.invariant-loop-index
invariant-loop-index l = AreFirsts l.firsts (take l.index l.fields)
