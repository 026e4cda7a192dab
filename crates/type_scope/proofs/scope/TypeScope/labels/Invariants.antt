use Rattle.std.proofs.Common.{◌≡◌, length, drop}
use Rattle.type_scope.specs.Labels.{labels_from, labels_said}
use Rattle.type_table.specs.Table.{Keeps, LabelNamesIn, labels_at}
use Rattle.type_scope.specs.View.{state, with_table}
use Rattle.type_scope.proofs.scope.TypeScope.labels.Given as goal

abbrev pub invariant-loop-label : goal.invariant-loop-label
invariant-loop-label l = (state l.self ≡ state l.fn.self) × (l.self ≡ with_table l.self.table l.fn.self) × Keeps l.fn.self.table l.self.table × LabelNamesIn (length l.self.table.names) l.found × (labels_from l.next (labels_at l.self.table.names l.found) (drop l.label-index l.labels) ≡ labels_said l.labels)
