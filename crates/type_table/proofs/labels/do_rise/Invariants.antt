use Rattle.std.proofs.Common.{◌≡◌, None, drop}
use Rattle.type_table.specs.Labels.{rise_past}
use Rattle.type_table.proofs.labels.do_rise.Given as goal

abbrev pub invariant-loop-label : goal.invariant-loop-label
invariant-loop-label l = rise_past l.end (drop l.label-index l.labels) ≡ rise_past None l.labels
