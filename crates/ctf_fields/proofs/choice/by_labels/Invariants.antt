use Rattle.std.proofs.Common.{◌≡◌, drop, length}
use Rattle.type_table.specs.Labels.{holding}
use Rattle.type_table.specs.Table.{LabelNamesIn}
use Rattle.ctf_fields.specs.Choice.{by_labels}
use Rattle.ctf_fields.proofs.choice.by_labels.Given as goal

abbrev pub invariant-loop-label : goal.invariant-loop-label
invariant-loop-label l = (by_labels l.table.names l.value (drop l.label-index l.labels) l.fields ≡ by_labels l.table.names l.value l.labels l.fields)
    × LabelNamesIn (length l.table.names) (holding l.value (drop l.label-index l.labels))
