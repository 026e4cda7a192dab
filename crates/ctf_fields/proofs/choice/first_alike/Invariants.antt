use Rattle.std.proofs.Common.{◌≡◌, drop}
use Rattle.ctf_fields.specs.Choice.{first_named}
use Rattle.ctf_fields.proofs.choice.first_alike.Given as goal

abbrev pub invariant-loop-field : goal.invariant-loop-field
invariant-loop-field l = first_named l.table.names l.name (drop l.field-index l.fields) ≡ first_named l.table.names l.name l.fields
