use Rattle.std.proofs.Common.{◌≡◌, ◌-◌, length, take}
use Rattle.ctf_fields.specs.Fields.{nearest}
use Rattle.ctf_fields.proofs.field_path.nearest.Given as goal

abbrev pub invariant-loop-behind : goal.invariant-loop-behind
invariant-loop-behind l = nearest l.table.names l.name (take (length l.members - l.behind) l.members) ≡ nearest l.table.names l.name l.members
