use Rattle.std.proofs.Common.{◌≡◌, drop}
use Rattle.std.specs.Option.{option_copied}
use Rattle.ctf_fields.specs.Fields.{follow}
use Rattle.ctf_fields.proofs.field_path.follow.Given as goal

abbrev pub invariant-loop-name : goal.invariant-loop-name
invariant-loop-name l = follow l.table.names (option_copied l.at) (drop l.name-index l.words) ≡ follow l.table.names (option_copied l.fn.field) l.words
