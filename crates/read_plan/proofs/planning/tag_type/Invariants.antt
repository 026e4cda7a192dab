use Rattle.std.proofs.Common.{◌≡◌, drop}
use Rattle.ctf_fields.specs.Fields.{or_else}
use Rattle.read_plan.specs.Headers.{tag_type}
use Rattle.read_plan.proofs.planning.tag_type.Given as goal

abbrev pub invariant-loop-number : goal.invariant-loop-number
invariant-loop-number l = or_else (tag_type (drop l.number-index l.numbers)) l.ty ≡ tag_type l.numbers
