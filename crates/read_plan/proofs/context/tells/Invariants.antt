use Rattle.std.proofs.Common.{◌≡◌, is_some, drop}
use Rattle.read_plan.specs.Contexts.{placed}
use Rattle.read_plan.proofs.context.tells.Given as goal

abbrev pub invariant-loop-field : goal.invariant-loop-field
invariant-loop-field l = is_some (placed l.table l.text 0 l.fields) ≡ is_some (placed l.table l.text 0 (drop l.field-index l.fields))
