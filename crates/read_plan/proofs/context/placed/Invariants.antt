use Rattle.std.proofs.Common.{◌≡◌, is_some, true, drop}
use Rattle.read_plan.specs.Contexts.{leaves_size, placed}
use Rattle.read_plan.proofs.context.placed.Given as goal

abbrev pub invariant-loop-field : goal.invariant-loop-field
invariant-loop-field l = record {
  same : placed l.table l.text 0 l.fields ≡ placed l.table l.text l.done.bits (drop l.field-index l.fields);
  fits : is_some (leaves_size l.table l.done (drop l.field-index l.fields)) ≡ true;
}
