use Rattle.std.proofs.Common.{◌≡◌, drop}
use Rattle.kernel_layout.specs.Plans.{no_fields, plan_from}
use Rattle.kernel_layout.proofs.plan.plan_of_fields.Given as goal

abbrev pub invariant-loop-field : goal.invariant-loop-field
invariant-loop-field l = plan_from l.table (record { ty = l.ty; bits = l.bits; fields = l.planned }) (drop l.field-index l.fields) ≡ plan_from l.table (no_fields l.ty) l.fields
