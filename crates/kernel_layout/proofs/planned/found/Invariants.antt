use Rattle.std.proofs.Common.{◌≡◌, drop}
use Rattle.kernel_layout.specs.Plans.{found}
use Rattle.kernel_layout.proofs.planned.found.Given as goal

abbrev pub invariant-loop-field : goal.invariant-loop-field
invariant-loop-field l = found l.name (drop l.field-index l.fields) ≡ found l.name l.fields
