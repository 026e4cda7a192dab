use Rattle.std.proofs.Common.{◌≡◌, drop}
use Rattle.std.specs.List.{list_any}
use Rattle.read_plan.specs.Lone.{looks_into}
use Rattle.read_plan.proofs.lone.none_looks_into.Given as goal

abbrev pub invariant-loop-index : goal.invariant-loop-index
invariant-loop-index l = list_any (looks_into l.scope) l.table.types ≡ list_any (looks_into l.scope) (drop l.index l.table.types)
