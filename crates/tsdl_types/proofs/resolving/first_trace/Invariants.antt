use Rattle.std.proofs.Common.{◌≡◌, drop}
use Rattle.tsdl_types.specs.Items.{first_trace}
use Rattle.tsdl_types.proofs.resolving.first_trace.Given as goal

abbrev pub invariant-loop-decl : goal.invariant-loop-decl
invariant-loop-decl l = first_trace (drop l.decl-index l.decls) ≡ first_trace l.decls
