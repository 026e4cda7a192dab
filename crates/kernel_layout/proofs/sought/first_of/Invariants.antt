use Rattle.std.proofs.Common.{◌≡◌, drop}
use Rattle.std.specs.List.{find}
use Rattle.type_table.specs.Names.{same_name}
use Rattle.kernel_layout.specs.Sought.{text_of}
use Rattle.kernel_layout.proofs.sought.first_of.Given as goal

abbrev pub invariant-loop-sought : goal.invariant-loop-sought
invariant-loop-sought l = find (λ s. same_name (text_of s) l.name) (drop l.sought-index l.wanted) ≡ find (λ s. same_name (text_of s) l.name) l.wanted
