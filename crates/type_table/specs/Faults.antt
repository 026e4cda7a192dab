-- What a function that types ensures where it refuses.
use Rattle.std.specs.Prelude.{Result, Ok, Err}
use Rattle.type_table.specs.declared.cause.MetaItemCause.{MetaItemCause}
use Rattle.type_table.specs.declared.fault.Fault.{Fault}
use Rattle.type_table.specs.declared.fault.Fault.TheVariants.{Breaks, OutOfMemory}

-- where a rule is broken, this holds of the cause
abbrev pub OnBreak : {A : Type 0} → (MetaItemCause → Type 0) → Result A Fault → Type 0
OnBreak P (Ok a) = Unit {0}
OnBreak P (Err (Breaks cause)) = P cause
OnBreak P (Err OutOfMemory) = Unit {0}
