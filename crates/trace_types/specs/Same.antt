-- When two paths, and two values, count as one: the comparison that the types derive, which tells all of them apart.
use Rattle.std.specs.Prelude.{Bool}
use Rattle.trace_types.specs.declared.path.Path.{Path as AttributePath}
use Rattle.trace_types.specs.declared.value.Value.{Value}
use Rattle.trace_types.specs.contracts.path.PathPartialEq.TheImpl as path
use Rattle.trace_types.specs.contracts.value.ValuePartialEq.TheImpl as value

abbrev pub same_path : AttributePath → AttributePath → Bool
same_path = path.ghosts.eq

abbrev pub same_value : Value → Value → Bool
same_value = value.ghosts.eq
