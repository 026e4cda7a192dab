-- What one trace declares, with its types as trees.
use Rattle.std.specs.Prelude.{Option, option_map}
use Rattle.trace_types.specs.declared.byte_order.ByteOrderKind.{ByteOrderKind}
use Rattle.type_table.specs.Table.{tree}
use Rattle.type_table.specs.TraceMetas.{TraceMetaModel}
use Rattle.type_table.specs.Types.{Ty}
use Rattle.type_scope.specs.TypeScopes.{TypeScope, Declared}
use Rattle.type_scope.specs.View.{declared_at}

-- the order of integers that don't tell their own, the type of packet headers, and what blocks declared
pub record Trace : Type 0 where
  pub order : ByteOrderKind
  pub packet_header : Option Ty
  pub declared : Declared

-- what a whole text declares, where this is known at its end
abbrev pub trace_of : ByteOrderKind → TypeScope → Trace
trace_of order k = record { order = order; packet_header = k.scopes.packet_header; declared = k.declared }

-- what indices in a table stand for
unfoldable pub trace : TraceMetaModel → Trace
trace m = record { order = m.order; packet_header = option_map (tree m.table) m.packet_header; declared = declared_at m.table m.declared }
