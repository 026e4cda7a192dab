-- What stands around the types of a block (CTF 1.8, section 7.3.2).
use Rattle.std.specs.Prelude.{Option}
use Rattle.trace_types.specs.declared.byte_order.ByteOrderKind.{ByteOrderKind}
use Rattle.tsdl_parser.specs.declared.tree.TypeTree.{TypeTree}
use Rattle.type_table.specs.declared.meta.ScopeName.{ScopeName}
use Rattle.type_table.specs.declared.per_scope.PerScope.{PerScope}

-- the types that the entries of a block give its scopes, as they are written
abbrev pub Written : Type 0
Written = PerScope (Option TypeTree)

-- the trace's byte order, the scope that is being read, if it is one, and the scopes of the block
pub record BlockContext : Type 0 where
  pub order : ByteOrderKind
  pub reading : Option ScopeName
  pub written : Written
