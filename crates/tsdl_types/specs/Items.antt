-- The items of a text, and the first that breaks a rule (CTF 1.8, sections 4 to 7).
use Rattle.std.specs.Prelude.{◌≡◌, ℕ, ◌+◌, List, [], ◌∷◌, Option, Some, None, unwrap_or, codes, Result, Ok, Err}
use Rattle.trace_types.specs.declared.byte_order.ByteOrderKind.{ByteOrderKind}
use Rattle.trace_types.specs.declared.byte_order.ByteOrderKind.TheVariants.{Little}
use Rattle.tsdl_parser.specs.declared.tree.BlockKind.TheVariants.{Trace}
use Rattle.tsdl_parser.specs.declared.tree.Decl.{Decl}
use Rattle.tsdl_parser.specs.declared.tree.Entry.{Entry}
use Rattle.tsdl_parser.specs.declared.tree.Item.{Item}
use Rattle.tsdl_parser.specs.declared.tree.Item.TheVariants as item
use Rattle.tsdl_parser.specs.declared.tree.TypeTree.TheVariants as tree
use Rattle.type_scope.specs.BlockContexts.{BlockContext}
use Rattle.type_table.specs.declared.cause.MetaItemCause.{MetaItemCause}
use Rattle.type_table.specs.declared.cause.MetaItemCause.TheVariants.{NoTrace}
use Rattle.tsdl_types.specs.declared.error.MetaError.{MetaError}
use Rattle.tsdl_types.specs.declared.error.MetaError.TheVariants as error
use Rattle.type_table.specs.declared.fault.Fault.{Fault}
use Rattle.type_table.specs.declared.fault.Fault.TheVariants as fault
use Rattle.type_table.specs.declared.names.NameKind.TheVariants as kind
use Rattle.type_scope.specs.declared.field_path.Use.TheVariants as used
use Rattle.type_scope.specs.TypeScopes.{TypeScope, Step, Typed, Good, Bad, ◌>>=◌, ◌>>◌, pure, new_name, declared, empty_scope}
use Rattle.type_scope.specs.Following.{or_else}
use Rattle.type_scope.specs.Traces.{Trace as TraceDeclared, trace_of}
use Rattle.type_rules.specs.Attributes.{trace_order_said}
use Rattle.type_scope.specs.Said.{said}
use Rattle.type_table.specs.PerScope.{no_scopes}
use Rattle.tsdl_types.specs.Blocks.{attrs_in, block_of}
use Rattle.type_table.specs.Names.{spaced}
use Rattle.trace_types.specs.declared.limits.TheConstants.{MAX_BRACES}
use Rattle.type_rules.specs.Typing.{fields_within, used_as}

-- nothing of a block stands around a type of an item
abbrev pub outside : ByteOrderKind → BlockContext
outside order = record { order = order; reading = None; written = no_scopes }

unfoldable pub item_of : ByteOrderKind → Item → Step (Unit {0})
item_of order (item.Alias ty words) = do
  t ← used_as (fields_within MAX_BRACES (outside order)) (outside order) used.Alone ty
  new_name kind.Alias (Some (spaced words))
  declared kind.Alias (Some (spaced words)) t
item_of order (item.Struct t) = used_as (fields_within MAX_BRACES (outside order)) (outside order) used.Alone (tree.Struct t) >> pure tt
item_of order (item.Variant t) = used_as (fields_within MAX_BRACES (outside order)) (outside order) used.Alone (tree.Variant t) >> pure tt
item_of order (item.Enum t) = used_as (fields_within MAX_BRACES (outside order)) (outside order) used.Alone (tree.Enum t) >> pure tt
item_of order (item.Block kind entries) = block_of order kind entries

-- what a text declares, or the number of the first item that breaks a rule, from 1, and the cause
pub data Declared (A : Type 0) : Type 0 where
  Whole : A → Declared A
  Breaks : ℕ → MetaItemCause → Declared A

abbrev pub declared_on : ℕ → (TypeScope → Declared TypeScope) → Typed (Unit {0} × TypeScope) → Declared TypeScope
declared_on n rest (Good r) = rest r.1
declared_on n rest (Bad cause) = Breaks n cause

-- from this item on
abbrev pub declared_from : ByteOrderKind → ℕ → List Decl → TypeScope → Declared TypeScope
declared_from order n [] k = Whole k
declared_from order n (d ∷ decls) k = declared_on n (declared_from order (n + 1) decls) (item_of order d.item k)

abbrev pub declared_in : ByteOrderKind → List Decl → Declared TypeScope
declared_in order decls = declared_from order 1 decls empty_scope

-- what is declared, or the item that is refused
abbrev pub Declares : {A V : Type 0} → (V → A) → Declared A → Result V MetaError → Type 0
Declares value declared (Ok v) = declared ≡ Whole (value v)
Declares value declared (Err (error.Item n cause)) = declared ≡ Breaks n cause
Declares value declared (Err error.OutOfMemory) = Unit {0}

-- the item of this number, from 0
abbrev pub IsRefused : ℕ → Fault → MetaError → Type 0
IsRefused at (fault.Breaks cause) e = e ≡ error.Item (at + 1) cause
IsRefused at fault.OutOfMemory e = e ≡ error.OutOfMemory

-- ---- the whole text

-- the entries of a block of the trace
abbrev pub trace_entries : Item → Option (List Entry)
trace_entries (item.Block Trace entries) = Some entries
trace_entries _ = None

abbrev pub first_trace : List Decl → Option (List Entry)
first_trace [] = None
first_trace (d ∷ decls) = or_else (trace_entries d.item) (first_trace decls)

-- the byte order that a block of the trace says; where it says none, the block is refused
abbrev pub order_in : List Entry → ByteOrderKind
order_in entries = unwrap_or (said trace_order_said (codes "byte_order") (attrs_in entries)) Little

abbrev pub ended : ByteOrderKind → Declared TypeScope → Declared TraceDeclared
ended order (Whole k) = Whole (trace_of order k)
ended order (Breaks n cause) = Breaks n cause

-- a text without a block of the trace is refused before its items
abbrev pub resolved_by : List Decl → Option (List Entry) → Declared TraceDeclared
resolved_by decls None = Breaks 0 NoTrace
resolved_by decls (Some entries) = ended (order_in entries) (declared_in (order_in entries) decls)

abbrev pub resolved : List Decl → Declared TraceDeclared
resolved decls = resolved_by decls (first_trace decls)
