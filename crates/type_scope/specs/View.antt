-- What the indices and numbers that a text's types are kept by stand for.
use Rattle.std.specs.Prelude.{ℕ, ◌<◌, List, [], ◌∷◌, ◌++◌, length, Option, Some, None, option_map, map, reverse}
use Rattle.std.specs.List.{AllByRecursion}
use Rattle.type_scope.specs.declared.scope.Frame.{Frame as FrameKept}
use Rattle.type_scope.specs.declared.scope.DeferredPath.{DeferredPath as DeferredKept}
use Rattle.type_table.specs.declared.meta.FieldMeta.{FieldMeta}
use Rattle.type_table.specs.declared.per_scope.PerScope.{PerScope}
use Rattle.type_table.specs.PerScope.{AllScopes, map_scopes, scopes_before}
use Rattle.type_table.specs.Types.{Text, Ty}
use Rattle.type_table.specs.Table.{Table, name_at, tree, trees, AreBelow, FieldsIn, FieldNamesIn}
use Rattle.type_table.specs.declared.declared.EventId.{EventId}
use Rattle.type_table.specs.declared.declared.EventParts.{EventParts}
use Rattle.type_table.specs.declared.declared.StreamScopes.{StreamScopes}
use Rattle.type_table.specs.TraceMetas.{DeclaredIndices, IfHere, IndexIn, DeclaredIn}
use Rattle.type_scope.specs.TypeScopes.{Event, Frame, DeferredPath, Scopes, Stream, Declared, TypeScope, State}

abbrev pub names_at : Table → List (Text × ℕ) → List (Text × Ty)
names_at t es = map (λ e. (e.0, tree t e.1)) es

abbrev pub read_at : Table → List FieldMeta → List (Text × Ty)
read_at t fs = map (λ f. (name_at t.names f.name, tree t f.ty)) fs

abbrev pub frame_at : Table → FrameKept → Frame
frame_at t f = record { is_struct = f.is_struct; inner = option_map (name_at t.names) f.inner; fields = read_at t f.fields }

-- of frames with the innermost first: it reads this field next; it has read this field
abbrev pub kept_inner : Option ℕ → List FrameKept → List FrameKept
kept_inner inner [] = []
kept_inner inner (f ∷ fs) = record { is_struct = f.is_struct; inner = inner; fields = f.fields } ∷ fs

abbrev pub kept_field : FieldMeta → List FrameKept → List FrameKept
kept_field field [] = []
kept_field field (f ∷ fs) = record { is_struct = f.is_struct; inner = None; fields = f.fields ++ field ∷ [] } ∷ fs

abbrev pub kept_fields : List FrameKept → List FieldMeta
kept_fields [] = []
kept_fields (f ∷ fs) = f.fields

abbrev pub kept_outer : List FrameKept → List FrameKept
kept_outer [] = []
kept_outer (f ∷ fs) = fs

-- the types of the scopes whose indices these are
abbrev pub scopes_at : Table → PerScope (Option ℕ) → Scopes
scopes_at t s = map_scopes (option_map (tree t)) s

abbrev pub deferred_at : Table → DeferredKept → DeferredPath
deferred_at t l = record { path_use = l.path_use; scope = l.scope; names = map (name_at t.names) l.words }

-- the indices of what is read before the blocks of a stream, or before those of the trace
abbrev pub indices_begun : PerScope (Option ℕ) → Option StreamScopes → PerScope (Option ℕ)
indices_begun s None = scopes_before s.packet_header None None None
indices_begun s (Some declared) = scopes_before s.packet_header declared.packet_context declared.event_header declared.event_context

abbrev pub stream_at : Table → (ℕ × StreamScopes) → ℕ × Stream
stream_at t s = (s.0, record { packet_context = option_map (tree t) s.1.packet_context; event_header = option_map (tree t) s.1.event_header; event_context = option_map (tree t) s.1.event_context })

abbrev pub event_at : Table → (EventId × EventParts) → EventId × Event
event_at t e = (e.0, record { name = e.1.name; context = option_map (tree t) e.1.context; fields = option_map (tree t) e.1.fields })

abbrev pub declared_at : Table → DeclaredIndices → Declared
declared_at t declared = record { is_trace_read = declared.is_trace_read; uuid = declared.uuid; streams = map (stream_at t) declared.streams; events = map (event_at t) declared.events; event_names = declared.event_names; clocks = declared.clocks; hostname = declared.hostname }

-- what is kept: the table, and indices and numbers in it
pub record TypeScopeModel : Type 0 where
  pub table : Table
  pub aliases : List (Text × ℕ)
  pub structs : List (Text × ℕ)
  pub variants : List (Text × ℕ)
  pub enums : List (Text × ℕ)
  pub frames : List FrameKept
  pub scopes : PerScope (Option ℕ)
  pub deferred : List DeferredKept
  pub declared : DeclaredIndices

abbrev pub with_table : Table → TypeScopeModel → TypeScopeModel
with_table t k = record { table = t; aliases = k.aliases; structs = k.structs; variants = k.variants; enums = k.enums; frames = k.frames; scopes = k.scopes; deferred = k.deferred; declared = k.declared }

abbrev pub known_at : Table → TypeScopeModel → TypeScope
known_at t k = record {
  aliases = names_at t k.aliases;
  structs = names_at t k.structs;
  variants = names_at t k.variants;
  enums = names_at t k.enums;
  frames = map (frame_at t) (reverse k.frames);
  scopes = scopes_at t k.scopes;
  deferred = map (deferred_at t) k.deferred;
  declared = declared_at t k.declared;
}

-- what it stands for
unfoldable pub state : TypeScopeModel → State
state k = record { types = trees k.table; known = known_at k.table k }

-- ---- all that is kept is in the table

abbrev pub NamedIn : Table → (Text × ℕ) → Type 0
NamedIn t e = e.1 < length t.types

abbrev pub FrameIn : Table → FrameKept → Type 0
FrameIn t f = IfHere (λ n. n < length t.names) f.inner × FieldsIn (length t.types) f.fields × FieldNamesIn (length t.names) f.fields

abbrev pub FramesIn : Table → List FrameKept → Type 0
FramesIn t fs = AllByRecursion (FrameIn t) fs

-- each scope that has a type has one of the table
abbrev pub ScopesIn : Table → PerScope (Option ℕ) → Type 0
ScopesIn t s = AllScopes (IfHere (IndexIn t)) s

abbrev pub DeferredIn : Table → DeferredKept → Type 0
DeferredIn t l = AreBelow (length t.names) l.words

abbrev pub AllDeferredIn : Table → List DeferredKept → Type 0
AllDeferredIn t ls = AllByRecursion (DeferredIn t) ls

pub record IsKept (t : Table) (k : TypeScopeModel) : Type 0 where
  pub aliases : AllByRecursion (NamedIn t) k.aliases
  pub structs : AllByRecursion (NamedIn t) k.structs
  pub variants : AllByRecursion (NamedIn t) k.variants
  pub enums : AllByRecursion (NamedIn t) k.enums
  pub frames : AllByRecursion (FrameIn t) k.frames
  pub scopes : ScopesIn t k.scopes
  pub deferred : AllByRecursion (DeferredIn t) k.deferred
  pub declared : DeclaredIn t k.declared
