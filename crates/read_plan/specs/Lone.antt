-- Traces none of whose types looks into the headers of events, or none into the contexts of packets (field paths into scopes are those of CTF 1.8, section 7.3.2; that such traces are told apart is this project's own).
use Rattle.std.specs.Prelude.{◌≡◌, ℕ, Bool, true, false, not, List, Option, Some}
use Rattle.std.specs.List.{list_any}
use Rattle.type_table.specs.PerScope.{with_scope}
use Rattle.type_table.specs.Table.{Table}
use Rattle.type_table.specs.declared.meta.ScopeName.{ScopeName}
use Rattle.type_table.specs.declared.meta.ScopeName.TheVariants.{PacketHeader, PacketContext, EventHeader, StreamContext, EventContext, EventFields}
use Rattle.type_table.specs.declared.meta.TypeMeta.{TypeMeta}
use Rattle.type_table.specs.declared.meta.TypeMeta.TheVariants as meta
use Rattle.ctf_fields.specs.Fields.{Scopes}
use Rattle.ctf_fields.specs.Reading.{scope_read}
use Rattle.ctf_fields.specs.declared.field.Field.{Field}

-- a field path begins at this scope
abbrev pub begins_at : ScopeName → Option ScopeName → Bool
begins_at PacketHeader (Some PacketHeader) = true
begins_at PacketContext (Some PacketContext) = true
begins_at EventHeader (Some EventHeader) = true
begins_at StreamContext (Some StreamContext) = true
begins_at EventContext (Some EventContext) = true
begins_at EventFields (Some EventFields) = true
begins_at _ _ = false

-- the tag or the length of a type is looked for in this scope
abbrev pub looks_into : ScopeName → TypeMeta → Bool
looks_into scope (meta.Variant tag fs) = begins_at scope tag.scope
looks_into scope (meta.Sequence count item) = begins_at scope count.scope
looks_into scope _ = false

-- no type looks into this scope
abbrev pub none_looks_into : ScopeName → Table → Bool
none_looks_into scope t = not (list_any (looks_into scope) t.types)

-- no type looks into an event's header
abbrev pub headers_are_lone : Table → Bool
headers_are_lone t = none_looks_into EventHeader t

-- no type looks into a packet's context
abbrev pub contexts_are_lone : Table → Bool
contexts_are_lone t = none_looks_into PacketContext t

-- what is read of a type is the same whatever was read of this scope
abbrev pub IsLoneFrom : ScopeName → Table → Type 0
IsLoneFrom scope t = (bytes : List ℕ) (end : ℕ) (scopes : Scopes) (f : Option Field) (ty at : ℕ)
    → scope_read (record { table = t; bytes = bytes; end = end; scopes = with_scope scope f scopes }) ty at ≡ scope_read (record { table = t; bytes = bytes; end = end; scopes = scopes }) ty at

-- what is read of a type is the same whatever the header was
abbrev pub IsLone : Table → Type 0
IsLone t = IsLoneFrom EventHeader t

-- what is read of a type is the same whatever the packet's context was
abbrev pub HasLoneContexts : Table → Type 0
HasLoneContexts t = IsLoneFrom PacketContext t
