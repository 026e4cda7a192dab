-- The blocks of a text and what they tell (CTF 1.8, sections 5 to 7). An entry is judged where it ends; what is missing, and what is wrong by what isn't written, at the closing brace.
use Rattle.std.specs.Prelude.{ℕ, pos, Bool, true, false, not, ◌&&◌, ◌||◌, if◌then◌else◌, List, [], ◌∷◌, Option, Some, None, is_some, unwrap_or, codes, Result, Ok, Err, ◌≡◌}
use Rattle.std.specs.List.{list_any}
use Rattle.trace_types.specs.declared.byte_order.ByteOrderKind.{ByteOrderKind}
use Rattle.tsdl_parser.specs.declared.tree.Attr.{Attr}
use Rattle.tsdl_parser.specs.declared.tree.AttrValue.{AttrValue}
use Rattle.tsdl_parser.specs.declared.tree.AttrValue.TheVariants as value
use Rattle.tsdl_parser.specs.declared.tree.BlockKind.{BlockKind}
use Rattle.tsdl_parser.specs.declared.tree.BlockKind.TheVariants.{Trace, Stream, Event, Clock, Env, Callsite}
use Rattle.tsdl_parser.specs.declared.tree.Entry.{Entry}
use Rattle.tsdl_parser.specs.declared.tree.Entry.TheVariants as entry
use Rattle.type_scope.specs.BlockContexts.{BlockContext, Written}
use Rattle.type_table.specs.declared.cause.MetaItemCause.{MetaItemCause}
use Rattle.type_table.specs.declared.fault.Fault.{Fault}
use Rattle.type_table.specs.declared.fault.Fault.TheVariants.{Breaks, OutOfMemory}
use Rattle.type_table.specs.declared.cause.MetaItemCause.TheVariants.{DuplicateId, BadAttribute, BadReference}
use Rattle.type_table.specs.declared.meta.ScopeName.{ScopeName}
use Rattle.type_table.specs.declared.meta.ScopeName.TheVariants.{PacketHeader, PacketContext, EventHeader, StreamContext, EventContext, EventFields}
use Rattle.type_table.specs.declared.declared.ClockRate.{ClockRate}
use Rattle.type_table.specs.declared.declared.EventId.{EventId}
use Rattle.type_scope.specs.declared.field_path.Use.TheVariants as used
use Rattle.type_scope.specs.TypeScopes.{Step, Good, ◌>>=◌, ◌>>◌, pure, breaks, require, with_deferred, with_scopes}
use Rattle.type_table.specs.PerScope.{no_scopes, with_scope}
use Rattle.type_scope.specs.References.{all_lead}
use Rattle.type_scope.specs.Uses.{is_struct}
use Rattle.type_scope.specs.Declaring.{has_clock, has_event, stream_of, scopes_begun, declaring, with_clock, with_event_named, with_hostname, with_stream, with_trace_read, with_uuid}
use Rattle.type_rules.specs.Typing.{fields_within, used_as}
use Rattle.tsdl_types.specs.Uuids.{uuid_said}
use Rattle.trace_types.specs.declared.limits.TheConstants.{MAX_BRACES}
use Rattle.tsdl_parser.specs.declared.tree.TypeTree.{TypeTree}
use Rattle.type_table.specs.Types.{Text}
use Rattle.type_rules.specs.Attributes.{dotted, is_seen, noted, id_said, freq_said, offset_said, is_version, trace_order_said}
use Rattle.type_scope.specs.Said.{is_named, said, same_words, value_named}

-- ---- entries

abbrev pub path_of : Entry → List Text
path_of (entry.Assign a) = a.path
path_of (entry.Declare path ty) = path

-- the entries that have a value
abbrev pub attrs_in : List Entry → List Attr
attrs_in [] = []
attrs_in (entry.Assign a ∷ es) = a ∷ attrs_in es
attrs_in (entry.Declare path ty ∷ es) = attrs_in es

-- the type of the first entry of one for this path
abbrev pub tree_declared : List Text → List Entry → Option TypeTree
tree_declared path [] = None
tree_declared path (entry.Assign a ∷ es) = tree_declared path es
tree_declared path (entry.Declare p ty ∷ es) = if same_words p path then Some ty else tree_declared path es

-- an entry of a value for this word
abbrev pub is_assigned : Text → List Entry → Bool
is_assigned name entries = is_some (value_named name (attrs_in entries))

abbrev pub two : Text → Text → List Text
two a b = a ∷ b ∷ []

-- ---- scopes

abbrev pub first_scope : List (Bool × ScopeName) → Option ScopeName
first_scope [] = None
first_scope (s ∷ ss) = if s.0 then Some s.1 else first_scope ss

-- the scope whose type an entry of a block gives
abbrev pub scope_given : BlockKind → List Text → Option ScopeName
scope_given Trace path = first_scope ((same_words path (two (codes "packet") (codes "header")), PacketHeader) ∷ [])
scope_given Stream path = first_scope (
    (same_words path (two (codes "packet") (codes "context")), PacketContext)
    ∷ (same_words path (two (codes "event") (codes "header")), EventHeader)
    ∷ (same_words path (two (codes "event") (codes "context")), StreamContext) ∷ [])
scope_given Event path = first_scope (
    (same_words path (codes "context" ∷ []), EventContext)
    ∷ (same_words path (codes "fields" ∷ []), EventFields) ∷ [])
scope_given _ path = None

-- the types that the entries of a block give its scopes
abbrev pub written : BlockKind → List Entry → Written
written Trace es = with_scope PacketHeader (tree_declared (two (codes "packet") (codes "header")) es) no_scopes
written Stream es =
    with_scope StreamContext (tree_declared (two (codes "event") (codes "context")) es)
    (with_scope EventHeader (tree_declared (two (codes "event") (codes "header")) es)
    (with_scope PacketContext (tree_declared (two (codes "packet") (codes "context")) es) no_scopes))
written Event es = with_scope EventFields (tree_declared (codes "fields" ∷ []) es) (with_scope EventContext (tree_declared (codes "context" ∷ []) es) no_scopes)
written _ es = no_scopes

-- ---- values

abbrev pub is_one_of : List Text → List Text → Bool
is_one_of [] path = false
is_one_of (name ∷ names) path = same_words path (name ∷ []) || is_one_of names path

-- the attributes of a block that have values
abbrev pub values_of : BlockKind → List Text
values_of Trace = codes "byte_order" ∷ codes "major" ∷ codes "uuid" ∷ []
values_of Stream = codes "id" ∷ []
values_of Event = codes "name" ∷ codes "id" ∷ codes "stream_id" ∷ []
values_of Clock = codes "name" ∷ codes "freq" ∷ codes "offset" ∷ codes "offset_s" ∷ []
values_of Env = codes "hostname" ∷ []
values_of Callsite = []

-- an attribute of a block that has a value; after the first host's name later ones aren't looked at
abbrev pub has_value : BlockKind → Bool → List Text → Bool
has_value Env true path = false
has_value kind is_hostname_told path = is_one_of (values_of kind) path

-- a name is a text or a path
abbrev pub name_said : AttrValue → Option Text
name_said (value.Signed z) = None
name_said (value.Str text) = Some text
name_said (value.Path words) = Some (dotted words)

abbrev pub text_said : AttrValue → Option Text
text_said (value.Str text) = Some text
text_said _ = None

-- the ids that a stream or an event has by what is written in its block
abbrev pub id_in : Text → List Entry → ℕ
id_in name entries = unwrap_or (said id_said name (attrs_in entries)) 0

-- ---- what may be declared once

abbrev pub new_stream : ℕ → Step (Unit {0})
new_stream id = λ k. require (not (is_some (stream_of id k.declared))) DuplicateId k

abbrev pub new_event : EventId → Step (Unit {0})
new_event id = λ k. require (not (has_event id k.declared)) DuplicateId k

abbrev pub stream_there : ℕ → Step (Unit {0})
stream_there id = λ k. require (is_some (stream_of id k.declared)) BadReference k

abbrev pub new_clock : Text → Step (Unit {0})
new_clock name = λ k. require (not (has_clock name k.declared)) DuplicateId k

-- ---- entries that have values, with all entries of the block

-- what a test ensures
abbrev pub Needs : Bool → MetaItemCause → Result (Unit {0}) Fault → Type 0
Needs holds cause (Ok u) = holds ≡ true
Needs holds cause (Err (Breaks c)) = (holds ≡ false) × (c ≡ cause)
Needs holds cause (Err OutOfMemory) = ⊥

abbrev pub reads : {A : Type 0} → Option A → Step (Unit {0})
reads found = require (is_some found) BadAttribute

abbrev pub uuid_read : Option (List ℕ) → Step (Unit {0})
uuid_read None = breaks BadAttribute
uuid_read (Some u) = declaring (with_uuid u)

abbrev pub trace_value : Attr → Step (Unit {0})
trace_value a =
    if is_named (codes "byte_order") a then reads (trace_order_said a.value)
    else if is_named (codes "major") a then require (is_version a.value) BadAttribute
    else if is_named (codes "uuid") a then uuid_read (uuid_said a.value)
    else pure tt

abbrev pub stream_value : Attr → Step (Unit {0})
stream_value a =
    if is_named (codes "id") a then reads (id_said a.value) >> new_stream (unwrap_or (id_said a.value) 0)
    else pure tt

-- what an event is found by, as far as it is written in its block
abbrev pub event_id_in : List Entry → EventId
event_id_in all = record { stream = id_in (codes "stream_id") all; id = id_in (codes "id") all }

-- an entry of this one word, of a value or a type
abbrev pub is_entry : Text → Entry → Bool
is_entry name e = same_words (path_of e) (name ∷ [])

-- of two words that entries are of, the first entry of this one stands after an entry of the other, if there is one
abbrev pub stands_last : Text → Text → List Entry → Bool
stands_last name other [] = true
stands_last name other (e ∷ es) =
    if is_entry name e then not (list_any (is_entry other) es)
    else if is_entry other e then true
    else stands_last name other es

-- the pair of ids is judged at the one that first stands last
abbrev pub new_pair : Text → Text → List Entry → Step (Unit {0})
new_pair name other all = if stands_last name other all then new_event (event_id_in all) else pure tt

abbrev pub event_value : List Entry → Attr → Step (Unit {0})
event_value all a =
    if is_named (codes "name") a then reads (name_said a.value)
    else if is_named (codes "id") a then reads (id_said a.value) >> new_pair (codes "id") (codes "stream_id") all
    else if is_named (codes "stream_id") a then reads (id_said a.value) >> new_pair (codes "stream_id") (codes "id") all >> stream_there (unwrap_or (id_said a.value) 0)
    else pure tt

abbrev pub clock_value : Attr → Step (Unit {0})
clock_value a =
    if is_named (codes "name") a then reads (name_said a.value) >> new_clock (unwrap_or (name_said a.value) [])
    else if is_named (codes "freq") a then reads (freq_said a.value)
    else if is_named (codes "offset") a then reads (offset_said a.value)
    else if is_named (codes "offset_s") a then reads (offset_said a.value)
    else pure tt

abbrev pub hostname_read : Option Text → Option Text → Step (Unit {0})
hostname_read (Some known) found = pure tt
hostname_read None None = breaks BadAttribute
hostname_read None (Some name) = declaring (with_hostname name)

-- the first host's name counts, over all blocks
abbrev pub env_value : Attr → Step (Unit {0})
env_value a =
    if is_named (codes "hostname") a then (λ k. hostname_read k.declared.hostname (text_said a.value) k)
    else pure tt

abbrev pub value_by : BlockKind → List Entry → Attr → Step (Unit {0})
value_by Trace all a = trace_value a
value_by Stream all a = stream_value a
value_by Event all a = event_value all a
value_by Clock all a = clock_value a
value_by Env all a = env_value a
value_by Callsite all a = pure tt

-- ---- entries

-- a path that stood before may not stand again, but in an environment
abbrev pub is_again : BlockKind → Bool → Bool
is_again Env stood = false
is_again _ stood = stood

-- around a type of an entry: the scope that it is of, if it is of one, and the types of the block's scopes
abbrev pub entry_context : ByteOrderKind → BlockKind → List Entry → List Text → BlockContext
entry_context order kind all path = record { order = order; reading = scope_given kind path; written = written kind all }

-- the type of a scope is a structure; a breach in a type comes before a breach by its use
abbrev pub declared_by : ByteOrderKind → BlockKind → List Entry → Bool → List Text → TypeTree → Option ScopeName → Step (Unit {0})
declared_by order kind all stood path ty None = do
  used_as (fields_within MAX_BRACES (entry_context order kind all path)) (entry_context order kind all path) used.Alone ty
  λ k. require (not (is_again kind stood || has_value kind (is_some k.declared.hostname) path)) BadAttribute k
declared_by order kind all stood path ty (Some scope) = do
  t ← used_as (fields_within MAX_BRACES (entry_context order kind all path)) (entry_context order kind all path) used.Alone ty
  require (is_struct t && not (is_again kind stood)) BadAttribute
  λ k. Good (tt, with_scopes (with_scope scope (Some t) k.scopes) k)

abbrev pub assigned_by : BlockKind → List Entry → Bool → Attr → Step (Unit {0})
assigned_by kind all stood a =
    require (not (is_again kind stood || is_some (scope_given kind a.path))) BadAttribute >> value_by kind all a

-- an entry, whose path stood before or not
unfoldable pub entry_of : ByteOrderKind → BlockKind → List Entry → Bool → Entry → Step (Unit {0})
entry_of order kind all stood (entry.Assign a) = assigned_by kind all stood a
entry_of order kind all stood (entry.Declare path ty) = declared_by order kind all stood path ty (scope_given kind path)

-- after entries of these paths
abbrev pub entries_from : ByteOrderKind → BlockKind → List Entry → List (List Text) → List Entry → Step (Unit {0})
entries_from order kind all seen [] = pure tt
entries_from order kind all seen (e ∷ es) = entry_of order kind all (is_seen (path_of e) seen) e >> entries_from order kind all (noted (path_of e) seen) es

-- ---- blocks

-- the stream whose scopes are read before those of a block
abbrev pub stream_before : BlockKind → List Entry → Option ℕ
stream_before Event all = Some (id_in (codes "stream_id") all)
stream_before _ all = None

abbrev pub started : BlockKind → List Entry → Step (Unit {0})
started kind all = λ k. Good (tt, with_deferred [] (with_scopes (scopes_begun (stream_before kind all) k) k))

abbrev pub paths_lead : Step (Unit {0})
paths_lead = λ k. require (all_lead k.scopes k.deferred) BadReference k

abbrev pub trace_declared : List Entry → Step (Unit {0})
trace_declared all = require (is_assigned (codes "byte_order") all) BadAttribute >> paths_lead >> declaring with_trace_read

-- what isn't written is judged here; what was judged where it is written holds still
abbrev pub stream_declared : List Entry → Step (Unit {0})
stream_declared all =
    new_stream (id_in (codes "id") all)
    >> paths_lead
    >> (λ k. declaring (with_stream (id_in (codes "id") all) (record { packet_context = k.scopes.packet_context; event_header = k.scopes.event_header; event_context = k.scopes.stream_context })) k)

-- the index of an event's name among the names, and the names with it
abbrev pub name_in : List Entry → Text
name_in all = unwrap_or (said name_said (codes "name") (attrs_in all)) []

abbrev pub event_declared : List Entry → Step (Unit {0})
event_declared all =
    new_event (event_id_in all)
    >> (if is_assigned (codes "stream_id") all then pure tt else stream_there 0)
    >> paths_lead
    >> (λ k. declaring (with_event_named (name_in all) (event_id_in all) k.scopes.event_context k.scopes.event_fields) k)

abbrev pub rate_in : List Entry → ClockRate
rate_in all = record {
  freq = unwrap_or (said freq_said (codes "freq") (attrs_in all)) 1000000000;
  offset = unwrap_or (said offset_said (codes "offset") (attrs_in all)) (pos 0);
  offset_s = unwrap_or (said offset_said (codes "offset_s") (attrs_in all)) (pos 0);
}

abbrev pub clock_declared : List Entry → Step (Unit {0})
clock_declared all = require (is_assigned (codes "name") all) BadAttribute >> new_clock (name_in all) >> declaring (with_clock (name_in all) (rate_in all))

abbrev pub block_declared : BlockKind → List Entry → Step (Unit {0})
block_declared Trace all = trace_declared all
block_declared Stream all = stream_declared all
block_declared Event all = event_declared all
block_declared Clock all = clock_declared all
block_declared Env all = pure tt
block_declared Callsite all = pure tt

abbrev pub entered_by : ByteOrderKind → BlockKind → List Entry → Step (Unit {0})
entered_by order kind all = started kind all >> entries_from order kind all [] all >> block_declared kind all

abbrev pub is_passed_over : BlockKind → Bool
is_passed_over Callsite = true
is_passed_over _ = false

abbrev pub is_trace : BlockKind → Bool
is_trace Trace = true
is_trace _ = false

-- a second block of the trace is refused at its first word, and a callsite is passed over whole
unfoldable pub block_of : ByteOrderKind → BlockKind → List Entry → Step (Unit {0})
block_of order kind all =
    if is_passed_over kind then pure tt
    else ((λ k. require (not (is_trace kind && k.declared.is_trace_read)) DuplicateId k) >> entered_by order kind all)
