-- What a text has declared up to a point in it, and what is being read there.
use Rattle.std.specs.Prelude.{◌≡◌, ℕ, ◌<◌, Bool, true, false, List, [], ◌∷◌, ◌++◌, length, max, Option, Some, None, if◌then◌else◌, not, is_some, Result, Ok, Err}
use Rattle.std.specs.Map.{lookup}
use Rattle.trace_types.specs.Texts.{is_text}
use Rattle.type_table.specs.declared.cause.MetaItemCause.{MetaItemCause}
use Rattle.type_table.specs.declared.cause.MetaItemCause.TheVariants.{UnknownType, DuplicateId, BadAttribute}
use Rattle.type_table.specs.declared.fault.Fault.{Fault}
use Rattle.type_table.specs.declared.fault.Fault.TheVariants.{Breaks, OutOfMemory}
use Rattle.type_table.specs.declared.meta.ScopeName.{ScopeName}
use Rattle.type_table.specs.declared.per_scope.PerScope.{PerScope}
use Rattle.type_table.specs.PerScope.{no_scopes}
use Rattle.type_table.specs.declared.names.NameKind.{NameKind}
use Rattle.type_table.specs.declared.names.NameKind.TheVariants.{Alias, Struct, Variant, Enum}
use Rattle.type_table.specs.declared.declared.ClockRate.{ClockRate}
use Rattle.type_table.specs.declared.declared.EventId.{EventId}
use Rattle.type_scope.specs.declared.field_path.PathUse.{PathUse}
use Rattle.type_table.specs.Types.{Text, Ty, Fields, No, fields_in, fits, widest}
use Rattle.tsdl_parser.specs.declared.tree.Label.{Label as LabelTree}
use Rattle.type_table.specs.declared.integer.Integer.{Integer}
use Rattle.type_scope.specs.Labels.{labels_said}
use Rattle.type_table.specs.Types.{Named, Struct as StructType, Variant as VariantType}
use Rattle.type_table.specs.Table.{tree_at}

-- a structure or a variant that is being read: its fields so far, and the name of the one whose structure is read now, if it is one
pub record Frame : Type 0 where
  pub is_struct : Bool
  pub inner : Option Text
  pub fields : List (Text × Ty)

-- the types of the scopes that can be read before here
abbrev pub Scopes : Type 0
Scopes = PerScope (Option Ty)

-- a field path into a scope that is declared further on in the same block
pub record DeferredPath : Type 0 where
  pub path_use : PathUse
  pub scope : ScopeName
  pub names : List Text

-- what blocks declared of a stream and of an event, with the types of their scopes; an event's name is an index among the names
pub record Stream : Type 0 where
  pub packet_context : Option Ty
  pub event_header : Option Ty
  pub event_context : Option Ty

pub record Event : Type 0 where
  pub name : ℕ
  pub context : Option Ty
  pub fields : Option Ty

-- what blocks declared: streams by their ids, events by theirs, clocks by their names, in the order of declaration
pub record Declared : Type 0 where
  pub is_trace_read : Bool
  pub uuid : Option (List ℕ)
  pub streams : List (ℕ × Stream)
  pub events : List (EventId × Event)
  pub event_names : List Text
  pub clocks : List (Text × ClockRate)
  pub hostname : Option Text

abbrev pub nothing_declared : Declared
nothing_declared = record { is_trace_read = false; uuid = None; streams = []; events = []; event_names = []; clocks = []; hostname = None }

-- the types of names, the innermost structure first, the scopes, and the field paths that the block's end will decide
pub record TypeScope : Type 0 where
  pub aliases : List (Text × Ty)
  pub structs : List (Text × Ty)
  pub variants : List (Text × Ty)
  pub enums : List (Text × Ty)
  pub frames : List Frame
  pub scopes : Scopes
  pub deferred : List DeferredPath
  pub declared : Declared

abbrev pub empty_scope : TypeScope
empty_scope = record { aliases = []; structs = []; variants = []; enums = []; frames = []; scopes = no_scopes; deferred = []; declared = nothing_declared }

abbrev pub named : NameKind → TypeScope → List (Text × Ty)
named Alias k = k.aliases
named Struct k = k.structs
named Variant k = k.variants
named Enum k = k.enums

-- the type of a name
abbrev pub type_named : NameKind → Text → TypeScope → Option Ty
type_named kind name k = lookup (is_text name) (named kind k)

abbrev pub with_name : NameKind → Text → Ty → TypeScope → TypeScope
with_name Alias name ty k = record { aliases = k.aliases ++ (name, ty) ∷ []; structs = k.structs; variants = k.variants; enums = k.enums; frames = k.frames; scopes = k.scopes; deferred = k.deferred; declared = k.declared }
with_name Struct name ty k = record { aliases = k.aliases; structs = k.structs ++ (name, ty) ∷ []; variants = k.variants; enums = k.enums; frames = k.frames; scopes = k.scopes; deferred = k.deferred; declared = k.declared }
with_name Variant name ty k = record { aliases = k.aliases; structs = k.structs; variants = k.variants ++ (name, ty) ∷ []; enums = k.enums; frames = k.frames; scopes = k.scopes; deferred = k.deferred; declared = k.declared }
with_name Enum name ty k = record { aliases = k.aliases; structs = k.structs; variants = k.variants; enums = k.enums ++ (name, ty) ∷ []; frames = k.frames; scopes = k.scopes; deferred = k.deferred; declared = k.declared }

abbrev pub with_frames : List Frame → TypeScope → TypeScope
with_frames frames k = record { aliases = k.aliases; structs = k.structs; variants = k.variants; enums = k.enums; frames = frames; scopes = k.scopes; deferred = k.deferred; declared = k.declared }

abbrev pub with_scopes : Scopes → TypeScope → TypeScope
with_scopes scopes k = record { aliases = k.aliases; structs = k.structs; variants = k.variants; enums = k.enums; frames = k.frames; scopes = scopes; deferred = k.deferred; declared = k.declared }

abbrev pub with_declared : Declared → TypeScope → TypeScope
with_declared declared k = record { aliases = k.aliases; structs = k.structs; variants = k.variants; enums = k.enums; frames = k.frames; scopes = k.scopes; deferred = k.deferred; declared = declared }

abbrev pub with_deferred : List DeferredPath → TypeScope → TypeScope
with_deferred deferred k = record { aliases = k.aliases; structs = k.structs; variants = k.variants; enums = k.enums; frames = k.frames; scopes = k.scopes; deferred = deferred; declared = k.declared }

-- all types of a text so far, and what is known
pub record State : Type 0 where
  pub types : List Ty
  pub known : TypeScope

-- ---- steps: what a part of a text gives, or the cause by which it breaks a rule first

pub data Typed (A : Type 0) : Type 0 where
  Good : A → Typed A
  Bad : MetaItemCause → Typed A

abbrev pub Step : Type 0 → Type 0
Step A = TypeScope → Typed (A × TypeScope)

abbrev pub and_then : {A B : Type 0} → Typed (A × TypeScope) → (A → Step B) → Typed (B × TypeScope)
and_then (Good r) f = f r.0 r.1
and_then (Bad cause) f = Bad cause

infixl 10 ◌>>=◌
abbrev pub ◌>>=◌ : {A B : Type 0} → Step A → (A → Step B) → Step B
p >>= f = λ k. and_then (p k) f

infixl 10 ◌>>◌
abbrev pub ◌>>◌ : {A B : Type 0} → Step A → Step B → Step B
p >> q = p >>= (λ _. q)

abbrev pub pure : {A : Type 0} → A → Step A
pure a = λ k. Good (a, k)

abbrev pub breaks : {A : Type 0} → MetaItemCause → Step A
breaks cause = λ k. Bad cause

abbrev pub require : Bool → MetaItemCause → Step (Unit {0})
require holds cause = λ k. if holds then Good (tt, k) else Bad cause

abbrev pub found_or : {A : Type 0} → Option A → MetaItemCause → Step A
found_or (Some a) cause = pure a
found_or None cause = breaks cause

-- ---- what a function ensures

-- a type's index, where the step gives its tree
abbrev pub Gives : Typed (Ty × TypeScope) → Result ℕ Fault → State → Type 0
Gives step (Ok index) s = (step ≡ Good (tree_at s.types index, s.known)) × (index < length s.types)
Gives step (Err (Breaks cause)) s = step ≡ Bad cause
Gives step (Err OutOfMemory) s = Unit {0}

-- a type's index and something more
abbrev pub Gives_too : {A : Type 0} → Typed ((Ty × A) × TypeScope) → Result (ℕ × A) Fault → State → Type 0
Gives_too step (Ok r) s = (step ≡ Good ((tree_at s.types r.0, r.1), s.known)) × (r.0 < length s.types)
Gives_too step (Err (Breaks cause)) s = step ≡ Bad cause
Gives_too step (Err OutOfMemory) s = Unit {0}

-- what the step gives
abbrev pub Does : {A : Type 0} → Typed (A × TypeScope) → Result A Fault → State → Type 0
Does step (Ok a) s = step ≡ Good (a, s.known)
Does step (Err (Breaks cause)) s = step ≡ Bad cause
Does step (Err OutOfMemory) s = Unit {0}

-- ---- frames and names

abbrev pub sized : Ty → Step Ty
sized ty = require (fits ty) BadAttribute >> pure ty

-- a structure or a variant begins
abbrev pub opened : Bool → Step (Unit {0})
opened is_struct = λ k. Good (tt, with_frames (record { is_struct = is_struct; inner = None; fields = [] } ∷ k.frames) k)

abbrev pub inner_in : Option Text → List Frame → List Frame
inner_in inner [] = []
inner_in inner (f ∷ fs) = record { is_struct = f.is_struct; inner = inner; fields = f.fields } ∷ fs

-- the field of this name is read, a structure itself; or one that is none
abbrev pub entered : Option Text → Step (Unit {0})
entered inner = λ k. Good (tt, with_frames (inner_in inner k.frames) k)

abbrev pub field_in : Text → Ty → List Frame → List Frame
field_in name ty [] = []
field_in name ty (f ∷ fs) = record { is_struct = f.is_struct; inner = None; fields = f.fields ++ (name, ty) ∷ [] } ∷ fs

-- a field was read
abbrev pub with_field : Text → Ty → Step (Unit {0})
with_field name ty = λ k. Good (tt, with_frames (field_in name ty k.frames) k)

abbrev pub fields_read : List Frame → List (Text × Ty)
fields_read [] = []
fields_read (f ∷ fs) = f.fields

abbrev pub outer : List Frame → List Frame
outer [] = []
outer (f ∷ fs) = fs

-- the structure or variant ends
abbrev pub closed : Step (List (Text × Ty))
closed = λ k. Good (fields_read k.frames, with_frames (outer k.frames) k)

abbrev pub ended : Step (Unit {0})
ended = λ k. Good (tt, with_frames (outer k.frames) k)

-- a structure of these fields, aligned to so many bits at least
abbrev pub struct_of : ℕ → List (Text × Ty) → Ty
struct_of align fields = StructType (max align (widest (fields_in fields))) (fields_in fields)

-- a variant of these fields without a tag
abbrev pub variant_of : List (Text × Ty) → Ty
variant_of fields = VariantType None (fields_in fields)

abbrev pub struct_ended : ℕ → Step Ty
struct_ended align = closed >>= (λ fields. sized (struct_of align fields))

abbrev pub variant_ended : Step Ty
variant_ended = closed >>= (λ fields. sized (variant_of fields))

-- the fields of a variant
abbrev pub fields_inside : Ty → Fields
fields_inside (VariantType field_path fields) = fields
fields_inside _ = No

-- an enumeration of these labels
abbrev pub enum_of : Integer → List LabelTree → Step Ty
enum_of i labels = found_or (labels_said labels) BadAttribute >>= (λ ls. pure (Named i ls))

-- a name, if there is one, that nothing has yet
abbrev pub is_free : NameKind → Option Text → TypeScope → Bool
is_free kind None k = true
is_free kind (Some name) k = not (is_some (type_named kind name k))

abbrev pub new_name : NameKind → Option Text → Step (Unit {0})
new_name kind name = λ k. require (is_free kind name k) DuplicateId k

abbrev pub declared : NameKind → Option Text → Ty → Step (Unit {0})
declared kind None ty = pure tt
declared kind (Some name) ty = λ k. Good (tt, with_name kind name ty k)

-- the type of a name that was declared before
abbrev pub known_as : NameKind → Text → Step Ty
known_as kind name = λ k. found_or (type_named kind name k) UnknownType k
