-- Packets' contexts that take as many bits wherever they begin at a whole byte, and the numbers that are looked for in them (contexts are those of CTF 1.8, section 5.2, and the names those that LTTng writes; that such contexts are told apart is this project's own).
use Rattle.std.specs.Prelude.{◌≡◌, ℕ, zero, suc, ℤ, ◌+◌, ◌%◌, ◌≤◌, ◌&&◌, ◌||◌, Bool, nat_le, is_some, List, [], ◌∷◌, ◌++◌, length, Option, Some, None, Result, Ok, Err, codes, option_map, slice_get, unwrap_or, if◌then◌else◌}
use Rattle.std.specs.Option.{option_and_then}
use Rattle.type_table.specs.Names.{same_name}
use Rattle.type_table.specs.Table.{Table, name_at}
use Rattle.type_table.specs.Types.{Text}
use Rattle.type_table.specs.declared.meta.FieldMeta.{FieldMeta}
use Rattle.type_table.specs.declared.meta.TypeMeta.{TypeMeta}
use Rattle.type_table.specs.declared.meta.TypeMeta.TheVariants as meta
use Rattle.ctf_fields.specs.declared.error.FieldError.{FieldError}
use Rattle.ctf_fields.specs.declared.error.FieldError.TheVariants.{ShortContent}
use Rattle.ctf_fields.specs.declared.field.Field.{Field}
use Rattle.ctf_fields.specs.Fields.{Scopes}
use Rattle.ctf_fields.specs.Leaves.{IsReadable, integer_read}
use Rattle.ctf_fields.specs.Reading.{Reads, Got, Fails, integer_type, scope_read}
use Rattle.ctf_fields.specs.Values.{number_named}
use Rattle.read_plan.specs.declared.context.ContextNumbers.{ContextNumbers}
use Rattle.read_plan.specs.declared.context.ContextPlan.{ContextPlan}
use Rattle.read_plan.specs.declared.context.PlacedNumber.{PlacedNumber}
use Rattle.read_plan.specs.declared.fixed.FixedSize.{FixedSize}
use Rattle.read_plan.specs.FixedSizes.{joined, no_size, number_size, within_byte}

-- ---- what is looked for in a context

-- the numbers of a packet's context by which the packet is cut: of each name the first field, where it is a number
abbrev pub context_numbers : Table → Option Field → ContextNumbers
context_numbers t context = record {
  packet_size = number_named t (codes "packet_size") context;
  content_size = number_named t (codes "content_size") context;
  timestamp_begin = number_named t (codes "timestamp_begin") context;
  cpu_id = number_named t (codes "cpu_id") context;
  packet_seq_num = number_named t (codes "packet_seq_num") context;
  events_discarded = number_named t (codes "events_discarded") context;
}

-- ---- the plan of a context

-- the size of a type without fields in it: an integer of whole bytes, or a structure that has none
abbrev pub leaf_by : Table → ℕ → Option TypeMeta → Option FixedSize
leaf_by t ty (Some (meta.Struct align [])) = if within_byte align then Some no_size else None
leaf_by t ty other = option_and_then number_size (integer_type t ty)

abbrev pub leaf_size : Table → ℕ → Option FixedSize
leaf_size t ty = leaf_by t ty (slice_get t.types ty)

-- one more such field after those that take so much
abbrev pub with_leaf : Table → FixedSize → ℕ → Option FixedSize
with_leaf t done ty = option_and_then (joined done) (leaf_size t ty)

-- such fields after those that take so much
abbrev pub leaves_size : Table → FixedSize → List FieldMeta → Option FixedSize
leaves_size t done [] = Some done
leaves_size t done (f ∷ fs) = option_and_then (λ sum. leaves_size t sum fs) (with_leaf t done f.ty)

-- the number that a type is, so many bits behind the first one
abbrev pub placed_number : Table → ℕ → ℕ → Option PlacedNumber
placed_number t offset ty = option_map (λ i. record { offset = offset; integer = i; ty = ty }) (integer_type t ty)

-- the first field of a name, where it is a number, among fields that begin so many bits behind the first one
abbrev pub placed : Table → Text → ℕ → List FieldMeta → Option PlacedNumber
placed t text offset [] = None
placed t text offset (f ∷ fs) = if same_name text (name_at t.names f.name) then placed_number t offset f.ty else placed t text (offset + bits_of (leaf_size t f.ty)) fs
  where
    bits_of : Option FixedSize → ℕ
    bits_of None = 0
    bits_of (Some s) = s.bits

-- a plan of so many bits
abbrev pub plan_of_fields : Table → List FieldMeta → ℕ → ContextPlan
plan_of_fields t fs bits = record {
  bits = bits;
  packet_size = placed t (codes "packet_size") 0 fs;
  content_size = placed t (codes "content_size") 0 fs;
  timestamp_begin = placed t (codes "timestamp_begin") 0 fs;
  cpu_id = placed t (codes "cpu_id") 0 fs;
  packet_seq_num = placed t (codes "packet_seq_num") 0 fs;
  events_discarded = placed t (codes "events_discarded") 0 fs;
}

-- a context that tells no size has no plan: its packet takes all that is left of the file
abbrev pub tells_size : Table → List FieldMeta → Bool
tells_size t fs = is_some (placed t (codes "packet_size") 0 fs) || is_some (placed t (codes "content_size") 0 fs)

abbrev pub planned_context : Table → Option TypeMeta → Option ContextPlan
planned_context t (Some (meta.Struct align fs)) = if within_byte align && tells_size t fs then option_map (λ s. plan_of_fields t fs s.bits) (leaves_size t no_size fs) else None
planned_context t _ = None

-- how contexts of the type at an index are read by a plan, where they have one
abbrev pub context_plan : Table → ℕ → Option ContextPlan
context_plan t ty = planned_context t (slice_get t.types ty)

-- the plans of the first so many types
unfoldable pub plans_of_first : Table → ℕ → List (Option ContextPlan)
plans_of_first t zero = []
plans_of_first t (suc n) = plans_of_first t n ++ context_plan t n ∷ []

-- the plans of all types of a table, by their indices
abbrev pub context_plans : Table → List (Option ContextPlan)
context_plans t = plans_of_first t (length t.types)

abbrev pub plan_at : List (Option ContextPlan) → ℕ → Option ContextPlan
plan_at plans ty = unwrap_or (slice_get plans ty) None

-- ---- what is read by a plan

-- a number where it lies, behind this bit, with the index of its type
abbrev pub number_there : List ℕ → ℕ → ℕ → Option PlacedNumber → Option (ℤ × ℕ)
number_there bytes end at None = None
number_there bytes end at (Some p) = option_map (λ r. (r.0, p.ty)) (integer_read p.integer bytes end (at + p.offset))

abbrev pub numbers_there : List ℕ → ℕ → ContextPlan → ℕ → ContextNumbers
numbers_there bytes end plan at = record {
  packet_size = number_there bytes end at plan.packet_size;
  content_size = number_there bytes end at plan.content_size;
  timestamp_begin = number_there bytes end at plan.timestamp_begin;
  cpu_id = number_there bytes end at plan.cpu_id;
  packet_seq_num = number_there bytes end at plan.packet_seq_num;
  events_discarded = number_there bytes end at plan.events_discarded;
}

-- the numbers of the context from this bit on, and the bit behind it, where all of its bits are there
abbrev pub context_read : List ℕ → ℕ → ContextPlan → ℕ → Reads ContextNumbers
context_read bytes end plan at = if nat_le (at + plan.bits) end then Got (numbers_there bytes end plan at) (at + plan.bits) else Fails ShortContent

-- an answer that is what is read
abbrev pub as_numbers : Reads ContextNumbers → Result (ContextNumbers × ℕ) FieldError
as_numbers (Got numbers at) = Ok (numbers, at)
as_numbers (Fails cause) = Err cause

-- ---- what a plan is good for

-- what was read by a plan ends where the context ends, and has its numbers; or it fails as the context does
abbrev pub TellsNumbers : Table → Reads Field → Reads ContextNumbers → Type 0
TellsNumbers t (Got f bit) (Got numbers to) = (to ≡ bit) × (numbers ≡ context_numbers t (Some f))
TellsNumbers t (Fails cause) (Fails other) = other ≡ cause
TellsNumbers t (Got f bit) (Fails other) = ⊥
TellsNumbers t (Fails cause) (Got numbers to) = ⊥

-- by the plan a context of this type is read wherever it begins at a whole byte, whatever the bits and the scopes are
abbrev pub IsContextPlan : Table → ℕ → ContextPlan → Type 0
IsContextPlan t ty plan = (bytes : List ℕ) (end : ℕ) (scopes : Scopes) (at : ℕ) → at % 8 ≡ 0 → TellsNumbers t (scope_read (record { table = t; bytes = bytes; end = end; scopes = scopes }) ty at) (context_read bytes end plan at)

-- a number that can be read, and lies within so many bits
abbrev pub IsPlaced : ℕ → Option PlacedNumber → Type 0
IsPlaced bits None = Unit {0}
IsPlaced bits (Some p) = IsReadable p.integer × (p.offset ≤ bits)

-- a plan whose numbers can be read
pub record IsReadableContext (plan : ContextPlan) : Type 0 where
  pub packet_size : IsPlaced plan.bits plan.packet_size
  pub content_size : IsPlaced plan.bits plan.content_size
  pub timestamp_begin : IsPlaced plan.bits plan.timestamp_begin
  pub cpu_id : IsPlaced plan.bits plan.cpu_id
  pub packet_seq_num : IsPlaced plan.bits plan.packet_seq_num
  pub events_discarded : IsPlaced plan.bits plan.events_discarded

-- plans for types of a table, by their indices
abbrev pub AreContextPlans : Table → List (Option ContextPlan) → Type 0
AreContextPlans t plans = (ty : ℕ) (plan : ContextPlan) → plan_at plans ty ≡ Some plan → IsReadableContext plan × IsContextPlan t ty plan
