-- Events whose kind is told by their name alone, or by a plan, so that fields of one size may be passed over (this project's own).
use Rattle.std.specs.Prelude.{ℕ, ◌&&◌, Bool, true, false, List, Option, Some, None, option_map, slice_get, unwrap_or, if◌then◌else◌}
use Rattle.std.specs.Option.{is_none}
use Rattle.type_table.specs.declared.declared.EventParts.{EventParts}
use Rattle.trace_types.specs.declared.event_kind.EventKind.{EventKind}
use Rattle.trace_types.specs.declared.event_kind.EventKind.TheVariants as event_kind
use Rattle.read_plan.specs.declared.fixed.FixedSize.{FixedSize}
use Rattle.read_plan.specs.FixedSizes.{size_at}
use Rattle.kernel_layout.specs.declared.plan.EventPlan.{EventPlan}

-- whether an event of this kind is told by its fields; a system call and any other event are told by their names
abbrev pub needs_fields : EventKind → Bool
needs_fields event_kind.CallIn = false
needs_fields event_kind.CallOut = false
needs_fields event_kind.Other = false
needs_fields _ = true

-- the kind of the name of this number
abbrev pub kind_at : List EventKind → ℕ → EventKind
kind_at kinds name = unwrap_or (slice_get kinds name) event_kind.Other

-- how many bits an event's fields take, by the sizes of the types
abbrev pub bits_of : List (Option FixedSize) → Option ℕ → Option ℕ
bits_of sizes None = Some 0
bits_of sizes (Some ty) = option_map (λ s. s.bits) (size_at sizes ty)

-- how many bits of an event may be passed over: its kind needs none of its fields, or they are read by a plan
abbrev pub skip_of : List EventKind → List (Option FixedSize) → Option EventPlan → EventParts → Option ℕ
skip_of kinds sizes plan parts = if needs_fields (kind_at kinds parts.name) && is_none plan then None else bits_of sizes parts.fields
