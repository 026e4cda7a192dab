-- Events whose fields were passed over are of the kind that they are with their fields.
use Rattle.std.proofs.Common.{◌≡◌, ◌∙◌, ℕ, zero, suc, ◌+◌, ◌≤◌, ◌&&◌, Bool, true, false, List, [], ◌∷◌, Option, None, Some, map, option_map, slice_get, unwrap_or, refl, sym, ap, subst}
use Rattle.std.specs.Option.{is_none, option_and_then}
use Rattle.type_table.specs.Table.{Table}
use Rattle.type_table.specs.TraceMetas.{IsSoundMeta, TraceMetaModel}
use Rattle.type_table.specs.declared.declared.EventId.{EventId}
use Rattle.type_table.specs.declared.declared.EventParts.{EventParts}
use Rattle.trace_types.specs.declared.event.KernelEvent.{KernelEvent}
use Rattle.trace_types.specs.declared.event_kind.EventKind.{EventKind}
use Rattle.trace_types.specs.declared.event_kind.EventKind.TheVariants as event_kind
use Rattle.ctf_fields.specs.declared.field.Field.{Field}
use Rattle.read_plan.specs.declared.fixed.FixedSize.{FixedSize}
use Rattle.ctf_fields.specs.declared.raw.RawEvent.{RawEvent}
use Rattle.read_plan.specs.FixedSizes.{AreSkips, FieldsTake, size_at, sizes_of, skip_at}
use Rattle.read_plan.specs.Placed.{AreFieldsOf, AreKeptOrAt, IsReadFrom}
use Rattle.read_plan.proofs.Passing.{some_of, takes_bits}
use Rattle.read_plan.proofs.Rows.{if_not, if_so}
use Rattle.kernel_layout.specs.Plans.{IsPlan, plan_at, plan_of, plan_of_type, struct_at}
use Rattle.kernel_layout.specs.Skips.{bits_of, kind_at, needs_fields, skip_of}
use Rattle.kernel_layout.specs.Tracepoints.{kinds_of, plans_of, skips_of}
use Rattle.kernel_layout.specs.Kinds.{event_of, kind_by, kind_of, name_of, or_other}
use Rattle.kernel_layout.specs.declared.plan.EventPlan.{EventPlan}
use Rattle.kernel_layout.proofs.PlanSteps.{is_plan}
use Rattle.kernel_layout.proofs.PlannedReads.{is_struct}

-- an event that is told by its name
told_by_name : (k : EventKind) (name : ℕ) (t : Table) (f g : Field) → needs_fields k ≡ false → event_of k name t f ≡ event_of k name t g
told_by_name event_kind.CallIn name t f g e = refl
told_by_name event_kind.CallOut name t f g e = refl
told_by_name event_kind.Other name t f g e = refl
told_by_name _ name t f g e = absurd (cc)

-- what may be passed over
split : (kinds : List EventKind) (sizes : List (Option FixedSize)) (plan : Option EventPlan) (parts : EventParts) (bits : ℕ) → skip_of kinds sizes plan parts ≡ Some bits
    → ((needs_fields (kind_at kinds parts.name) && is_none plan) ≡ false) × (bits_of sizes parts.fields ≡ Some bits)
split kinds sizes plan parts bits e = if_not (needs_fields (kind_at kinds parts.name) && is_none plan) (bits_of sizes parts.fields) bits e

-- what is said of an event is said of its parts
pub plan_there : (f : EventParts → Option EventPlan) (es : List (EventId × EventParts)) (event : ℕ) (e : EventId × EventParts) → slice_get es event ≡ Some e → plan_at (map (λ e. f e.1) es) event ≡ f e.1
plan_there f [] event e is = absurd (cc)
plan_there f (x ∷ es) zero e is = let same : x ≡ e = cc in ap (λ y. f y.1) same
plan_there f (x ∷ es) (suc event) e is = plan_there f es event e is

its_parts : (es : List (EventId × EventParts)) (event : ℕ) (parts : EventParts) → option_map (λ e. e.1) (slice_get es event) ≡ Some parts → (id : EventId) × (slice_get es event ≡ Some (id, parts))
its_parts [] event parts found = absurd (cc)
its_parts (x ∷ es) zero parts found = let same : x.1 ≡ parts = cc in (x.0, ap (λ p. Some (x.0, p)) same)
its_parts (x ∷ es) (suc event) parts found = its_parts es event parts found

skip_there : (f : EventParts → Option ℕ) (es : List (EventId × EventParts)) (event : ℕ) (e : EventId × EventParts) → slice_get es event ≡ Some e → skip_at (map (λ e. f e.1) es) event ≡ f e.1
skip_there f [] event e is = absurd (cc)
skip_there f (x ∷ es) zero e is = let same : x ≡ e = cc in ap (λ y. f y.1) same
skip_there f (x ∷ es) (suc event) e is = skip_there f es event e is

-- the skip and the plan of an event that is declared
pub its_skip : (m : TraceMetaModel) (event : ℕ) (parts : EventParts) → option_map (λ e. e.1) (slice_get m.declared.events event) ≡ Some parts
    → skip_at (skips_of m) event ≡ skip_of (kinds_of m) (sizes_of m.table) (plan_of m.table (kinds_of m) parts) parts
its_skip m event parts found =
    let there = its_parts m.declared.events event parts found in
    skip_there (λ p. skip_of (kinds_of m) (sizes_of m.table) (plan_of m.table (kinds_of m) p) p) m.declared.events event (there.0, parts) there.1

pub its_plan : (m : TraceMetaModel) (event : ℕ) (parts : EventParts) → option_map (λ e. e.1) (slice_get m.declared.events event) ≡ Some parts → plan_at (plans_of m) event ≡ plan_of m.table (kinds_of m) parts
its_plan m event parts found = let there = its_parts m.declared.events event parts found in plan_there (plan_of m.table (kinds_of m)) m.declared.events event (there.0, parts) there.1

-- and its name
its_name : (m : TraceMetaModel) (event : ℕ) (parts : EventParts) → option_map (λ e. e.1) (slice_get m.declared.events event) ≡ Some parts → name_of m event ≡ parts.name
its_name m event parts found = let there = its_parts m.declared.events event parts found in ap (λ o. unwrap_or (option_map (λ e. e.1.name) o) 0) there.1

fields_take : (t : Table) (fields : Option ℕ) (bits : ℕ) → bits_of (sizes_of t) fields ≡ Some bits → FieldsTake t fields bits
fields_take t None bits e = cc
fields_take t (Some ty) bits e = by (size_at (sizes_of t) ty) refl e
  where
    by : (o : Option FixedSize) → size_at (sizes_of t) ty ≡ o → option_map (λ s. s.bits) o ≡ Some bits → FieldsTake t (Some ty) bits
    by None is e = absurd (cc)
    by (Some s) is e = let same : s.bits ≡ bits = cc in subst (λ n. FieldsTake t (Some ty) n) same (takes_bits t ty s is)

-- what may be passed over of a trace's events takes as many bits
pub are_skips : (m : TraceMetaModel) → AreSkips m (skips_of m)
are_skips m event bits parts e found =
    fields_take m.table parts.fields bits (split (kinds_of m) (sizes_of m.table) (plan_of m.table (kinds_of m) parts) parts bits (sym (its_skip m event parts found) ∙ e)).1

-- ---- kinds of events whose fields were passed over

-- an event whose fields were kept
pub kind_kept : (m : TraceMetaModel) (bytes : List ℕ) (end : ℕ) (raw : RawEvent) (from : Option ℕ) (whole : Field) → from ≡ None → AreFieldsOf m bytes end (skips_of m) raw.event whole raw.fields from
    → kind_of m raw ≡ kind_by m (name_of m raw.event) whole
kind_kept m bytes end raw from whole none fields =
    ap (kind_by m (name_of m raw.event)) (subst (AreKeptOrAt m.table bytes end fields.parts.fields (skip_at (skips_of m) raw.event) whole raw.fields) none fields.fields)

-- an event whose fields were passed over and have no plan is told by its name
pub kind_unplanned : (m : TraceMetaModel) (bytes : List ℕ) (end : ℕ) (raw : RawEvent) (from : Option ℕ) (at : ℕ) (whole : Field) → from ≡ Some at → plan_at (plans_of m) raw.event ≡ None → AreFieldsOf m bytes end (skips_of m) raw.event whole raw.fields from
    → kind_of m raw ≡ kind_by m (name_of m raw.event) whole
kind_unplanned m bytes end raw from at whole some none fields =
    let parts = fields.parts in
    let passed = subst (AreKeptOrAt m.table bytes end parts.fields (skip_at (skips_of m) raw.event) whole raw.fields) some fields.fields in
    let plan : plan_of m.table (kinds_of m) parts ≡ None = sym (its_plan m raw.event parts fields.declared) ∙ none in
    let skip = split (kinds_of m) (sizes_of m.table) (plan_of m.table (kinds_of m) parts) parts passed.2.0 (sym (its_skip m raw.event parts fields.declared) ∙ passed.2.1) in
    let by_name : needs_fields (kind_at (kinds_of m) parts.name) ≡ false = only_first (needs_fields (kind_at (kinds_of m) parts.name)) (plan_of m.table (kinds_of m) parts) plan skip.0 in
    let named : needs_fields (kind_at (kinds_of m) (name_of m raw.event)) ≡ false = ap (λ n. needs_fields (kind_at (kinds_of m) n)) (its_name m raw.event parts fields.declared) ∙ by_name in
    ap (or_other (name_of m raw.event)) (told_by_name (kind_at (kinds_of m) (name_of m raw.event)) (name_of m raw.event) m.table raw.fields whole named)
  where
    only_first : (b : Bool) (o : Option EventPlan) → o ≡ None → (b && is_none o) ≡ false → b ≡ false
    only_first false o none e = refl
    only_first true None none e = absurd (cc)
    only_first true (Some p) none e = absurd (cc)

-- the plan of an event is that of its type
of_type : (m : TraceMetaModel) (event : ℕ) (parts : EventParts) (plan : EventPlan) → option_map (λ e. e.1) (slice_get m.declared.events event) ≡ Some parts → plan_at (plans_of m) event ≡ Some plan
    → (ty : ℕ) × (parts.fields ≡ Some ty) × (plan_of_type m.table ty ≡ Some plan)
of_type m event parts plan found e =
    let needs = if_so (needs_fields (kind_at (kinds_of m) parts.name)) (option_and_then (plan_of_type m.table) parts.fields) plan (sym (its_plan m event parts found) ∙ e) in
    some_of (plan_of_type m.table) parts.fields plan needs.1

plan_declared : (f : EventParts → Option EventPlan) (es : List (EventId × EventParts)) (event : ℕ) (plan : EventPlan) → plan_at (map (λ e. f e.1) es) event ≡ Some plan → (parts : EventParts) × (option_map (λ e. e.1) (slice_get es event) ≡ Some parts)
plan_declared f [] event plan e = absurd (cc)
plan_declared f (x ∷ es) zero plan e = (x.1, refl)
plan_declared f (x ∷ es) (suc event) plan e = plan_declared f es event plan e

-- it can be read by
pub plan_is : (m : TraceMetaModel) → IsSoundMeta m → (event : ℕ) (plan : EventPlan) → plan_at (plans_of m) event ≡ Some plan → IsPlan m.table plan
plan_is m sound event plan e =
    let parts = plan_declared (plan_of m.table (kinds_of m)) m.declared.events event plan e in
    let its = of_type m event parts.0 plan parts.1 e in
    (is_plan m.table sound.table its.0 plan its.2).1

-- an event with a plan is what it is by the fields at their places
pub kind_placed : (m : TraceMetaModel) → IsSoundMeta m → (bytes : List ℕ) (end : ℕ) (raw : RawEvent) (from : Option ℕ) (at : ℕ) (whole : Field) (plan : EventPlan) (kind : KernelEvent × Bool) → from ≡ Some at → plan_at (plans_of m) raw.event ≡ Some plan
    → AreFieldsOf m bytes end (skips_of m) raw.event whole raw.fields from → (at + plan.bits ≤ end → kind ≡ kind_by m (name_of m raw.event) (struct_at m.table plan.ty bytes end at)) → kind ≡ kind_by m (name_of m raw.event) whole
kind_placed m sound bytes end raw from at whole plan kind some e fields told =
    let parts = fields.parts in
    let its = of_type m raw.event parts plan fields.declared e in
    let passed = subst (AreKeptOrAt m.table bytes end parts.fields (skip_at (skips_of m) raw.event) whole raw.fields) some fields.fields in
    let reads : IsReadFrom m.table bytes end (Some its.0) at whole = subst (λ ty. IsReadFrom m.table bytes end ty at whole) its.1 passed.3 in
    let struct = is_struct m.table bytes end its.0 at whole plan its.2 passed.0 reads in
    let ty : plan.ty ≡ its.0 = (is_plan m.table sound.table its.0 plan its.2).0 in
    told struct.1 ∙ ap (λ n. kind_by m (name_of m raw.event) (struct_at m.table n bytes end at)) ty ∙ ap (kind_by m (name_of m raw.event)) (sym struct.0)
