-- Headers that are read by a plan, and what stands after them.
use Rattle.std.proofs.Common.{◌≡◌, ◌∙◌, inl, inr, ℕ, Bool, List, Option, None, Some, Result, Ok, Err, codes, option_map, position, slice_get, refl, sym, ap}
use Rattle.std.specs.Map.{keys_of}
use Rattle.type_table.specs.PerScope.{with_scope}
use Rattle.type_table.specs.declared.declared.EventParts.{EventParts}
use Rattle.type_table.specs.declared.declared.EventId.{EventId}
use Rattle.type_table.specs.TraceMetas.{TraceMetaModel, same_event}
use Rattle.type_table.specs.declared.meta.ScopeName.TheVariants.{EventHeader}
use Rattle.ctf_fields.specs.declared.error.FieldError.{FieldError}
use Rattle.ctf_fields.specs.declared.field.Field.{Field}
use Rattle.ctf_fields.specs.Fields.{Scopes, number_of}
use Rattle.ctf_fields.specs.Named.{first_named, last_named}
use Rattle.ctf_fields.specs.Reading.{Reads, Got, Fails, as_read, scope_read}
use Rattle.read_plan.specs.Headers.{Tells, as_answer, header_read}
use Rattle.read_plan.specs.Lone.{IsLone}
use Rattle.read_plan.specs.declared.header.HeaderNumbers.{HeaderNumbers}
use Rattle.read_plan.specs.declared.header.HeaderPlan.{HeaderPlan}
use Rattle.trace_types.specs.declared.cause.Cause.{Cause}
use Rattle.packet_decoder.specs.declared.events.EventHead.{EventHead}
use Rattle.packet_decoder.specs.declared.times.Timestamp.{Timestamp}
use Rattle.packet_decoder.specs.EventReaders.{HeadToldAs, IsHeadReadAs, NamedAs, PlanFits, is_bare}
use Rattle.packet_decoder.specs.Events.{PacketModel, as_result, cause_of, event_at, event_body, event_by, event_head, event_of, from_of, head_by, scope_at}
use Rattle.packet_decoder.specs.PacketHeads.{and_then}
use Rattle.packet_decoder.proofs.Alone.{IsUnseen, body_alone}
use Rattle.packet_decoder.specs.Times.{timestamp_in}
use Rattle.packet_decoder.specs.Values.{id_in, number_named}

-- ---- what stands after a header that no type looks into

module _ (w : PacketModel) (h : Option Field) (lone : IsLone w.meta.table) where
  unseen : IsUnseen w (with_scope EventHeader h)
  unseen = record { reads = λ s ty at. lone w.bytes w.end s h ty at; stream = λ x s. refl; event = λ x s. refl }

-- what stands after a header is read alike, whatever was kept of it
pub body_same : (w : PacketModel) (s : Scopes) (whole head : EventHead) → IsHeadReadAs w.meta.table whole head → event_body w (with_scope EventHeader head.header s) head.parts head.at ≡ event_body w (with_scope EventHeader whole.header s) whole.parts whole.at
body_same w s whole head read =
    ap (λ parts. event_body w (with_scope EventHeader head.header s) parts head.at) read.parts
    ∙ ap (λ at. event_body w (with_scope EventHeader head.header s) whole.parts at) read.at
    ∙ elim read.header [
      | inl same ↦ ap (λ h. event_body w (with_scope EventHeader h s) whole.parts whole.at) same
      | inr lone ↦ body_alone w (with_scope EventHeader head.header) (unseen w head.header lone) s whole.parts whole.at ∙ sym (body_alone w (with_scope EventHeader whole.header) (unseen w whole.header lone) s whole.parts whole.at)
    ]

-- ---- headers by their plan

-- a header that was read by a plan is there, and tells the same
pub planned_reads : (names : List (List ℕ)) (x : Reads Field) (y : Reads HeaderNumbers) (told : HeaderNumbers) (to : ℕ) → Tells names x y → Ok (told, to) ≡ as_answer y
    → (f : Field) × (as_result (as_read Some x) ≡ Ok (Some f, to)) × (told.id ≡ number_of (last_named names (codes "id") (Some f))) × (told.timestamp ≡ number_of (first_named names (codes "timestamp") (Some f)))
planned_reads names (Got f bit) (Got told' to') told to tells is =
    let both : Path (HeaderNumbers × ℕ) (told, to) (told', to') = cc in
    (f, ap (λ b. Ok (Some f, b)) (sym (ap (λ p. p.1) both ∙ tells.0)), ap (λ p. p.0.id) both ∙ tells.1, ap (λ p. p.0.timestamp) both ∙ tells.2)
planned_reads names (Got f bit) (Fails other) told to tells is = absurd tells
planned_reads names (Fails cause) (Got told' to') told to tells is = absurd tells
planned_reads names (Fails cause) (Fails other) told to tells is = absurd (cc)

-- a header that can't be read by a plan can't be read
pub planned_fails : (names : List (List ℕ)) (x : Reads Field) (y : Reads HeaderNumbers) (error : FieldError) → Tells names x y → Err error ≡ as_answer y → x ≡ Fails error
planned_fails names (Got f bit) (Got told to) error tells is = absurd (cc)
planned_fails names (Got f bit) (Fails other) error tells is = absurd tells
planned_fails names (Fails cause) (Got told to) error tells is = absurd tells
planned_fails names (Fails cause) (Fails other) error tells is = let same : error ≡ other = cc in ap Fails (sym (same ∙ tells))

-- what a header by its plan tells is what it tells
pub head_planned : (w : PacketModel) (s : Scopes) (plan : HeaderPlan) (told : HeaderNumbers) (to at event : ℕ) (parts : EventParts) (stamp : Option Timestamp)
    → PlanFits w.meta.table w.parts.event_header (Some plan) → Ok (told, to) ≡ as_answer (header_read w.bytes w.end plan at) → Some (event, parts) ≡ event_by w.meta w.stream (id_in told.id) → stamp ≡ timestamp_in w.meta.table told.timestamp
    → (whole : EventHead) × (event_head w s at ≡ Ok whole) × IsHeadReadAs w.meta.table whole (record { header = None; at = to; event = event; parts = parts; timestamp = stamp })
unfolding event_head
head_planned w s plan told to at event parts stamp fits answer found stamped = by w.parts.event_header refl fits
  where
    next : Option Field × ℕ → Result EventHead Cause
    next h = head_by w h.0 h.1 (event_of w.meta w.stream h.0)

    by : (ty : Option ℕ) → w.parts.event_header ≡ ty → PlanFits w.meta.table ty (Some plan)
        → (whole : EventHead) × (and_then (scope_at w s w.parts.event_header at) next ≡ Ok whole) × IsHeadReadAs w.meta.table whole (record { header = None; at = to; event = event; parts = parts; timestamp = stamp })
    by None is fits = absurd fits
    by (Some ty) is fits =
        let reads = planned_reads w.meta.table.names (scope_read (from_of w s) ty at) (header_read w.bytes w.end plan at) told to (fits.1 w.bytes w.end s at) answer in
        let f : Field = reads.0 in (
          record { header = Some f; at = to; event = event; parts = parts; timestamp = timestamp_in w.meta.table (number_named w.meta.table (codes "timestamp") (Some f)) },
          ap (λ h. and_then (scope_at w s h at) next) is ∙ ap (λ r. and_then r next) reads.1 ∙ ap (head_by w (Some f) to) (ap (λ id. event_by w.meta w.stream (id_in id)) (sym reads.2) ∙ sym found),
          record { at = refl; event = refl; parts = refl; timestamp = stamped ∙ ap (timestamp_in w.meta.table) reads.3; header = inr fits.2 },
        )

-- the event that an id finds is declared with its parts
event_declared : (meta : TraceMetaModel) (stream : ℕ) (id : Option ℕ) (event : ℕ) (parts : EventParts) → event_by meta stream id ≡ Some (event, parts) → option_map (λ d. d.1) (slice_get meta.declared.events event) ≡ Some parts
event_declared meta stream None event parts is = absurd (cc)
event_declared meta stream (Some id) event parts is = at (position (same_event (record { stream = stream; id = id })) (keys_of meta.declared.events)) is
  where
    found : (index : ℕ) (x : Option (EventId × EventParts)) → slice_get meta.declared.events index ≡ x → option_map {U = ℕ × EventParts} (λ e. (index, e.1)) x ≡ Some (event, parts) → option_map (λ d. d.1) (slice_get meta.declared.events event) ≡ Some parts
    found index None there is = absurd (cc)
    found index (Some e) there is =
        let both : Path (ℕ × EventParts) (index, e.1) (event, parts) = cc in
        ap (λ n. option_map (λ d. d.1) (slice_get meta.declared.events n)) (sym (ap (λ p. p.0) both)) ∙ ap (option_map (λ d. d.1)) there ∙ ap (λ p. Some p.1) both

    at : (p : Option ℕ) → event_at meta p ≡ Some (event, parts) → option_map (λ d. d.1) (slice_get meta.declared.events event) ≡ Some parts
    at None is = absurd (cc)
    at (Some index) is = found index (slice_get meta.declared.events index) refl is

-- the same of a header of whose event only the index is kept, and whether it is bare
pub head_told : (w : PacketModel) (s : Scopes) (plan : HeaderPlan) (told : HeaderNumbers) (to at event : ℕ) (bare : Bool) (stamp : Option Timestamp)
    → PlanFits w.meta.table w.parts.event_header (Some plan) → Ok (told, to) ≡ as_answer (header_read w.bytes w.end plan at) → NamedAs w (event_by w.meta w.stream (id_in told.id)) (Some (event, bare)) → stamp ≡ timestamp_in w.meta.table told.timestamp
    → HeadToldAs w (event_head w s at) (Ok (record { at = to; event = event; is_bare = bare; timestamp = stamp }))
head_told w s plan told to at event bare stamp fits answer named stamped =
    let parts = named.0 in
    let read = head_planned w s plan told to at event parts stamp fits answer (sym named.1) stamped in
    let same = read.2.parts in (
      read.0,
      read.1,
      record { at = read.2.at; event = read.2.event; parts = refl; timestamp = read.2.timestamp; header = read.2.header },
      named.2 ∙ ap (is_bare w) same,
      event_declared w.meta w.stream (id_in told.id) event parts named.1 ∙ ap Some same,
    )

-- a header that can't be read by its plan refuses the event
pub head_fails : (w : PacketModel) (s : Scopes) (plan : HeaderPlan) (error : FieldError) (at : ℕ) → PlanFits w.meta.table w.parts.event_header (Some plan) → Err error ≡ as_answer (header_read w.bytes w.end plan at)
    → event_head w s at ≡ Err (cause_of error)
unfolding event_head
head_fails w s plan error at fits answer = by w.parts.event_header refl fits
  where
    next : Option Field × ℕ → Result EventHead Cause
    next h = head_by w h.0 h.1 (event_of w.meta w.stream h.0)

    by : (ty : Option ℕ) → w.parts.event_header ≡ ty → PlanFits w.meta.table ty (Some plan) → and_then (scope_at w s w.parts.event_header at) next ≡ Err (cause_of error)
    by None is fits = absurd fits
    by (Some ty) is fits =
        ap (λ h. and_then (scope_at w s h at) next) is
        ∙ ap (λ r. and_then (as_result (as_read Some r)) next) (planned_fails w.meta.table.names (scope_read (from_of w s) ty at) (header_read w.bytes w.end plan at) error (fits.1 w.bytes w.end s at) answer)
