-- Heads of packets whose contexts are read by plans.
use Rattle.std.proofs.Common.{◌≡◌, ◌∙◌, ◌*◌, ℕ, List, Option, None, Some, Ok, Err, length, refl, sym, ap}
use Rattle.type_table.specs.Table.{Table}
use Rattle.type_table.specs.TraceMetas.{TraceMetaModel}
use Rattle.type_table.specs.declared.declared.StreamScopes.{StreamScopes}
use Rattle.ctf_fields.specs.declared.error.FieldError.{FieldError}
use Rattle.ctf_fields.specs.declared.field.Field.{Field}
use Rattle.ctf_fields.specs.Reading.{Reads, Got, Fails, as_read, scope_read}
use Rattle.read_plan.specs.Contexts.{TellsNumbers, as_numbers, context_numbers}
use Rattle.read_plan.specs.Contexts.{context_read as plan_read}
use Rattle.read_plan.specs.declared.context.ContextNumbers.{ContextNumbers}
use Rattle.read_plan.specs.declared.context.ContextPlan.{ContextPlan}
use Rattle.trace_types.specs.declared.cause.Cause.TheVariants as cause
use Rattle.packet_decoder.specs.declared.packet_head.PacketHead.{PacketHead}
use Rattle.packet_decoder.specs.Pieces.{packet_at, span_of}
use Rattle.packet_decoder.specs.declared.packet_head.ToldPacketHead.{ToldPacketHead}
use Rattle.packet_decoder.specs.PacketHeads.{and_then, by_context, context_read, from_all, packet_head, read_scope, with_context, with_header}
use Rattle.packet_decoder.specs.ToldHeads.{ContextFits, PacketToldAs, span_told, whole_head}

-- what was read by a plan is there, and its numbers are told
told_by : (t : Table) (x : Reads Field) (y : Reads ContextNumbers) (numbers : ContextNumbers) (to : ℕ) → TellsNumbers t x y → Ok (numbers, to) ≡ as_numbers y → (f : Field) × (x ≡ Got f to) × (numbers ≡ context_numbers t (Some f))
told_by t (Got f bit) (Got other to') numbers to tells is =
    let both : Path (ContextNumbers × ℕ) (numbers, to) (other, to') = cc in
    (f, ap (Got f) (sym (ap (λ p. p.1) both ∙ tells.0)), ap (λ p. p.0) both ∙ tells.1)
told_by t (Got f bit) (Fails other) numbers to tells is = absurd tells
told_by t (Fails cause) (Got other to') numbers to tells is = absurd tells
told_by t (Fails cause) (Fails other) numbers to tells is = absurd (cc)

-- what can't be read by a plan can't be read
fails_by : (t : Table) (x : Reads Field) (y : Reads ContextNumbers) (error : FieldError) → TellsNumbers t x y → Err error ≡ as_numbers y → (other : FieldError) × (x ≡ Fails other)
fails_by t (Got f bit) (Got numbers to) error tells is = absurd (cc)
fails_by t (Got f bit) (Fails other) error tells is = absurd tells
fails_by t (Fails cause) (Got numbers to) error tells is = absurd tells
fails_by t (Fails cause) (Fails other) error tells is = (cause, refl)

pub head_told : (meta : TraceMetaModel) (rest : List ℕ) (header : Option Field) (at stream : ℕ) (parts : StreamScopes) (plan : ContextPlan) (numbers : ContextNumbers) (to : ℕ)
    → ContextFits meta.table parts.packet_context at plan → Ok (numbers, to) ≡ as_numbers (plan_read rest (8 * length rest) plan at)
    → PacketToldAs meta.table (context_read meta rest header at stream parts) (Ok (record { header = header; numbers = numbers; start = to; stream = stream; parts = parts }))
unfolding context_read
head_told meta rest header at stream parts plan numbers to fits answer = by parts.packet_context refl fits
  where
    by : (ty : Option ℕ) → parts.packet_context ≡ ty → ContextFits meta.table ty at plan
        → PacketToldAs meta.table (by_context header stream parts (read_scope (from_all meta rest (with_header header)) parts.packet_context at)) (Ok (record { header = header; numbers = numbers; start = to; stream = stream; parts = parts }))
    by None is fits = absurd fits
    by (Some ty) is fits =
        let read = told_by meta.table (scope_read (from_all meta rest (with_header header)) ty at) (plan_read rest (8 * length rest) plan at) numbers to (fits.2 rest (8 * length rest) (with_header header) at fits.0) answer in (
          Some read.0,
          ap (λ x. by_context header stream parts (read_scope (from_all meta rest (with_header header)) x at)) is ∙ ap (λ r. by_context header stream parts (as_read Some r)) read.1,
          read.2,
        )

pub head_fails : (meta : TraceMetaModel) (rest : List ℕ) (header : Option Field) (at stream : ℕ) (parts : StreamScopes) (plan : ContextPlan) (error : FieldError)
    → ContextFits meta.table parts.packet_context at plan → Err error ≡ as_numbers (plan_read rest (8 * length rest) plan at)
    → context_read meta rest header at stream parts ≡ Err cause.ShortHeader
unfolding context_read
head_fails meta rest header at stream parts plan error fits answer = by parts.packet_context refl fits
  where
    by : (ty : Option ℕ) → parts.packet_context ≡ ty → ContextFits meta.table ty at plan → by_context header stream parts (read_scope (from_all meta rest (with_header header)) parts.packet_context at) ≡ Err cause.ShortHeader
    by None is fits = absurd fits
    by (Some ty) is fits =
        let read = fails_by meta.table (scope_read (from_all meta rest (with_header header)) ty at) (plan_read rest (8 * length rest) plan at) error (fits.2 rest (8 * length rest) (with_header header) at fits.0) answer in
        ap (λ x. by_context header stream parts (read_scope (from_all meta rest (with_header header)) x at)) is ∙ ap (λ r. by_context header stream parts (as_read Some r)) read.1

-- a head whose context was read with its fields is told by its numbers
pub head_kept : (meta : TraceMetaModel) (rest : List ℕ) (header : Option Field) (at stream : ℕ) (parts : StreamScopes) (h : PacketHead) (numbers : ContextNumbers) (kept : Option Field)
    → context_read meta rest header at stream parts ≡ Ok h → kept ≡ h.scopes.packet_header → numbers ≡ context_numbers meta.table h.scopes.packet_context
    → PacketToldAs meta.table (context_read meta rest header at stream parts) (Ok (record { header = kept; numbers = numbers; start = h.start; stream = h.stream; parts = h.parts }))
unfolding context_read
head_kept meta rest header at stream parts h numbers kept read same told =
    (h.scopes.packet_context, read ∙ ap Ok (by (read_scope (from_all meta rest (with_header header)) parts.packet_context at) read ∙ ap with_kept (sym same)), told)
  where
    with_kept : Option Field → PacketHead
    with_kept f = record { scopes = with_context f h.scopes.packet_context; start = h.start; stream = h.stream; parts = h.parts }

    by : (r : Reads (Option Field)) → by_context header stream parts r ≡ Ok h → h ≡ with_kept h.scopes.packet_header
    by (Got context start) is =
        let one : Path PacketHead (record { scopes = with_context header context; start = start; stream = stream; parts = parts }) h = cc in
        sym one ∙ ap (λ (x : PacketHead). record { scopes = with_context x.scopes.packet_header x.scopes.packet_context; start = x.start; stream = x.stream; parts = x.parts }) one
    by (Fails e) is = absurd (cc)

-- a packet is cut alike by the numbers of its context
told_span : (t : Table) (offset left : ℕ) (told : ToldPacketHead) (context : Option Field) → told.numbers ≡ context_numbers t context → span_of t offset left (whole_head told context) ≡ span_told t offset left told
unfolding span_of
told_span t offset left told context same = ap (λ n. span_told t offset left (record { header = told.header; numbers = n; start = told.start; stream = told.stream; parts = told.parts })) (sym same)

pub cut_told : (meta : TraceMetaModel) (offset : ℕ) (rest : List ℕ) (told : ToldPacketHead) → PacketToldAs meta.table (packet_head meta rest) (Ok told) → packet_at meta offset rest ≡ span_told meta.table offset (8 * length rest) told
unfolding packet_at
cut_told meta offset rest told read = ap (λ r. and_then r (span_of meta.table offset (8 * length rest))) read.1 ∙ told_span meta.table offset (8 * length rest) told read.0 read.2
