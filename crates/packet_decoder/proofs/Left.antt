-- The events that are left of a packet, one by one.
use Rattle.std.proofs.Common.{◌≡◌, ◌∙◌, ℕ, zero, suc, ◌+◌, ◌-◌, ◌<◌, ◌≤◌, Bool, true, false, if◌then◌else◌, List, [], ◌∷◌, ◌++◌, append_assoc, append-nil, nat_lt, Result, Ok, Err, refl, sym, ap, arith}
use Rattle.ctf_fields.specs.declared.raw.RawEvent.{RawEvent}
use Rattle.ctf_fields.specs.Fields.{Scopes}
use Rattle.packet_decoder.specs.declared.piece.PacketResult.TheVariants as packet
use Rattle.packet_decoder.specs.Events.{PacketModel, as_packet, event, event_added, events_from}
use Rattle.packet_decoder.specs.PacketHeads.{Answers, and_then}
use Rattle.packet_decoder.specs.declared.failure.Failure.{Failure}
use Rattle.packet_decoder.specs.declared.failure.Failure.TheVariants.{Refused, OutOfMemory}
use Rattle.packet_decoder.specs.EventReaders.{and_before, refusal}
use Rattle.trace_types.specs.declared.cause.Cause.{Cause}
use Rattle.packet_decoder.specs.declared.events.Cursor.{Cursor}
use Rattle.packet_decoder.proofs.Turns.{step_in}

abbrev Answer : Type 0
Answer = Result (List RawEvent) Cause

-- events that were read, and what is left after them
abbrev pub behind : List RawEvent → Answer → Answer
behind done (Ok es) = Ok (done ++ es)
behind done (Err c) = Err c

behind_both : (done more : List RawEvent) (x : Answer) → behind (done ++ more) x ≡ behind done (behind more x)
behind_both done more (Ok es) = ap Ok (append_assoc done more es)
behind_both done more (Err c) = refl

-- what was read stays before what is left
kept : (n : ℕ) (w : PacketModel) (s : Scopes) (done : List RawEvent) (c : Cursor) → events_from n w s done c ≡ behind done (events_from n w s [] c)
unfolding events_from
kept zero w s done c = ap Ok (sym (append-nil done))
kept (suc n) w s done c = by (nat_lt c.at w.end) (event w s c) (λ more next. kept n w s more next)
  where
    after : List RawEvent → Result (RawEvent × Cursor) Cause → Result (List RawEvent × Cursor) Cause
    after done x = and_then x (λ r. Ok (done ++ r.0 ∷ [], r.1))

    by : (b : Bool) (x : Result (RawEvent × Cursor) Cause) → ((more : List RawEvent) (next : Cursor) → events_from n w s more next ≡ behind more (events_from n w s [] next))
        → (if b then and_then (after done x) (λ r. events_from n w s r.0 r.1) else Ok done)
        ≡ behind done (if b then and_then (after [] x) (λ r. events_from n w s r.0 r.1) else Ok [])
    by true (Ok r) rest = rest (done ++ r.0 ∷ []) r.1 ∙ (behind_both done (r.0 ∷ []) (events_from n w s [] r.1) ∙ ap (behind done) (sym (rest (r.0 ∷ []) r.1)))
    by true (Err e) rest = refl
    by false x rest = ap Ok (sym (append-nil done))

as_before : (raw : RawEvent) (x : Answer) → behind (raw ∷ []) x ≡ and_before raw x
as_before raw (Ok es) = refl
as_before raw (Err c) = refl

pub one_read : (w : PacketModel) (s after : Scopes) (c next : Cursor) (read : ℕ) (raw : RawEvent) → read ≤ c.at → c.at < w.end → after ≡ s → event w s c ≡ Ok (raw, next)
    → events_from (w.end - read) w s [] c ≡ and_before raw (events_from (w.end - (read + 1)) w after [] next)
one_read w s after c next read raw few left same e =
    let added : event_added w s [] c ≡ Ok (raw ∷ [], next) = ap (λ x. and_then x (λ r. Ok ([] ++ r.0 ∷ [], r.1))) e in
    step_in (w.end - read) (w.end - (read + 1)) w s [] c (Ok (raw ∷ [], next)) (omega (arith, few, left)) left added
    ∙ (kept (w.end - (read + 1)) w s (raw ∷ []) next ∙ (as_before raw (events_from (w.end - (read + 1)) w s [] next) ∙ ap (λ x. and_before raw (events_from (w.end - (read + 1)) w x [] next)) (sym same)))

pub refused_read : (w : PacketModel) (s : Scopes) (c : Cursor) (read : ℕ) (cause : Cause) → read ≤ c.at → c.at < w.end → event w s c ≡ Err cause → events_from (w.end - read) w s [] c ≡ Err cause
refused_read w s c read cause few left e =
    step_in (w.end - read) (w.end - (read + 1)) w s [] c (Err cause) (omega (arith, few, left)) left (ap (λ x. and_then x (λ r. Ok ([] ++ r.0 ∷ [], r.1))) e)

abbrev err : {A : Type 0} → Failure → Result A Failure
err e = Err e

pub refused_by : {A : Type 0} (w : PacketModel) (s : Scopes) (c : Cursor) (read : ℕ) (cause : Cause) (e : Failure) → err {A = A} (Refused cause) ≡ err {A = A} e → read ≤ c.at → c.at < w.end → Answers (event w s c) (Err e) → events_from (w.end - read) w s [] c ≡ Err cause
refused_by w s c read cause (Refused other) same few left h = let is : cause ≡ other = cc in refused_read w s c read cause few left (h ∙ ap Err (sym is))
refused_by w s c read cause OutOfMemory same few left h = absurd (cc)

pub at_first : (x : Answer) → as_packet x ≡ as_packet (behind [] x)
at_first (Ok es) = refl
at_first (Err c) = refl

pub one_more : (done : List RawEvent) (raw : RawEvent) (x : Answer) → as_packet (behind done (and_before raw x)) ≡ as_packet (behind (done ++ raw ∷ []) x)
one_more done raw (Ok es) = ap (λ l. packet.Events l) (sym (append_assoc done (raw ∷ []) es))
one_more done raw (Err c) = refl

pub at_last : (done : List RawEvent) → as_packet (behind done (Ok [])) ≡ packet.Events done
at_last done = ap (λ l. packet.Events l) (append-nil done)

-- an event before others leaves the cause
pub same_refusal : (raw : RawEvent) (x : Answer) → refusal (and_before raw x) ≡ refusal x
same_refusal raw (Ok es) = refl
same_refusal raw (Err c) = refl
