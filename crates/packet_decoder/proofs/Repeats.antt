-- Events that repeat the one before.
use Rattle.std.proofs.Common.{◌≡◌, ◌∙◌, ℕ, pos, ◌+◌, ◌<◌, ◌≤◌, ◌^◌, ◌&&◌, not, nat_eq, nat_lt, Bool, true, false, if◌then◌else◌, Option, None, Some, Ok, refl, sym, ap, subst, arith}
use Rattle.std.proofs.lemmas.Bool.{eqb-true, lt-ltb}
use Rattle.std.specs.Option.{option_and_then}
use Rattle.ctf_fields.specs.declared.raw.RawEvent.{RawEvent}
use Rattle.ctf_fields.specs.Fields.{Scopes, or_else}
use Rattle.read_plan.specs.Headers.{no_numbers, with_number}
use Rattle.read_plan.specs.Singles.{IsReadableSingle, single_number, single_read}
use Rattle.read_plan.specs.declared.header.HeaderNumbers.{HeaderNumbers}
use Rattle.read_plan.specs.declared.header.HeaderPlan.{HeaderPlan}
use Rattle.read_plan.specs.declared.single.SingleNumber.{SingleNumber}
use Rattle.read_plan.proofs.Singles.{single_tells}
use Rattle.type_table.specs.Table.{Table}
use Rattle.packet_decoder.specs.declared.events.Cursor.{Cursor}
use Rattle.packet_decoder.specs.declared.events.LastEvent.{LastEvent}
use Rattle.packet_decoder.specs.declared.passing.Seen.{Seen}
use Rattle.packet_decoder.specs.EventReaders.{IsLast, IsSeen, IsTimed, NamedAs, PlanFits, SingleFits, events_after, refusal, repeated_by, repeated_id, unkept}
use Rattle.packet_decoder.specs.Events.{PacketModel, cleared, event, event_by, field_or_none}
use Rattle.packet_decoder.specs.Times.{time_after, timestamp_in}
use Rattle.packet_decoder.specs.Values.{id_in}
use Rattle.packet_decoder.proofs.Left.{one_read, same_refusal}
use Rattle.packet_decoder.proofs.PassedOver.{bare_ends, event_read}
use Rattle.packet_decoder.proofs.PlannedHeads.{head_told}

-- a number is the whole header where a plan fits that has no other
pub single_fits : (t : Table) (ty : Option ℕ) (header : Option HeaderPlan) (s : SingleNumber) → PlanFits t ty header → option_and_then single_number header ≡ Some s → IsReadableSingle s → SingleFits t ty s
single_fits t ty None s fits is readable = absurd (cc)
single_fits t ty (Some plan) s fits is readable = (readable, (plan, fits, is))

-- what holds where an event of this id can only repeat the last
pub record IsRepeated (w : PacketModel) (s : SingleNumber) (clock id : ℕ) : Type 0 where
  pub is_id : s.number.is_id ≡ true
  pub unstamped : s.number.is_timestamp ≡ false
  pub named : (event : ℕ) × NamedAs w (event_by w.meta w.stream (Some id)) (Some (event, true))
  pub timed : (time : ℕ) × (time_after w.meta None clock ≡ Ok (clock, time))

all_four : (a b c d : Bool) (x id : ℕ) → (if a && not b && c && d then Some x else None) ≡ Some id → (a ≡ true) × (b ≡ false) × (c ≡ true) × (d ≡ true) × (x ≡ id)
all_four true false true true x id is = (refl, refl, refl, refl, cc)
all_four false b c d x id is = absurd (cc)
all_four true true c d x id is = absurd (cc)
all_four true false false d x id is = absurd (cc)
all_four true false true false x id is = absurd (cc)

repeats_by : (w : PacketModel) (s : SingleNumber) (clock id : ℕ) (last : Option LastEvent) (timed : Option ℕ) → IsLast w last → IsTimed w.meta timed → option_and_then (λ e. option_and_then (repeated_by s clock e) timed) last ≡ Some id → IsRepeated w s clock id
repeats_by w s clock id None timed named time is = absurd (cc)
repeats_by w s clock id (Some e) None named time is = absurd (cc)
repeats_by w s clock id (Some e) (Some at) named time is =
    let four = all_four s.number.is_id s.number.is_timestamp e.is_bare (nat_eq at clock) e.id id is in
    let now : at ≡ clock = eqb-true at clock four.3 in
    record {
      is_id = four.0;
      unstamped = four.1;
      named = (e.event, subst (λ (b : Bool). NamedAs w (event_by w.meta w.stream (Some id)) (Some (e.event, b))) four.2 (subst (λ (n : ℕ). NamedAs w (event_by w.meta w.stream (Some n)) (Some (e.event, e.is_bare))) four.4 named));
      timed = subst (λ (n : ℕ). (time : ℕ) × (time_after w.meta None n ≡ Ok (n, time))) now time;
    }

pub repeats : (w : PacketModel) (s : SingleNumber) (seen : Seen) (clock id : ℕ) → IsSeen w seen → repeated_id s seen clock ≡ Some id → IsRepeated w s clock id
repeats w s seen clock id known is = repeats_by w s clock id seen.last seen.timed known.0 known.1 is

-- the header of an event that repeats the last tells the id, and no timestamp
abbrev told_of : SingleNumber → ℕ → HeaderNumbers
told_of s id = with_number s.number (pos id) no_numbers

below_all : (id : ℕ) → id < 2 ^ 64 → (if nat_lt id (2 ^ 64) then Some id else None) ≡ Some id
below_all id small = ap (λ b. if b then Some id else None) (lt-ltb id (2 ^ 64) small)

id_told : (s : SingleNumber) (id : ℕ) → s.number.is_id ≡ true → id < 2 ^ 64 → id_in (told_of s id).id ≡ Some id
id_told s id is small = ap (λ b. id_in (if b then Some (pos id, s.number.ty) else None)) is ∙ below_all id small

apart : (a b : ℕ) → a < b → nat_eq b a ≡ false
apart a b less = by (nat_eq b a) refl
  where
    by : (t : Bool) → nat_eq b a ≡ t → t ≡ false
    by true same = absurd (let is = eqb-true b a same in omega (arith, is, less))
    by false other = refl

none_told : (t : Table) (s : SingleNumber) (id : ℕ) → s.number.is_timestamp ≡ false → None ≡ timestamp_in t (told_of s id).timestamp
none_told t s id is = sym (ap (λ b. timestamp_in t (if b then or_else None (Some (pos id, s.number.ty)) else None)) is)

-- an event that repeats the last is read, and the clock stays
pub repeated : (w : PacketModel) (scopes : Scopes) (s : SingleNumber) (c : Cursor) (id next : ℕ) → SingleFits w.meta.table w.parts.event_header s → IsRepeated w s c.clock id → id < 2 ^ 64 → single_read w.bytes w.end s c.at ≡ Some (pos id, next) → c.at < next
    → (raw : RawEvent) × (event w (cleared scopes) c ≡ Ok (raw, record { clock = c.clock; at = next }))
repeated w scopes s c id next fits is small read moved =
    let told = told_of s id in
    let answer = single_tells w.bytes w.end fits.1.0 s c.at (pos id) next fits.1.2 read in
    let event : ℕ = is.named.0 in
    let named : NamedAs w (event_by w.meta w.stream (id_in told.id)) (Some (event, true)) = subst (λ (n : Option ℕ). NamedAs w (event_by w.meta w.stream n) (Some (event, true))) (sym (id_told s id is.is_id small)) is.named.1 in
    let first = head_told w (cleared scopes) fits.1.0 told next c.at event true None fits.1.1 answer named (none_told w.meta.table s id is.unstamped) in
    let body = bare_ends w (cleared scopes) first.0.parts next first.3 in (
      record { time = is.timed.0; cpu = w.cpu; event = event; fields = field_or_none body.0 },
      event_read w (cleared scopes) c first.0 (unkept (record { at = next; event = event; is_bare = true; timestamp = None }) first.0.parts) body.0 next c.clock is.timed.0 first.2 first.1 body.1 (apart c.at next moved) is.timed.1,
    )

-- one more that is passed over leaves the cause
pub passed_one : (w : PacketModel) (scopes : Scopes) (s : SingleNumber) (c : Cursor) (id next read : ℕ) → SingleFits w.meta.table w.parts.event_header s → IsRepeated w s c.clock id → id < 2 ^ 64 → single_read w.bytes w.end s c.at ≡ Some (pos id, next) → c.at < next → next ≤ w.end → read ≤ c.at
    → refusal (events_after w (cleared scopes) (record { clock = c.clock; at = next }) (read + 1)) ≡ refusal (events_after w (cleared scopes) c read)
passed_one w scopes s c id next read fits is small there moved within few =
    let one = repeated w scopes s c id next fits is small there moved in
    let rest = events_after w (cleared scopes) (record { clock = c.clock; at = next }) (read + 1) in
    let left : c.at < w.end = omega (arith, moved, within) in
    sym (same_refusal one.0 rest) ∙ sym (ap refusal (one_read w (cleared scopes) (cleared scopes) c (record { clock = c.clock; at = next }) read one.0 few left refl one.1))
