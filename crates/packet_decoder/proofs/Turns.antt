-- Events that are read one by one.
use Rattle.std.proofs.Common.{◌≡◌, ◌∙◌, ℕ, zero, suc, ◌<◌, ◌≤◌, Bool, true, false, nat_lt, if◌then◌else◌, List, Result, Ok, refl, ap, arith}
use Rattle.std.proofs.lemmas.Bool.{ltb-true, ltb-false}
use Rattle.ctf_fields.specs.declared.raw.RawEvent.{RawEvent}
use Rattle.ctf_fields.specs.Fields.{Scopes}
use Rattle.packet_decoder.specs.Events.{PacketModel, event_added, events_from}
use Rattle.packet_decoder.specs.PacketHeads.{and_then}
use Rattle.trace_types.specs.declared.cause.Cause.{Cause}
use Rattle.packet_decoder.specs.declared.events.Cursor.{Cursor}

is_below : (a b : ℕ) (is : Bool) → nat_lt a b ≡ is → a < b → is ≡ true
is_below a b true e h = refl
is_below a b false e h = let over = ltb-false a b e in absurd (omega (arith, over, h))

is_over : (a b : ℕ) (is : Bool) → nat_lt a b ≡ is → b ≤ a → is ≡ false
is_over a b false e h = refl
is_over a b true e h = let below = ltb-true a b e in absurd (omega (arith, below, h))

pub step_in : (n m : ℕ) (w : PacketModel) (s : Scopes) (done : List RawEvent) (c : Cursor) (r : Result (List RawEvent × Cursor) Cause) → n ≡ suc m → c.at < w.end → event_added w s done c ≡ r
    → events_from n w s done c ≡ and_then r (λ next. events_from m w s next.0 next.1)
unfolding events_from
step_in n m w s done c r is left added =
    ap (λ k. events_from k w s done c) is
    ∙ ap (λ b. if b then and_then (event_added w s done c) (λ next. events_from m w s next.0 next.1) else Ok done) (is_below c.at w.end (nat_lt c.at w.end) refl left)
    ∙ ap (λ x. and_then x (λ next. events_from m w s next.0 next.1)) added

-- at the end
pub all_events : (n : ℕ) (w : PacketModel) (s : Scopes) (done : List RawEvent) (c : Cursor) → w.end ≤ c.at → events_from n w s done c ≡ Ok done
unfolding events_from
all_events zero w s done c h = refl
all_events (suc n) w s done c h = ap (λ b. if b then and_then (event_added w s done c) (λ next. events_from n w s next.0 next.1) else Ok done) (is_over c.at w.end (nat_lt c.at w.end) refl h)
