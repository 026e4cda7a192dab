-- A run's beginning and its bytes that were found by hand, so that a slip in the definition does not check.
use Rattle.std.proofs.Common.{◌≡◌, refl, [], ◌∷◌, take}
use Rattle.trace_gen.specs.declared.acts.Act.TheVariants.{Switch, Send, Receive}
use Rattle.trace_gen.specs.declared.events.MadeKind.TheVariants.{Switched, Sent}
use Rattle.trace_gen.specs.Acts.{acts_of}
use Rattle.trace_gen.specs.Draws.{drawn, next}
use Rattle.trace_gen.specs.Events.{made, start}
use Rattle.trace_gen.specs.Layout.{field_bytes, fields_bytes, head_fields, message_fields, size_for, switch_fields}

-- the number after 3, and what it draws
pub first_draw : (next 3 ≡ 2088359638719790806) × (drawn (next 3) ≡ 243117059)
first_draw = (refl, refl)

-- of three hosts host 0 speaks to host 1 in the first round, and to host 2 in the second; a host alone switches twice
pub first_acts : (acts_of 3 2 ≡ Switch 0 ∷ Send 0 0 1 ∷ Receive 0 0 1 ∷ Switch 1 ∷ Send 1 1 0 ∷ Receive 1 1 0 ∷ Switch 0 ∷ Send 2 0 2 ∷ Receive 2 0 2 ∷ Switch 2 ∷ Send 3 2 0 ∷ Receive 3 2 0 ∷ [])
    × (acts_of 1 1 ≡ Switch 0 ∷ Switch 0 ∷ [])
first_acts = (refl, refl)

-- the first two events of a run of two hosts from 3
pub first_events : take 2 (made (start 3) (acts_of 2 1)) ≡ record { clock = 1000001059; host = 0; kind = Switched 0 1 7 } ∷ record { clock = 1000002197; host = 0; kind = Sent 0 1 2 } ∷ []
first_events = refl

-- their bytes
pub switch_bytes : fields_bytes (switch_fields 1000001059 0 1 7) ≡ 96 ∷ 196 ∷ 89 ∷ 115 ∷ 116 ∷ 48 ∷ 0 ∷ 0 ∷ 0 ∷ 0 ∷ 0 ∷ 0 ∷ 0 ∷ 0 ∷ 0 ∷ 0 ∷ 0 ∷ 0 ∷ 0 ∷ 0 ∷ 232 ∷ 3 ∷ 0 ∷ 0 ∷ 20 ∷ 0 ∷ 0 ∷ 0 ∷ 1 ∷ 0 ∷ 0 ∷ 0 ∷ 0 ∷ 0 ∷ 0 ∷ 0 ∷ 116 ∷ 55 ∷ 0 ∷ 0 ∷ 0 ∷ 0 ∷ 0 ∷ 0 ∷ 0 ∷ 0 ∷ 0 ∷ 0 ∷ 0 ∷ 0 ∷ 0 ∷ 0 ∷ 239 ∷ 3 ∷ 0 ∷ 0 ∷ 20 ∷ 0 ∷ 0 ∷ 0 ∷ []
unfolding fields_bytes field_bytes
switch_bytes = refl

pub message_bytes : fields_bytes (message_fields 1 1000002197 0 1 2) ≡ 161 ∷ 82 ∷ 90 ∷ 115 ∷ 4 ∷ 10 ∷ 0 ∷ 0 ∷ 1 ∷ 10 ∷ 0 ∷ 0 ∷ 2 ∷ 64 ∷ 156 ∷ 80 ∷ 0 ∷ 0 ∷ 0 ∷ 0 ∷ 0 ∷ 0 ∷ 0 ∷ 0 ∷ 0 ∷ 16 ∷ 0 ∷ []
unfolding fields_bytes field_bytes
message_bytes = refl

-- the 60 bytes before the 15 events of host 0, which end at 1000046435
pub head_bytes : fields_bytes (head_fields 0 1000001059 1000046435 630 4096) ≡ 193 ∷ 31 ∷ 252 ∷ 193 ∷ 0 ∷ 0 ∷ 0 ∷ 0 ∷ 35 ∷ 206 ∷ 154 ∷ 59 ∷ 0 ∷ 0 ∷ 0 ∷ 0 ∷ 99 ∷ 127 ∷ 155 ∷ 59 ∷ 0 ∷ 0 ∷ 0 ∷ 0 ∷ 176 ∷ 19 ∷ 0 ∷ 0 ∷ 0 ∷ 0 ∷ 0 ∷ 0 ∷ 0 ∷ 128 ∷ 0 ∷ 0 ∷ 0 ∷ 0 ∷ 0 ∷ 0 ∷ 0 ∷ 0 ∷ 0 ∷ 0 ∷ 0 ∷ 0 ∷ 0 ∷ 0 ∷ 0 ∷ 0 ∷ 0 ∷ 0 ∷ 0 ∷ 0 ∷ 0 ∷ 0 ∷ 0 ∷ 0 ∷ 0 ∷ 0 ∷ []
unfolding fields_bytes field_bytes
head_bytes = refl

-- packets of one block, of one that is full, and of two
pub sizes : (size_for 60 ≡ 4096) × (size_for 4096 ≡ 4096) × (size_for 4097 ≡ 8192)
sizes = (refl, refl, refl)
