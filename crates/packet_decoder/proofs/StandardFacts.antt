-- Clock values and times that were found by hand, so that a slip in the definition does not check.
use Rattle.std.proofs.Common.{◌≡◌, refl, pos, None, Some, Ok, Err}
use Rattle.trace_types.specs.declared.cause.Cause.TheVariants as cause
use Rattle.packet_decoder.specs.Times.{clock_after, in_range, time_of}

-- a clock at 107FFFFF0 and then a timestamp of 27 bits, 10: the low bits carry, and the clock is at 108000010
pub carries : clock_after 4429185008 (Some (record { value = 16; size = 27; clock = None })) ≡ Ok 4429185040
carries = refl

-- a timestamp of 64 bits is the clock's value, which doesn't fall
pub whole : (clock_after 5 (Some (record { value = 7; size = 64; clock = None })) ≡ Ok 7) × (clock_after 5 (Some (record { value = 4; size = 64; clock = None })) ≡ Err cause.TimeBack)
whole = (refl, refl)

-- 250 counts of a clock that counts 1000 times a second, from 5 seconds and 500 counts on, are 5.75 seconds
pub counted : time_of (record { freq = 1000; offset = pos 500; offset_s = pos 5 }) 250 ≡ pos 5750000000
counted = refl

-- a third of a second is rounded down
pub rounded : time_of (record { freq = 3; offset = pos 0; offset_s = pos 0 }) 1 ≡ pos 333333333
rounded = refl

-- the first and the last time
pub ranges : (in_range (pos 0) ≡ Err cause.TimeRange) × (in_range (pos 1) ≡ Ok 1) × (in_range (pos 4611686018427387903) ≡ Ok 4611686018427387903) × (in_range (pos 4611686018427387904) ≡ Err cause.TimeRange)
ranges = (refl, refl, refl, refl)
