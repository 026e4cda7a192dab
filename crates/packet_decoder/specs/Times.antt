-- Clock values and times (CTF 1.8, sections 5.3 and 8; that a clock of fewer bits carries at most once between two events, and that times are rounded down to nanoseconds, is this project's own).
use Rattle.std.specs.Prelude.{ℕ, ℤ, pos, ◌+◌, ◌-◌, ◌%◌, ◌^◌, ◌+ℤ◌, ◌*ℤ◌, ◌&&◌, nat_eq, nat_le, nat_lt, length, Option, Some, None, Result, Ok, Err, option_map, slice_get, unwrap_or, if◌then◌else◌}
use Rattle.std.specs.Int.{int_div_euclid}
use Rattle.type_table.specs.Table.{Table}
use Rattle.type_table.specs.TraceMetas.{TraceMetaModel}
use Rattle.type_table.specs.declared.integer.Integer.{Integer}
use Rattle.type_table.specs.declared.declared.ClockRate.{ClockRate}
use Rattle.ctf_fields.specs.Fields.{or_else}
use Rattle.ctf_fields.specs.Reading.{integer_type}
use Rattle.packet_decoder.specs.PacketHeads.{and_then}
use Rattle.packet_decoder.specs.Values.{below}
use Rattle.trace_types.specs.declared.cause.Cause.{Cause}
use Rattle.trace_types.specs.declared.cause.Cause.TheVariants as cause
use Rattle.packet_decoder.specs.declared.times.Timestamp.{Timestamp}

-- a timestamp is a number that isn't negative
abbrev pub timestamp_by : Option Integer → ℤ → Option Timestamp
timestamp_by None z = None
timestamp_by (Some i) z = option_map (λ v. record { value = v; size = i.size; clock = i.clock }) (below (2 ^ 64) z)

abbrev pub timestamp_in : Table → Option (ℤ × ℕ) → Option Timestamp
timestamp_in t None = None
timestamp_in t (Some n) = timestamp_by (integer_type t n.1) n.0

abbrev pub within_64 : ℕ → Result ℕ Cause
within_64 n = if nat_lt n (2 ^ 64) then Ok n else Err cause.TimeRange

-- the clock's value after a timestamp: one of 64 bits is the value, which doesn't fall; one of fewer replaces that many low bits, and carries where it is less than those
abbrev pub clock_after : ℕ → Option Timestamp → Result ℕ Cause
clock_after clock None = Ok clock
clock_after clock (Some s) =
    if nat_le 64 s.size then (if nat_lt s.value clock then Err cause.TimeBack else Ok s.value)
    else within_64 (clock - clock % 2 ^ s.size + s.value + (if nat_lt s.value (clock % 2 ^ s.size) then 2 ^ s.size else 0))

-- nanoseconds, from 0 on
abbrev pub usual_rate : ClockRate
usual_rate = record { freq = 1000000000; offset = pos 0; offset_s = pos 0 }

abbrev pub rate_at : TraceMetaModel → ℕ → Option ClockRate
rate_at meta index = option_map (λ clock. clock.1) (slice_get meta.declared.clocks index)

abbrev pub rate_mapped : TraceMetaModel → Option ℕ → Option ClockRate
rate_mapped meta None = None
rate_mapped meta (Some index) = rate_at meta index

abbrev pub clock_of : Option Timestamp → Option ℕ
clock_of None = None
clock_of (Some s) = s.clock

abbrev pub only_rate : TraceMetaModel → Option ClockRate
only_rate meta = if nat_eq (length meta.declared.clocks) 1 then rate_at meta 0 else None

-- the clock that the timestamp's type names, and else the only one that is declared
abbrev pub rate_of : TraceMetaModel → Option ℕ → ClockRate
rate_of meta clock = unwrap_or (or_else (rate_mapped meta clock) (only_rate meta)) usual_rate

-- the time of a clock's value in nanoseconds, rounded down
abbrev pub time_of : ClockRate → ℕ → ℤ
time_of rate v = rate.offset_s *ℤ pos 1000000000 +ℤ int_div_euclid ((rate.offset +ℤ pos v) *ℤ pos 1000000000) (pos rate.freq)

-- times are from 1 to 2^62 - 1
abbrev pub in_range : ℤ → Result ℕ Cause
in_range (pos n) = if nat_le 1 n && nat_le n 4611686018427387903 then Ok n else Err cause.TimeRange
in_range _ = Err cause.TimeRange

-- the clock's value after a timestamp, and the time then
unfoldable pub time_after : TraceMetaModel → Option Timestamp → ℕ → Result (ℕ × ℕ) Cause
time_after meta timestamp clock = and_then (clock_after clock timestamp) (λ v. and_then (in_range (time_of (rate_of meta (clock_of timestamp)) v)) (λ time. Ok (v, time)))
