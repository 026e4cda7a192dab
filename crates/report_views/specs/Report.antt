-- The report on hosts that were brought to one clock: what was read of each, how their clocks fit, and which messages stand the wrong way round (this project's own format).
use Rattle.std.specs.Prelude.{ℕ, ℤ, pos, ◌+◌, ◌-◌, ◌*◌, ◌/◌, ◌-ℤ◌, ◌==◌, ◌&&◌, ◌≡◌, ◌<◌, Bool, true, false, if◌then◌else◌, Option, None, Some, List, [], ◌∷◌, ◌++◌, codes, count_by, flat_map, get_or, length, slice_get}
use Rattle.std.specs.List.{range_with_len}
use Rattle.std.specs.Fmt.{decimal, signed_decimal}
use Rattle.trace_types.specs.ByteTexts.{byte_text}
use Rattle.trace_types.specs.declared.cause.Cause.{Cause}
use Rattle.trace_types.specs.declared.cause.Cause.TheVariants as cause
use Rattle.trace_types.specs.declared.event.Event.{Event}
use Rattle.trace_types.specs.declared.event.Merged.{Merged}
use Rattle.trace_types.specs.declared.event.KernelEvent.{KernelEvent}
use Rattle.trace_types.specs.declared.event.KernelEvent.TheVariants.{Lost}
use Rattle.trace_types.specs.declared.host.HostEvents.{HostEvents}
use Rattle.trace_types.specs.declared.host.RefusedPacket.{RefusedPacket}
use Rattle.message_match.specs.declared.message.Message.{Message}
use Rattle.clock_fraction.specs.declared.slope.Slope.{Slope}
use Rattle.hull_lines.specs.declared.outcome.Fit.{Fit}
use Rattle.hull_lines.specs.declared.outcome.Fit.TheVariants.{Map, Absent, Refused}
use Rattle.host_tree.specs.declared.parent.Parent.{Parent}
use Rattle.host_tree.specs.declared.parent.Parent.TheVariants.{Root, Child}
use Rattle.host_merge.specs.declared.placed.Placed.{Placed}
use Rattle.host_merge.specs.Placed.{inverted_among}
use Rattle.state_times.specs.Times.{first_key, last_key}
use Rattle.report_views.specs.CallLines.{call_lines}
use Rattle.report_views.specs.TimeLines.{time_lines}

-- ---- what was read of each host

-- the name of a host's machine, its events with the marks among them, its accepted and refused packets, and its events that lack a field
abbrev pub host_line : HostEvents → List ℕ
host_line h =
    codes "host " ++ decimal h.host ++ 32 ∷ byte_text h.hostname ++ codes " events " ++ decimal (length h.events.items) ++ codes " packets " ++ decimal h.packets
    ++ codes " refused " ++ decimal (length h.refused.items) ++ codes " incomplete " ++ decimal h.incomplete ++ 10 ∷ []

-- why a packet is refused, in one word
abbrev pub cause_word : Cause → List ℕ
cause_word cause.ShortHeader = codes "ShortHeader"
cause_word cause.BadMagic = codes "BadMagic"
cause_word cause.WrongUuid = codes "WrongUuid"
cause_word cause.UnknownStream = codes "UnknownStream"
cause_word cause.BadSize = codes "BadSize"
cause_word cause.ShortContent = codes "ShortContent"
cause_word cause.TooLong = codes "TooLong"
cause_word cause.NoVariant = codes "NoVariant"
cause_word cause.UnknownEvent = codes "UnknownEvent"
cause_word cause.NoBits = codes "NoBits"
cause_word cause.TimeBack = codes "TimeBack"
cause_word cause.TimeRange = codes "TimeRange"

-- a refused packet: its host, file, place in it in bytes, and cause
abbrev pub refused_line : ℕ → RefusedPacket → List ℕ
refused_line host r = codes "refused " ++ decimal host ++ 32 ∷ byte_text r.file ++ 32 ∷ decimal r.offset ++ 32 ∷ cause_word r.cause ++ 10 ∷ []

abbrev pub refused_lines : HostEvents → List ℕ
refused_lines h = flat_map (refused_line h.host) h.refused.items

-- how many events a kind says are missing, if it is a mark
abbrev pub lost_of : KernelEvent → Option ℕ
lost_of (Lost events gap) = Some events
lost_of kind = None

-- how many marks a host has, and how many events they say are missing
abbrev pub mark_count : List Event → ℕ
mark_count [] = 0
mark_count (e ∷ es) = (if_lost (lost_of e.kind)) + mark_count es
  where
    if_lost : Option ℕ → ℕ
    if_lost None = 0
    if_lost (Some n) = 1

abbrev pub mark_sum : List Event → ℕ
mark_sum [] = 0
mark_sum (e ∷ es) = (or_zero (lost_of e.kind)) + mark_sum es
  where
    or_zero : Option ℕ → ℕ
    or_zero None = 0
    or_zero (Some n) = n

-- the marks of a host, where it has any
abbrev pub lost_line : HostEvents → List ℕ
lost_line h = if mark_count h.events.items == 0 then [] else codes "lost " ++ decimal h.host ++ 32 ∷ decimal (mark_count h.events.items) ++ 32 ∷ decimal (mark_sum h.events.items) ++ 10 ∷ []

-- ---- how the clocks fit

abbrev pub messages_line : List Message → ℕ → List ℕ
messages_line matched ambiguous = codes "messages matched " ++ decimal (length matched) ++ codes " ambiguous " ++ decimal ambiguous ++ 10 ∷ []

-- whether a message goes from one host to another
abbrev pub goes : ℕ → ℕ → Message → Bool
goes from to m = (m.from == from) && (m.to == to)

-- how many do
abbrev pub count_from : List Message → ℕ → ℕ → ℕ
count_from matched from to = count_by (goes from to) matched

-- whether the second host can be brought to the clock of the first
abbrev pub is_map : Option Fit → Bool
is_map None = false
is_map (Some (Map map)) = true
is_map (Some (Absent n m)) = false
is_map (Some (Refused c)) = false

abbrev pub yes_or_no : Bool → List ℕ
yes_or_no true = codes "yes"
yes_or_no false = codes "no"

-- two hosts between which messages went, by how many went from one host to another: how many from the first to the second and back, and whether each can be brought to the other's clock
abbrev pub pair_line : ℕ → (ℕ → ℕ → ℕ) → List Fit → ℕ → ℕ → List ℕ
pair_line hosts count fits u v =
    if count u v + count v u == 0 then []
    else codes "pair " ++ decimal u ++ 32 ∷ decimal v ++ 32 ∷ decimal (count u v) ++ 32 ∷ decimal (count v u)
    ++ 32 ∷ yes_or_no (is_map (slice_get fits (u * hosts + v))) ++ 32 ∷ yes_or_no (is_map (slice_get fits (v * hosts + u))) ++ 10 ∷ []

-- those of a host with the hosts after it
abbrev pub pair_lines_of : ℕ → (ℕ → ℕ → ℕ) → List Fit → ℕ → List ℕ
pair_lines_of hosts count fits u = flat_map (pair_line hosts count fits u) (range_with_len (u + 1) (hosts - (u + 1)))

abbrev pub pair_lines : ℕ → (ℕ → ℕ → ℕ) → List Fit → List ℕ
pair_lines hosts count fits = flat_map (pair_lines_of hosts count fits) (range_with_len 0 hosts)

-- by how many parts in 10^9 a clock goes faster than another, rounded down
abbrev pub deviation : Slope → ℤ
deviation slope = pos (slope.p * 1_000_000_000 / slope.q) -ℤ pos 1_000_000_000

-- whose clock a host is brought to, and the slopes of the steepest and the flattest line to it
abbrev pub tree_line : ℕ → Option Parent → List ℕ
tree_line host None = []
tree_line host (Some Root) = codes "tree " ++ decimal host ++ codes " root\n"
tree_line host (Some (Child parent map)) =
    codes "tree " ++ decimal host ++ codes " parent " ++ decimal parent ++ codes " steep " ++ signed_decimal (deviation map.steep.slope) ++ codes " flat " ++ signed_decimal (deviation map.flat.slope) ++ 10 ∷ []

abbrev pub tree_lines : List Parent → List ℕ
tree_lines parents = flat_map (λ host. tree_line host (slice_get parents host)) (range_with_len 0 (length parents))

-- ---- the merge

-- a message whose receive stands before its send: both hosts, and their own times
abbrev pub inverted_line : Option Message → List ℕ
inverted_line None = []
inverted_line (Some m) = codes "inverted-message " ++ decimal m.from ++ 32 ∷ decimal m.sent ++ 32 ∷ decimal m.to ++ 32 ∷ decimal m.received ++ 10 ∷ []

-- the messages of these numbers, and how many they are
abbrev pub inverted_lines : List Message → List ℕ → List ℕ
inverted_lines matched numbers = codes "inverted " ++ decimal (length numbers) ++ 10 ∷ flat_map (λ k. inverted_line (slice_get matched k)) numbers

-- the first and the last key of the merge; 0 and 0 where it is empty
abbrev pub window_line : List Merged → List ℕ
window_line merged = codes "window " ++ decimal (first_key merged) ++ 32 ∷ decimal (last_key merged) ++ 10 ∷ []

-- ---- the whole

-- what the report says of the hosts that were read, with the drift that their clocks may have
abbrev pub hosts_part : List HostEvents → ℕ → List ℕ
hosts_part hosts drift =
    codes "hosttrace report 1\ndrift " ++ decimal drift ++ 10 ∷ flat_map host_line hosts ++ flat_map refused_lines hosts ++ flat_map lost_line hosts

-- and of their clocks
abbrev pub clocks_part : ℕ → List Message → ℕ → List Fit → List Parent → List ℕ
clocks_part hosts matched ambiguous fits parents = messages_line matched ambiguous ++ pair_lines hosts (count_from matched) fits ++ tree_lines parents

-- and of their merge
abbrev pub merge_part : List Message → List Merged → List Placed → List ℕ
merge_part matched merged placed = inverted_lines matched (inverted_among placed) ++ window_line merged

abbrev pub report_text : List HostEvents → List Message → ℕ → List Fit → List Parent → List Merged → List Placed → ℕ → List ℕ
report_text hosts matched ambiguous fits parents merged placed drift =
    hosts_part hosts drift ++ clocks_part (length hosts) matched ambiguous fits parents ++ merge_part matched merged placed ++ time_lines merged ++ flat_map call_lines hosts ++ codes "end\n"

-- ---- what is counted on the way

-- the number at the place of two hosts
abbrev pub count_at : ℕ → List ℕ → ℕ → ℕ → ℕ
count_at hosts counts from to = get_or counts (from * hosts + to) 0

-- the numbers of messages between each two hosts, each at the place from * hosts + to
pub record AreCounted (hosts : ℕ) (matched : List Message) (counts : List ℕ) : Type 0 where
  pub count : length counts ≡ hosts * hosts
  pub each : (from to : ℕ) → from < hosts → to < hosts → count_at hosts counts from to ≡ count_from matched from to
