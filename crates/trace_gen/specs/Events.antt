-- The events of a run that acts tell (this project's own).
use Rattle.std.specs.Prelude.{ℕ, ◌+◌, ◌*◌, ◌%◌, ◌==◌, if◌then◌else◌, List, [], ◌∷◌, replicate, slice_index, slice_set}
use Rattle.trace_gen.specs.declared.acts.Act.{Act}
use Rattle.trace_gen.specs.declared.acts.Act.TheVariants as act
use Rattle.trace_gen.specs.declared.events.MadeEvent.{MadeEvent}
use Rattle.trace_gen.specs.declared.events.MadeKind.{MadeKind}
use Rattle.trace_gen.specs.declared.events.MadeKind.TheVariants.{Switched, Sent, Received}
use Rattle.trace_gen.specs.declared.events.Run.{Run}
use Rattle.trace_gen.specs.Draws.{drawn, next}

-- before the first event: the number, one second, and thread 0 on every host
abbrev pub start : ℕ → Run
start number = record { seed = number; time = 1000000000; threads = replicate 64 0 }

-- before each event 1,000 to 1,999 nanoseconds pass
abbrev pub passed : Run → Run
passed run = record { seed = next run.seed; time = run.time + 1000 + drawn (next run.seed) % 1000; threads = run.threads }

-- the thread that a switch on a host puts there, never the one that it takes off
abbrev pub new_thread : ℕ → Run → ℕ
new_thread host run = (slice_index run.threads host + 1 + drawn (next run.seed) % 7) % 8

-- the state that the other is left in, drawn after it
abbrev pub left_state : Run → ℕ
left_state run = drawn (next (next run.seed)) % 2

-- after a switch on a host
abbrev pub switched : ℕ → Run → Run
switched host run = record { seed = next (next run.seed); time = run.time; threads = slice_set run.threads host (new_thread host run) }

-- after an act, once time has passed
abbrev pub settled : Act → Run → Run
settled (act.Switch host) run = switched host run
settled (act.Send message from to) run = run
settled (act.Receive message from to) run = run

-- an event of a host, whose clock is 3 seconds ahead of that of the host before it
abbrev pub at_host : ℕ → Run → MadeKind → MadeEvent
at_host host run kind = record { clock = run.time + 3000000000 * host; host = host; kind = kind }

-- the event of an act, once time has passed
abbrev pub event_by : Act → Run → MadeEvent
event_by (act.Switch host) run = at_host host run (Switched (slice_index run.threads host) (left_state run) (new_thread host run))
event_by (act.Send message from to) run = at_host from run (Sent message (from + 1) (to + 1))
event_by (act.Receive message from to) run = at_host to run (Received message (from + 1) (to + 1))

-- the events of acts, one after the other
abbrev pub made : Run → List Act → List MadeEvent
made run [] = []
made run (a ∷ later) = event_by a (passed run) ∷ made (settled a (passed run)) later

-- those of one host
abbrev pub own : ℕ → List MadeEvent → List MadeEvent
own host [] = []
own host (e ∷ es) = if e.host == host then e ∷ own host es else own host es
