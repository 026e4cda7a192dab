-- The fields of each kind of event, as words (this project's own format).
use Rattle.std.specs.Prelude.{◌≡◌, Bool, ℕ, ℤ, ◌^◌, ◌<◌, List, [], ◌∷◌}
use Rattle.std.specs.Fmt.{decimal}
use Rattle.trace_types.specs.ByteTexts.{byte_text}
use Rattle.trace_types.specs.Comms.{IsName}
use Rattle.trace_types.specs.declared.event.KernelEvent.{KernelEvent}
use Rattle.trace_types.specs.declared.event.KernelEvent.TheVariants as kind
use Rattle.trace_types.specs.declared.event_kind.EventKind.{EventKind}
use Rattle.trace_types.specs.declared.event_kind.EventKind.TheVariants.{Switch, Wakeup, WakeupNew, Waking, Fork, Exit, Free, Migrate, IrqIn, IrqOut, SoftIn, SoftOut, Process, Send, Receive, DiskIssue, DiskDone, Lost}
use Rattle.trace_types.specs.declared.segment.SegKey.{SegKey}
use Rattle.event_list.specs.Lines.{switch_words, woken_words, process_words, segment_words, request_words, lost_words, IsSwitched, IsWoken, IsSegKey, IsRequested}

-- the one field is this number
pub record IsOne (fields : List (List ℕ)) (n : ℕ) : Type 0 where
  pub spelled : fields ≡ decimal n ∷ []
  pub below : n < 2 ^ 31

-- the fields are those of a switch
pub record IsSwitch (fields : List (List ℕ)) (s : ℤ) (pt nt : ℕ) (pp np : ℤ) (pc nc : List ℕ) : Type 0 where
  pub spelled : fields ≡ switch_words s pt nt pp np pc nc
  pub fit : IsSwitched s pt nt pp np pc nc

-- the fields are those of a wakeup
pub record IsWakeup (fields : List (List ℕ)) (tid : ℕ) (comm : List ℕ) (prio : ℤ) (cpu : ℕ) : Type 0 where
  pub spelled : fields ≡ woken_words tid comm prio cpu
  pub fit : IsWoken tid comm prio cpu

-- the fields are those of a fork
pub record IsFork (fields : List (List ℕ)) (parent child : ℕ) (comm : List ℕ) : Type 0 where
  pub spelled : fields ≡ decimal parent ∷ decimal child ∷ byte_text comm ∷ []
  pub fit : (parent < 2 ^ 31) × (child < 2 ^ 31) × IsName comm

-- the two fields are these numbers
pub record IsTwo (fields : List (List ℕ)) (m n : ℕ) : Type 0 where
  pub spelled : fields ≡ decimal m ∷ decimal n ∷ []
  pub fit : (m < 2 ^ 31) × (n < 2 ^ 31)

-- the fields are those of a thread that was there before
pub record IsProcess (fields : List (List ℕ)) (tid ppid : ℕ) (name : List ℕ) (status : ℕ) : Type 0 where
  pub spelled : fields ≡ process_words tid ppid name status
  pub fit : (tid < 2 ^ 31) × (ppid < 2 ^ 31) × IsName name × (status < 2 ^ 31)

-- the fields are those of a segment
pub record IsSegment (fields : List (List ℕ)) (key : SegKey) : Type 0 where
  pub spelled : fields ≡ segment_words key
  pub fit : IsSegKey key

-- the fields are those of a request of a disk
pub record IsRequest (fields : List (List ℕ)) (sector dev count : ℕ) : Type 0 where
  pub spelled : fields ≡ request_words sector dev count
  pub fit : IsRequested sector dev count

-- the fields are those of a mark of lost events
pub record IsLost (fields : List (List ℕ)) (events : ℕ) (gap : Bool) : Type 0 where
  pub spelled : fields ≡ lost_words events gap
  pub fit : events < 2 ^ 64

-- the fields are those of an event of this kind, which carries no name of an event
abbrev pub IsOf : EventKind → List (List ℕ) → KernelEvent → Type 0
IsOf Switch fields k = (s : ℤ) × (pt : ℕ) × (nt : ℕ) × (pp : ℤ) × (np : ℤ) × (pc : List ℕ) × (nc : List ℕ) × IsSwitch fields s pt nt pp np pc nc × (k ≡ kind.Switch s pt nt pp np pc nc)
IsOf Wakeup fields k = (tid : ℕ) × (comm : List ℕ) × (prio : ℤ) × (cpu : ℕ) × IsWakeup fields tid comm prio cpu × (k ≡ kind.Wakeup tid comm prio cpu)
IsOf WakeupNew fields k = (tid : ℕ) × (comm : List ℕ) × (prio : ℤ) × (cpu : ℕ) × IsWakeup fields tid comm prio cpu × (k ≡ kind.WakeupNew tid comm prio cpu)
IsOf Waking fields k = (tid : ℕ) × (comm : List ℕ) × (prio : ℤ) × (cpu : ℕ) × IsWakeup fields tid comm prio cpu × (k ≡ kind.Waking tid comm prio cpu)
IsOf Fork fields k = (parent : ℕ) × (child : ℕ) × (comm : List ℕ) × IsFork fields parent child comm × (k ≡ kind.Fork parent child comm)
IsOf Exit fields k = (n : ℕ) × IsOne fields n × (k ≡ kind.Exit n)
IsOf Free fields k = (n : ℕ) × IsOne fields n × (k ≡ kind.Free n)
IsOf IrqIn fields k = (n : ℕ) × IsOne fields n × (k ≡ kind.IrqIn n)
IsOf IrqOut fields k = (n : ℕ) × IsOne fields n × (k ≡ kind.IrqOut n)
IsOf SoftIn fields k = (n : ℕ) × IsOne fields n × (k ≡ kind.SoftIn n)
IsOf SoftOut fields k = (n : ℕ) × IsOne fields n × (k ≡ kind.SoftOut n)
IsOf Migrate fields k = (tid : ℕ) × (cpu : ℕ) × IsTwo fields tid cpu × (k ≡ kind.Migrate tid cpu)
IsOf Process fields k = (tid : ℕ) × (ppid : ℕ) × (name : List ℕ) × (status : ℕ) × IsProcess fields tid ppid name status × (k ≡ kind.Process tid ppid name status)
IsOf Send fields k = (key : SegKey) × IsSegment fields key × (k ≡ kind.Send key)
IsOf Receive fields k = (key : SegKey) × IsSegment fields key × (k ≡ kind.Receive key)
IsOf DiskIssue fields k = (sector : ℕ) × (dev : ℕ) × (count : ℕ) × IsRequest fields sector dev count × (k ≡ kind.DiskIssue sector dev count)
IsOf DiskDone fields k = (sector : ℕ) × (dev : ℕ) × (count : ℕ) × IsRequest fields sector dev count × (k ≡ kind.DiskDone sector dev count)
IsOf Lost fields k = (events : ℕ) × (gap : Bool) × IsLost fields events gap × (k ≡ kind.Lost events gap)
IsOf kind fields k = ⊥
