-- A thread with its name and priority, as three words.
use Rattle.std.specs.Prelude.{ℕ, ◌^◌, ◌<◌, List, FitsSigned}
use Rattle.std.specs.Int.{w32}
use Rattle.trace_types.specs.Numbers.{IsNumber, IsSigned}
use Rattle.trace_types.specs.Comms.{IsComm}
use Rattle.event_list.specs.declared.thread.NamedThread.{NamedThread}

-- the words are the thread's tid below 2^31, its name and its priority of 32 bits
pub record IsThread (tid comm prio : List ℕ) (t : NamedThread) : Type 0 where
  pub is_tid : IsNumber tid t.tid
  pub tid_below : t.tid < 2 ^ 31
  pub is_comm : IsComm comm t.comm
  pub is_prio : IsSigned prio t.prio
  pub prio_fits : FitsSigned w32 t.prio
