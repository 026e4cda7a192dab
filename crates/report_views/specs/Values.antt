-- Values as texts (this project's own format).
use Rattle.std.specs.Prelude.{ℕ, ℤ, if◌then◌else◌, List, [], ◌∷◌, ◌++◌, codes, drop, nat_eq}
use Rattle.std.specs.List.{starts_with}
use Rattle.std.specs.Ordering.{int_eq}
use Rattle.std.specs.Fmt.{signed_decimal}
use Rattle.trace_types.specs.ByteTexts.{byte_text}
use Rattle.trace_types.specs.CallNames.{call_entry}
use Rattle.event_list.specs.Lines.{name_at}
use Rattle.trace_types.specs.declared.path.Path.{Path as AttributePath}
use Rattle.trace_types.specs.declared.path.Path.TheVariants as path
use Rattle.trace_types.specs.declared.path.ThreadLeaf.TheVariants as thread_leaf
use Rattle.trace_types.specs.declared.thread_status.TheConstants as status
use Rattle.trace_types.specs.declared.value.Value.{Value}
use Rattle.trace_types.specs.declared.value.Value.TheVariants.{Null, Int, Comm, Call}

-- a number on a Status path is one of four words; on another path it is a number
abbrev pub status_text : ℤ → List ℕ
status_text z =
    if int_eq z status.RUNNING then codes "status running"
    else if int_eq z status.READY then codes "status ready"
    else if int_eq z status.BLOCKED then codes "status blocked"
    else if int_eq z status.ENDED then codes "status ended"
    else codes "int " ++ signed_decimal z

abbrev pub int_text : AttributePath → ℤ → List ℕ
int_text (path.Thread host thread thread_leaf.Status) z = status_text z
int_text p z = codes "int " ++ signed_decimal z

-- a name without the first place of these bytes in it
abbrev pub call_name : List ℕ → List ℕ
call_name [] = []
call_name (b ∷ bs) = if starts_with nat_eq (b ∷ bs) call_entry then drop 14 (b ∷ bs) else b ∷ call_name bs

-- the host of a path
abbrev pub host_of : AttributePath → ℕ
host_of (path.Cpu host cpu leaf) = host
host_of (path.Thread host thread leaf) = host

-- a value: its kind and itself; a call has the name of its event, among those of its host
abbrev pub value_text : (ℕ → List (List ℕ)) → AttributePath → Value → List ℕ
value_text names p Null = codes "null"
value_text names p (Int z) = int_text p z
value_text names p (Comm name) = codes "comm " ++ byte_text name
value_text names p (Call number) = codes "call " ++ byte_text (call_name (name_at (names (host_of p)) number))
