-- The line that tells what a host's trace declares (this project's own).
use Rattle.std.specs.Prelude.{ℕ, List, ◌++◌, length, codes}
use Rattle.std.specs.Fmt.{decimal}
use Rattle.type_scope.specs.Traces.{Trace}

-- how many streams, events and clocks a host's trace declares
abbrev pub host_line : ℕ → Trace → List ℕ
host_line host t =
    codes "host " ++ decimal host ++ codes " streams " ++ decimal (length t.declared.streams) ++ codes " events " ++ decimal (length t.declared.events) ++ codes " clocks " ++ decimal (length t.declared.clocks) ++ codes "\n"
