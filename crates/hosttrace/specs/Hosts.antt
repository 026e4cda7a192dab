-- What the metadata of hosts declares, and the text that tells it (this project's own).
use Rattle.std.specs.Prelude.{ℕ, ◌+◌, List, [], ◌∷◌, ◌++◌}
use Rattle.type_scope.specs.Traces.{Trace}
use Rattle.trace_metadata.specs.Files.{IsTrace}
use Rattle.report_views.specs.CheckText.{host_line}

-- files of metadata declare these traces, one each
abbrev pub AreTraces : List (List ℕ) → List Trace → Type 0
AreTraces [] [] = Unit {0}
AreTraces (bytes ∷ files) (t ∷ ts) = IsTrace bytes t × AreTraces files ts
AreTraces _ _ = ⊥

-- a line for each host, from this one on
abbrev pub host_lines : ℕ → List Trace → List ℕ
host_lines host [] = []
host_lines host (t ∷ ts) = host_line host t ++ host_lines (host + 1) ts
