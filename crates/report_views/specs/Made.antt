-- The summary of made traces: their size, and how messages and clocks fit (this project's own format).
use Rattle.std.specs.Prelude.{ℕ, List, [], ◌∷◌, ◌++◌, codes, length}
use Rattle.std.specs.Fmt.{decimal}
use Rattle.trace_types.specs.declared.event.Merged.{Merged}
use Rattle.message_match.specs.declared.message.Message.{Message}
use Rattle.host_tree.specs.declared.parent.Parent.{Parent}
use Rattle.host_merge.specs.declared.placed.Placed.{Placed}
use Rattle.host_merge.specs.Placed.{inverted_among}
use Rattle.report_views.specs.Report.{messages_line, tree_lines}

-- how many hosts and rounds were asked for, and how many events all hosts have
abbrev pub made_line : ℕ → ℕ → ℕ → List ℕ
made_line hosts rounds events = codes "made hosts " ++ (decimal hosts ++ (codes " rounds " ++ (decimal rounds ++ (codes " events " ++ (decimal events ++ 10 ∷ [])))))

-- how many messages were received, by the merge, before they were sent
abbrev pub inverted_count_line : List Placed → List ℕ
inverted_count_line placed = codes "inverted " ++ (decimal (length (inverted_among placed)) ++ 10 ∷ [])

-- the size, then the report's lines on the messages and on each host's place among the clocks, and how many messages are inverted
abbrev pub made_text : ℕ → ℕ → List Message → ℕ → List Parent → List Merged → List Placed → List ℕ
made_text hosts rounds matched ambiguous parents merged placed =
    made_line hosts rounds (length merged) ++ (messages_line matched ambiguous ++ (tree_lines parents ++ inverted_count_line placed))
