use Rattle.std.proofs.Common.{◌≡◌, take}
use Rattle.std.specs.Prelude.{flat_map, filter}
use Rattle.event_list.specs.Names.{names_at}
use Rattle.report_views.specs.StateText.{row_text, has_value}
use Rattle.report_views.proofs.state.rows_text.Given as goal

abbrev pub invariant-loop-row : goal.invariant-loop-row
invariant-loop-row l = l.text.items ≡ flat_map (row_text (names_at l.names)) (filter has_value (take l.row-index l.rows))
