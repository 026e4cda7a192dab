use Rattle.hull_lines.proofs.Seen.{RowSeen}
use Rattle.hull_lines.proofs.rows.narrowed_by_row.Given as goal

abbrev pub invariant-loop-place : goal.invariant-loop-place
invariant-loop-place l = RowSeen l.fn.range l.lower l.lower_place l.upper l.place l.range
