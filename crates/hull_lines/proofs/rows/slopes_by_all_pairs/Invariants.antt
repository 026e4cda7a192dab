use Rattle.hull_lines.proofs.Seen.{AllSeen}
use Rattle.hull_lines.proofs.rows.slopes_by_all_pairs.Given as goal

abbrev pub invariant-loop-place : goal.invariant-loop-place
invariant-loop-place l = AllSeen l.lower l.upper l.drift l.initial.range l.place l.range
