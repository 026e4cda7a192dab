use Rattle.event_list.proofs.WordLists.{no_time}
use Rattle.event_list.proofs.line_head.read_line_head.Goals as goal

pub returns-then-time-eq0-clause-none : goal.returns-then-time-eq0-clause-none
returns-then-time-eq0-clause-none c = no_time _ _ _ c.args.time.now c.in_ok-time.time c.in_ok-time.ensures.found.0 c.if-time-eq0.true
