use Rattle.event_list.proofs.WordLists.{line_there, no_kind_there, no_line_head_there, too_short}
use Rattle.event_list.proofs.Options.{at_none, at_some}
use Rattle.event_list.proofs.line.read_event.Goals as goal

pub returns-in_default-clause-none : goal.returns-in_default-clause-none
returns-in_default-clause-none c = too_short c.args.words.now c.in_default.len_below

pub returns-in_default-read_line_head-clause-none : goal.returns-in_default-read_line_head-clause-none
returns-in_default-read_line_head-clause-none c = no_line_head_there c.args.words.now c.in_default-read_line_head.ensures.none

pub returns-in_default-2-clause-none : goal.returns-in_default-2-clause-none
returns-in_default-2-clause-none c = no_kind_there c.args.words.now c.in-len4-up.len_at_least (at_none _ _ c.in_default-2.is c.in_ok-parsed.ensures.none)

pub returns-clause-found : goal.returns-clause-found
returns-clause-found c = line_there c.args.words.now c.in-Some.head _ c.in-len4-up.len_at_least c.in-Some.ensures.found (at_some _ _ _ c.in-Some-2.is c.in_ok-parsed.ensures.found)
