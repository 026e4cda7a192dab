use Rattle.std.proofs.Common.{sym, ◌∙◌}
use Rattle.event_list.proofs.KindWords.{name_there, no_name_there, no_plain_there, plain_there}
use Rattle.event_list.proofs.Options.{at_none, at_some}
use Rattle.event_list.proofs.kind.read_kind_line.Goals as goal

pub returns-in_default-2-clause-none : goal.returns-in_default-2-clause-none
returns-in_default-2-clause-none c = no_name_there c.args.words.now c.in-Some.kind c.in-Some-named_event.event c.in-len1-up.len_at_least c.in-Some.ensures.found (sym c.named_event.ensures ∙ c.in-Some-named_event.is) (at_none _ _ c.in_default-2.is c.in_ok-name.ensures.none)

pub returns-in-Some-named_event-clause-found : goal.returns-in-Some-named_event-clause-found
returns-in-Some-named_event-clause-found c = name_there c.args.words.now c.in-Some.kind c.in-Some-named_event.event c.in-Some-2.name c.in-len1-up.len_at_least c.in-Some.ensures.found (sym c.named_event.ensures ∙ c.in-Some-named_event.is) (at_some _ _ _ c.in-Some-2.is c.in_ok-name.ensures.found)

pub returns-in_default-read_fields-clause-none : goal.returns-in_default-read_fields-clause-none
returns-in_default-read_fields-clause-none c = no_plain_there c.args.words.now c.in-Some.kind c.in-len1-up.len_at_least c.in-Some.ensures.found (sym c.named_event.ensures ∙ c.in_default-named_event.is) c.in_default-read_fields.ensures.none

pub returns-clause-found : goal.returns-clause-found
returns-clause-found c = rw c.in_ok-name-2.ensures.value (plain_there c.args.words.now c.in-Some.kind c.in-Some-read_fields.event c.in-len1-up.len_at_least c.in-Some.ensures.found c.in-Some-read_fields.ensures.found)
