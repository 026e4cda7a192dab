use Rattle.std.proofs.Common.{rules, inl, refl, ◌∙◌}
use Rattle.event_list.proofs.Listing.{is_trace, names_of_few, tables_enough, written_again}
use Rattle.event_list.proofs.Reading.{begins_so, other_first}
use Rattle.event_list.proofs.Splitting.{have_names}
use Rattle.event_list.proofs.list.read_list.Goals as goal

pub returns-then-ne-clause-bad : goal.returns-then-ne-clause-bad
returns-then-ne-clause-bad c = λ line e events list. other_first c.args.bytes.now c.in-Some.first.now c.in-Some.text.now c.ne.result c.in-Some.ensures.found.0 c.in-Some.ensures.found.1 c.ne.ensures c.if-ne.true list.0 list.1

pub returns-then-ne-clause-line : goal.returns-then-ne-clause-line
returns-then-ne-clause-line c = λ line e. inl (search rules, other_first c.args.bytes.now c.in-Some.first.now c.in-Some.text.now c.ne.result c.in-Some.ensures.found.0 c.in-Some.ensures.found.1 c.ne.ensures c.if-ne.true)

pub host_count-requires : goal.host_count-requires
host_count-requires c = rw c.deref-2.ensures.value (tables_enough c.in-Some.text.now c.in_ok-events.ensures.lines.0 c.in_ok-events.field-0 c.in_ok-events.ensures.lines.1 c.in_ok-events.ensures.lines.2).0

pub name_lists-requires : goal.name_lists-requires
name_lists-requires c = rw (c.host_count.ensures, c.deref.ensures.value, c.deref-2.ensures.value) (tables_enough c.in-Some.text.now c.in_ok-events.ensures.lines.0 c.in_ok-events.field-0 c.in_ok-events.ensures.lines.1 c.in_ok-events.ensures.lines.2).1

pub returns-clause-list : goal.returns-clause-list
returns-clause-list c = (c.in_ok-events.ensures.lines.0, (c.in-Some.text.now, begins_so c.args.bytes.now c.in-Some.first.now c.in-Some.text.now c.ne.result c.in-Some.ensures.found.0 c.ne.ensures c.if-ne.false, c.in_ok-events.ensures.lines.1), is_trace c.in-Some.text.now c.in_ok-events.ensures.lines.0 c.in_ok-events.field-0 _ c.in_ok-events.ensures.lines.1 c.in_ok-events.ensures.lines.2 refl (rw c.in_ok-names.ensures (rw (c.host_count.ensures, c.deref.ensures.value, c.deref-2.ensures.value) refl)))

pub returns-clause-again : goal.returns-clause-again
returns-clause-again c = begins_so c.args.bytes.now c.in-Some.first.now c.in-Some.text.now c.ne.result c.in-Some.ensures.found.0 c.ne.ensures c.if-ne.false ∙ written_again c.in-Some.text.now c.in_ok-events.ensures.lines.0 c.in_ok-events.field-0 (record { events = c.in_ok-events.field-0.events; names = c.in_ok-names.names }) c.in_ok-events.ensures.lines.1 c.in_ok-events.ensures.lines.2 refl (rw c.in_ok-names.ensures (rw (c.host_count.ensures, c.deref.ensures.value, c.deref-2.ensures.value) refl))

pub returns-clause-hosts : goal.returns-clause-hosts
returns-clause-hosts c = have_names c.in_ok-events.ensures.lines.0 (record { events = c.in_ok-events.field-0.events; names = c.in_ok-names.names }) (is_trace c.in-Some.text.now c.in_ok-events.ensures.lines.0 c.in_ok-events.field-0 _ c.in_ok-events.ensures.lines.1 c.in_ok-events.ensures.lines.2 refl (rw c.in_ok-names.ensures (rw (c.host_count.ensures, c.deref.ensures.value, c.deref-2.ensures.value) refl)))

pub returns-clause-few_hosts : goal.returns-clause-few_hosts
returns-clause-few_hosts c = names_of_few c.in-Some.text.now c.in_ok-events.ensures.lines.0 c.in_ok-events.field-0 c.in_ok-names.names.items c.in_ok-events.ensures.lines.1 c.in_ok-events.ensures.lines.2 (rw c.in_ok-names.ensures (rw (c.host_count.ensures, c.deref.ensures.value, c.deref-2.ensures.value) refl))
