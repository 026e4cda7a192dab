use Rattle.hosttrace.proofs.Refused.{is_merge}
use Rattle.hosttrace_tests.proofs.history_runs.events_of.Goals as goal

pub returns : goal.returns
returns g c = is_merge c.args.list.now c.in_ok-read_list.ensures.list.0 c.in_ok-read_list.field-0 c.in_ok-read_list.ensures.list.1 c.in_ok-read_list.ensures.list.2
