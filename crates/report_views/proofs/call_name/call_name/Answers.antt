use Rattle.std.proofs.Common.{sym, ◌∙◌}
use Rattle.report_views.proofs.CallNames.{ended}
use Rattle.report_views.proofs.call_name.call_name.Goals as goal

pub returns-then-starts_with : goal.returns-then-starts_with
returns-then-starts_with c = ended c.args.name.now c.loop-rest.kept.items c.loop-rest.rest.now _ c.loop-rest.invariant c.in-len1-up.len_at_least (sym c.starts_with.ensures.value ∙ c.if-starts_with.true) c.in_ok-extend_from_slice.ensures.items
