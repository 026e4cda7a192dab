use Rattle.std.proofs.Common.{ap, ◌∙◌}
use Rattle.trace_types.specs.declared.event.Merged.{Merged}
use Rattle.state_times.proofs.Placed.{last_is}
use Rattle.state_times.proofs.window.last_key.Goals as goal

pub returns-in-len1-up : goal.returns-in-len1-up
returns-in-len1-up c = let h = c.last-item.is in ap (λ (m : Merged). m.key) h ∙ last_is c.args.merged.now c.last-item.result c.in-len1-up.len_at_least
