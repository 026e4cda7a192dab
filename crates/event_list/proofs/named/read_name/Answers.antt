use Rattle.std.proofs.Common.{ap, sym, ◌∙◌}
use Rattle.event_list.specs.NamedKinds.{may_name}
use Rattle.event_list.proofs.ByteNames.{no_other}
use Rattle.event_list.proofs.Options.{at_some}
use Rattle.event_list.proofs.named.read_name.Goals as goal

pub returns-then-not-may_name-clause-none : goal.returns-then-not-may_name-clause-none
returns-then-not-may_name-clause-none c = no_other c.args.kind c.args.fields.now c.in-Some.name c.in-len1.len_at_least c.in-len1.len_below (at_some _ _ _ c.in-Some.is c.in_ok-name.ensures.found) (ap (may_name c.args.kind) (sym c.as_bytes.ensures) ∙ (sym c.may_name.ensures ∙ c.if-not-may_name.true))
