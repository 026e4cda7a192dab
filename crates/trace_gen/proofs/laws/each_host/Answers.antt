use Rattle.trace_gen.proofs.Whole.{whole}
use Rattle.trace_gen.proofs.laws.each_host.Goals as goal

pub returns : goal.returns
returns c hosts events few = whole hosts events few
