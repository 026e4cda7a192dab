use Rattle.read_plan.proofs.Planned.{answer_is_for}
use Rattle.read_plan.proofs.planning.header_plan.Goals as goal

pub returns-clause-sound : goal.returns-clause-sound
returns-clause-sound c = answer_is_for c.args.table.now c.args.ty c.planned.result c.planned.ensures.is
