use Rattle.kernel_layout.proofs.PlannedNames.{no_segment}
use Rattle.kernel_layout.proofs.planned.PlannedFieldsSegments.segment.Goals as goal

pub returns : goal.returns
returns c = no_segment c.args.self.table.now c.args.self.plan.now c.args.self.bits.bytes.now c.args.self.bits.end c.args.self.at c.requires.usable
