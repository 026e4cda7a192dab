use Rattle.std.proofs.Common.{rules, to_z-of_z}
use Rattle.std.specs.Int.{w64}
use Rattle.event_list.proofs.InRange.{too_wide}
use Rattle.event_list.proofs.thread.read_prio.Goals as goal

pub returns-clause-none : goal.returns-clause-none
returns-clause-none c = too_wide c.args.word.now c.in_ok-read_signed.field-0 _ c.try_from.result c.ok.result c.ok.ensures.value c.try_from.ensures (to_z-of_z {w = w64} (search rules)) (search rules) c.in_ok-read_signed.ensures.found
