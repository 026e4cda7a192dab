use Rattle.std.proofs.Common.{rules}
use Rattle.history_lock.proofs.Moves.{finishes_at}
use Rattle.history_lock.proofs.steps.SharedHistory.finish.Goals as goal

pub load-requires : goal.load-requires
load-requires c = (search rules, search rules, finishes_at _ _ _ c.requires.idle c.requires.builder)
