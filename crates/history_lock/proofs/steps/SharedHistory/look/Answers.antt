use Rattle.std.proofs.Common.{rules}
use Rattle.history_lock.proofs.Moves.{looks_at}
use Rattle.history_lock.proofs.steps.SharedHistory.look.Goals as goal

pub load-requires : goal.load-requires
load-requires c = (search rules, search rules, looks_at _ _ _ c.requires.turn.0 c.requires.turn.1)
