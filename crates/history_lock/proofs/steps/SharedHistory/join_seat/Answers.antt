use Rattle.std.proofs.Common.{rules}
use Rattle.history_lock.proofs.Moves.{joins_pass}
use Rattle.history_lock.proofs.steps.SharedHistory.join_seat.Goals as goal

pub join_seat-requires : goal.join_seat-requires
join_seat-requires c = (search rules, search rules, search rules, search rules, joins_pass _ _ _ _ c.requires.live.0 c.requires.live.1.1 c.requires.live.1.2)
