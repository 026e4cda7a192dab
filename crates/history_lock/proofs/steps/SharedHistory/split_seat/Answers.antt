use Rattle.std.proofs.Common.{rules}
use Rattle.history_lock.proofs.Moves.{splits_pass}
use Rattle.history_lock.proofs.steps.SharedHistory.split_seat.Goals as goal

pub split_seat-requires : goal.split_seat-requires
split_seat-requires c = (search rules, search rules, splits_pass _ _ c.requires.live)
