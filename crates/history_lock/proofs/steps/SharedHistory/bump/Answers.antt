use Rattle.std.proofs.Common.{rules}
use Rattle.history_lock.proofs.Moves.{bumps_count}
use Rattle.history_lock.proofs.steps.SharedHistory.bump.Goals as goal

pub fetch_add-requires : goal.fetch_add-requires
fetch_add-requires c = (search rules, search rules, bumps_count _ _ _ c.requires.turn.0 c.requires.turn.1 c.requires.builder.0 c.requires.turn.2 c.requires.builder.1)
