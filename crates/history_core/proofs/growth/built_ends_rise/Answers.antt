use Rattle.history_core.proofs.Ends.{ends_at_keys, ends_rise}
use Rattle.history_core.proofs.growth.built_ends_rise.Goals as goal

pub returns : goal.returns
returns c = record { at_keys = λ merge is. ends_at_keys merge; rise = ends_rise }
