use Rattle.std.proofs.Common.{rules, Some, sym, ◌∙◌, ap, ◌∷◌}
use Rattle.atomic_table.specs.Table.{rest}
use Rattle.history_lock.specs.Turn.{Mine}
use Rattle.history_lock.proofs.Moves.{takes_turn}
use Rattle.history_lock.proofs.steps.SharedHistory.take.Goals as goal

pub compare_exchange-found-requires : goal.compare_exchange-found-requires
compare_exchange-found-requires c = (search rules, search rules, takes_turn _ _ _ c.requires.idle)

pub exchange-requires : goal.exchange-requires
exchange-requires c =
    let t = c.compare_exchange-found.ensures.2.0 c.if-found-ne0.false in let p = ap (λ (m : Mine). m.1) t.2 in
    (search rules, (Some t.1, p ∙ ap (λ l. (0, Some t.1) ∷ rest l) (sym p)))
