use Rattle.std.proofs.Common.{rules, Some, sym, ap, subst, ◌∷◌}
use Rattle.atomic_table.specs.Table.{rest}
use Rattle.history_lock.specs.Turn.{Holds}
use Rattle.history_lock.proofs.Moves.{gives_turn}
use Rattle.history_lock.proofs.steps.SharedHistory.give.Goals as goal

pub store-requires : goal.store-requires
store-requires c =
    let e = c.exchange.ensures in let h = c.args.history in let has = c.requires.turn in
    (search rules, search rules, gives_turn _ _ _ h (subst (λ m. Holds m h) (sym e.3) (ap (λ l. (0, Some h) ∷ rest l) has.0, has.1, has.2, c.requires.stands)))
