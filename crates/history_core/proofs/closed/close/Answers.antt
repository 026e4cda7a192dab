use Rattle.std.proofs.Common.{◌≡◌, true, sym, ◌∙◌}
use Rattle.history_core.specs.Intervals.{closes}
use Rattle.history_core.proofs.Keeping.{ok_then, tree_closed}
use Rattle.history_core.proofs.closed.close.Goals as goal

pub returns-clause-placed : goal.returns-clause-placed
returns-clause-placed c =
    let closed : closes c.args.t c.in-Some.since ≡ true = sym c.closes.ensures ∙ c.if-not-closes.false in
    ok_then c.insert.result _ _ (λ placed. tree_closed c.args.tree.now c.insert.new.self c.args.number c.args.t c.args.before.now c.in-Some.since c.until.result c.in-Some.is closed c.until.ensures placed) c.insert.ensures.placed
