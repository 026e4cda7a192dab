use Rattle.std.proofs.Common.{rules, inr, IsTrue}
use Rattle.std.proofs.lemmas.Result.{err_from_is_err_and}
use Rattle.hull_lines.proofs.slopes.narrowed_once.Goals as goal

pub returns-in_err-narrowed-clause-refused : goal.returns-in_err-narrowed-clause-refused
returns-in_err-narrowed-clause-refused c =
    let p = err_from_is_err_and c.from_residual.result c.from_residual.ensures.1 in rw (p.1, p.2) (c.worst_pair-steep.result, c.worst_pair-steep.ensures.pair, c.in_err-narrowed.ensures.refused)

pub returns-in_err-narrowed-2-clause-refused : goal.returns-in_err-narrowed-2-clause-refused
returns-in_err-narrowed-2-clause-refused c =
    let p = err_from_is_err_and c.from_residual-in_err-narrowed-2.result c.from_residual-in_err-narrowed-2.ensures.1 in rw (p.1, p.2) (c.worst_pair-flat.result, c.worst_pair-flat.ensures.pair, c.in_err-narrowed-2.ensures.refused)

pub returns-clause-tight : goal.returns-clause-tight
returns-clause-tight c =
    let steep : IsTrue c.passes.result = search rules in
    let flat : IsTrue c.passes-2.result = search rules in
    inr (c.worst_pair-steep.ensures.worst (c.passes.ensures.0 steep), c.worst_pair-flat.ensures.worst (c.passes-2.ensures.0 flat))
