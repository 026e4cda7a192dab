use Rattle.std.proofs.Common.{◌≡◌, ◌≤◌, min, ap, ◌∙◌, sym, arith}
use Rattle.range_query.proofs.Ranging.{number_stretches, number_answers, null_stretches, null_answers}
use Rattle.range_query.proofs.answer.range.Goals as goal
use Rattle.range_query.proofs.answer.range.Goals.{in-Some+in_ok-stretches-in-Some, in-None+in_ok-stretches-in-None}

pub returns-clause-stretches : goal.returns-clause-stretches
returns-clause-stretches c =
    let end : c.min-end.result ≡ min c.args.to c.args.history.now.built = c.min-end.ensures ∙ ap (min c.args.to) c.built-built.ensures in
    elim c.match-number.branch [
      | in-Some+in_ok-stretches-in-Some w ↦ rw (w.stretches-is, ← end) (number_stretches c.args.history.now w.in-Some.number c.args.from c.min-end.result w.in_ok-stretches-in-Some.stretches.items c.if-end-from.false w.in_ok-stretches-in-Some.ensures)
      | in-None+in_ok-stretches-in-None w ↦ rw (w.stretches-is, w.in_ok-stretches-in-None.ensures.items, ← end) (null_stretches c.args.from c.min-end.result c.if-end-from.false)
    ]

pub returns-clause-values : goal.returns-clause-values
returns-clause-values c steps stands =
    let end : c.min-end.result ≡ min c.args.to c.args.history.now.built = c.min-end.ensures ∙ ap (min c.args.to) c.built-built.ensures in
    let below : c.min-end.result ≤ c.args.history.now.built = omega (arith, end) in
    elim c.match-number.branch [
      | in-Some+in_ok-stretches-in-Some w ↦ rw w.stretches-is (number_answers c.args.history.now w.in-Some.number c.args.from c.min-end.result w.in_ok-stretches-in-Some.stretches.items c.if-end-from.false w.in_ok-stretches-in-Some.ensures steps c.args.path below (sym c.number.ensures.number ∙ w.in-Some.is) stands)
      | in-None+in_ok-stretches-in-None w ↦ rw (w.stretches-is, w.in_ok-stretches-in-None.ensures.items) (null_answers c.args.history.now steps c.args.path c.args.from c.min-end.result below (sym c.number.ensures.number ∙ w.in-None.is) stands)
    ]
