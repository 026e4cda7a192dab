use Rattle.std.proofs.Common.{◌<◌, ◌+◌, ◌^◌, ◌∷◌, [], ap, sym, ◌∙◌, take, arith, rules}
use Rattle.report_views.specs.Report.{mark_count, mark_sum}
use Rattle.report_views.proofs.MarkCounts.{count_more, sum_more, one_none, one_some}
use Rattle.report_views.proofs.marks.marks_of.Goals.{in-Some, in_default}
use Rattle.report_views.proofs.marks.marks_of.Goals as goal

pub loop-event-preserved : goal.loop-event-preserved
loop-event-preserved c =
    let es = c.args.events.now in
    let i = c.loop-event.event-index in
    let e = c.event-item.result in
    let more = count_more es i e c.loop-event-test.true ∙ ap (λ x. mark_count (take i es) + mark_count (x ∷ [])) (sym c.event-item.is) in
    let sum = sum_more es i e c.loop-event-test.true ∙ ap (λ x. mark_sum (take i es) + mark_sum (x ∷ [])) (sym c.event-item.is) in
    let before = c.loop-event.invariant in
    elim c.match-lost_of.branch [
      | in-Some w ↦
          (let one = one_some e w.in-Some.lost (sym c.lost_of.ensures ∙ w.in-Some.is) in
          let small : w.in-Some.lost < 2 ^ 64 = search rules in
          (omega (arith, more, w.count-is, before.0, one.0), omega (arith, sum, w.sum-is, before.1, one.1), omega (arith, w.count-is, before.2), omega (arith, w.sum-is, before.3, small)))
      | in_default w ↦
          (let none = one_none e (sym c.lost_of.ensures ∙ w.in_default.is) in
          (omega (arith, more, w.count-is, before.0, none.0), omega (arith, sum, w.sum-is, before.1, none.1), omega (arith, w.count-is, before.2), omega (arith, w.sum-is, before.3)))
    ]
