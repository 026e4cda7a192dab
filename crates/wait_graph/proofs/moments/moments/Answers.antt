use Rattle.std.proofs.Common.{◌<◌, ◌+◌, length, subst, sym, get_or, None, arith, refl}
use Rattle.std.proofs.lemmas.Option.{slice_get-get_or, slice_get_read}
use Rattle.wait_graph.specs.Moments.{ArePassed, StepsTo}
use Rattle.wait_graph.proofs.Passing.{none_passed, passed_more, all_passed}
use Rattle.wait_graph.proofs.moments.moments.Goals as goal

pub loop-place-init : goal.loop-place-init
loop-place-init c = λ placed messages are. none_passed c.args.merged.now placed c.args.sends.now messages are c.new-cpus.result.entries c.new-moments.result.items c.new-cpus.ensures.empty c.new-moments.ensures.items

pub loop-place-preserved : goal.loop-place-preserved
loop-place-preserved c = λ placed messages are.
    let place = c.loop-place.place in
    let e = c.index-merged-place.result in
    let there = slice_get_read c.args.merged.now (length c.args.merged.now) place e refl c.loop-place-test.true c.index-merged-place.is in
    let got = slice_get-get_or c.args.sends.now place None (subst (λ n. place < n) (sym c.requires.sends) c.loop-place-test.true) in
    subst (ArePassed c.args.merged.now placed (place + 1) c.step.new.cpus.entries) (sym c.in_ok-push.ensures.items)
    (passed_more c.args.merged.now placed c.args.sends.now messages are place e there (get_or c.args.sends.now place None) got c.in_ok-before.before c.loop-place.cpus.entries c.step.new.cpus.entries c.loop-place.moments.items
    (subst (λ b. StepsTo e.event place b c.loop-place.cpus.entries c.in_ok-before.before c.step.new.cpus.entries) c.is_some-matched.ensures c.in_ok-before.ensures)
    (c.loop-place.invariant placed messages are))

pub returns : goal.returns
returns c = λ placed messages are. all_passed c.args.merged.now placed c.args.sends.now messages are c.loop-place.cpus.entries c.loop-place.moments.items c.loop-place.place
    (let a = c.loop-place-test.false in let b = c.loop-place.auto.place-end in omega (arith, a, b)) (c.loop-place.invariant placed messages are)
