use Rattle.std.proofs.Common.{◌∙◌, ◌<◌, length, subst, sym, ap, refl, arith, None}
use Rattle.std.proofs.lemmas.Option.{slice_get-get_or, slice_get_read}
use Rattle.wait_graph.specs.States.{tid_of}
use Rattle.wait_graph.specs.Changes.{AreChanges}
use Rattle.wait_graph.proofs.Advance.{tid_of_value}
use Rattle.wait_graph.proofs.changes.changes.Goals as goal

pub loop-place-preserved : goal.loop-place-preserved
loop-place-preserved c =
    let place = c.loop-place.place in
    let e = c.index-merged-place.result in
    let there = slice_get_read c.args.merged.now (length c.args.merged.now) place e refl c.loop-place-test.true c.index-merged-place.is in
    let at = slice_get-get_or c.args.moments.now place (record { thread = None; irq = None; softirq = None; receive = None }) (subst (λ n. place < n) (sym c.requires.moments.count) c.loop-place-test.true) in
    let runs = ap tid_of (c.requires.moments.values place e _ there at).thread ∙ tid_of_value _ in
    let noted = c.in_ok-note.ensures in
    let few = noted.few in
    let before = c.loop-place.invariant.few in
    record {
      states = noted.states c.args.merged.now e there refl runs c.loop-place.invariant.states;
      changes = noted.noted c.args.merged.now e there refl runs c.loop-place.invariant.states c.loop-place.invariant.changes;
      few = omega (arith, few, before);
    }

pub returns-clause-changes : goal.returns-clause-changes
returns-clause-changes c = subst (λ n. AreChanges c.args.merged.now n c.loop-place.changes.items) (let a = c.loop-place-test.false in let b = c.loop-place.auto.place-end in omega (arith, a, b)) c.loop-place.invariant.changes
