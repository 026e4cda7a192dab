use Rattle.std.proofs.Common.{◌≡◌, ◌∙◌, ◌+◌, ◌∷◌, [], ⊎_elim, Some, length, slice_get, subst, ap, arith}
use Rattle.std.proofs.lemmas.List.{length-append}
use Rattle.wait_graph.proofs.Pushes.{pushed}
use Rattle.wait_graph.proofs.stretches.stretches.Goals as goal

pub loop-number-preserved : goal.loop-number-preserved
loop-number-preserved c =
    let vs = c.loop-number.vertices.items in
    let new = c.vertex_of.result in
    let items = c.in_ok-push.ensures.items in
    let count = c.loop-number.invariant.count in
    record {
      each = λ placed are n d v at got. ⊎_elim (λ old. c.loop-number.invariant.each placed are n d v at old)
          (λ last. rw (last.1, last.0 ∙ count) (c.vertex_of.ensures.is placed d are (subst (λ m. slice_get c.args.changes.now m ≡ Some d) (last.0 ∙ count) at)))
          (pushed vs new v n (subst (λ l. slice_get l n ≡ Some v) items got));
      unwoven = λ n v got. ⊎_elim (λ old. c.loop-number.invariant.unwoven n v old) (λ last. rw last.1 (c.vertex_of.ensures.wake_next, c.vertex_of.ensures.wake_before))
          (pushed vs new v n (subst (λ l. slice_get l n ≡ Some v) items got));
      count = ap length items ∙ (length-append vs (new ∷ []) ∙ ap (λ n. n + 1) count);
    }

pub returns-clause-vertices : goal.returns-clause-vertices
returns-clause-vertices c = λ placed are. record {
  count = let a = c.loop-number-test.false in let b = c.loop-number.auto.number-end in let n = c.loop-number.invariant.count in omega (arith, a, b, n);
  each = c.loop-number.invariant.each placed are;
}
