use Rattle.std.proofs.Common.{◌≡◌, ◌++◌, ◌∷◌, [], Some, get_or, slice_get, sym, ap, ◌∙◌}
use Rattle.std.proofs.lemmas.Bool.{le-ltb, lt-ltb}
use Rattle.std.proofs.lemmas.Option.{slice_get-get_or}
use Rattle.host_merge.specs.Placed.{is_inverted}
use Rattle.host_merge.specs.declared.placed.Placed.{Placed}
use Rattle.host_merge.proofs.Ranges.{below_no, below_yes}
use Rattle.host_merge.proofs.placing.inverted.Goals as goal
use Rattle.host_merge.proofs.placing.inverted.Goals.{then-placed-number+in_ok-push, else-placed-number}

pub loop-number-preserved : goal.loop-number-preserved
loop-number-preserved c =
    let placed = c.args.placed.now in
    let number = c.loop-number.number in
    let none : Placed = record { send = 0; receive = 0 } in
    let p = get_or placed number none in
    let at : slice_get placed number ≡ Some p = slice_get-get_or placed number none c.loop-number-test.true in
    elim c.if-placed-number.branch [
      | then-placed-number+in_ok-push w ↦
          ap (λ v. v.items) w.numbers-is ∙ (w.in_ok-push.ensures.items ∙ (ap (λ l. l ++ number ∷ []) c.loop-number.invariant
          ∙ sym (below_yes (λ k. is_inverted (slice_get placed k)) number (ap is_inverted at ∙ lt-ltb p.receive p.send w.if-placed-number.true))))
      | else-placed-number w ↦
          ap (λ v. v.items) w.numbers-is ∙ (c.loop-number.invariant ∙ sym (below_no (λ k. is_inverted (slice_get placed k)) number (ap is_inverted at ∙ le-ltb p.receive p.send w.if-placed-number.false)))
    ]
