use Rattle.std.proofs.Common.{◌≡◌, ◌+◌, List, [], ◌∷◌, ◌++◌, length, refl, sym, ap, ◌∙◌, append_assoc, length-append, arith, rules}
use Rattle.kernel_provider.specs.Given.{left}
use Rattle.history_tests.proofs.fed.feed_some.Goals as goal

pub loop-preserved : goal.loop-preserved
loop-preserved g c =
    let at = c.loop.invariant.3 in let fed = at.0 in let rest = left c.next_step.new.self c.args.events.now in
    let more : left c.loop.provider c.args.events.now ≡ c.in-Some.step ∷ rest = search rules in
    let plan = at.1 ∙ (ap (λ l. fed ++ l) more ∙ sym (append_assoc fed (c.in-Some.step ∷ []) rest)) in
    let counted : c.feed.new.builder.fed ≡ c.loop.builder.fed + 1 = search rules in
    (refl, refl, search rules, (fed ++ c.in-Some.step ∷ [], c.in_ok-feed.ensures.kept.1 ∙ plan, omega (arith, length-append fed (c.in-Some.step ∷ []), at.2, counted)))
