use Rattle.std.proofs.Common.{◌≡◌, ◌≤◌, ◌+◌, take, sym, subst, ◌∙◌, arith}
use native.Mathlib.Decide.{ℕ_discrete}
use mathlib.Core.Logic.{dite}
use Rattle.tsdl_parser.specs.Reading.{MAX_BRACES}
use Rattle.tsdl_parser.specs.Depth.{opened, opened_by}
use Rattle.tsdl_parser.proofs.Reading.{opened_more}
use Rattle.tsdl_parser.proofs.text.first_too_deep.Goals as goal

pub loop-place-preserved : goal.loop-place-preserved
loop-place-preserved c =
    let tokens = c.args.tokens.now in
    let place = c.loop-place.place in
    let token = c.index-tokens-place.result in
    let inside = c.loop-place-test.true in
    let so_far = c.loop-place.invariant in
    let next : c.opened_by-depth.result ≡ opened (take (place + 1) tokens) = c.opened_by-depth.ensures ∙ (λ i. opened_by (so_far.1 i) (c.symbol_of.ensures i)) ∙ sym (opened_more tokens place token inside) in
    let few = c.if-depth-gt-MAX_BRACES.false in (
      omega (arith, inside),
      next,
      λ n within. dite (ℕ_discrete n (place + 1))
          (λ last. subst (λ m. opened (take m tokens) ≤ MAX_BRACES) (sym last) (subst (λ d. d ≤ MAX_BRACES) next (omega (arith, few))))
          (λ earlier. so_far.2 n (omega (arith, within, earlier))),
    )
