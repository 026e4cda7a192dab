use Rattle.std.proofs.Common.{◌++◌, ◌∷◌, [], All, subst, sym, arith}
use Rattle.std.proofs.lemmas.List.Elements.{All-push}
use Rattle.critical_path.specs.Pieces.{AreTiles}
use Rattle.critical_path.specs.Steps.{IsHeld}
use Rattle.critical_path.proofs.Tiling.{advances, tiles_more}
use Rattle.critical_path.proofs.path.pieces.Goals as goal

pub loop-last-preserved : goal.loop-last-preserved
loop-last-preserved c = advances c.args.graph.now c.args.host c.args.tid c.args.from c.args.to c.loop-last.pieces.items c.advance.new.pieces.items c.loop-last.last c.piece_from-next.result c.in_ok-last.last c.loop-last.invariant
    c.piece_from-next.ensures.held c.piece_from-next.ensures.from c.piece_from-next.ensures.later c.piece_from-next.ensures.within c.in_ok-last.ensures

pub returns-clause-tiles : goal.returns-clause-tiles
returns-clause-tiles c =
    let is = c.loop-last.invariant in
    let a = c.loop-last-test.false in
    let b = is.within in
    subst (AreTiles c.args.from c.args.to) (sym c.in_ok-push.ensures.items)
    (subst (λ n. AreTiles c.args.from n (c.loop-last.pieces.items ++ c.loop-last.last ∷ [])) (omega (arith, a, b)) (tiles_more c.args.from c.loop-last.pieces.items c.loop-last.last is.tiles is.begun))

pub returns-clause-held : goal.returns-clause-held
returns-clause-held c =
    let is = c.loop-last.invariant in
    subst (All (IsHeld c.args.graph.now c.args.host c.args.tid)) (sym c.in_ok-push.ensures.items) (All-push (IsHeld c.args.graph.now c.args.host c.args.tid) c.loop-last.pieces.items c.loop-last.last is.held is.open_held)
