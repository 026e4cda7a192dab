-- Pieces, one after the other.
use Rattle.std.proofs.Common.{◌≡◌, ◌≢◌, ◌∙◌, inl, inr, ℕ, ◌<◌, ◌≤◌, List, [], ◌∷◌, ◌++◌, refl, sym, subst, arith}
use Rattle.std.proofs.lemmas.List.Elements.{All-push}
use Rattle.wait_graph.specs.Graph.{WaitGraph}
use Rattle.critical_path.specs.Holder.{HoldsAt}
use Rattle.critical_path.specs.Steps.{ForMerges, IsHeld}
use Rattle.critical_path.specs.declared.piece.Holder.{Holder}
use Rattle.critical_path.specs.declared.piece.PathPiece.{PathPiece}
use Rattle.critical_path.specs.Pieces.{grown, holder_of, AreTiles, NeighboursDiffer, Advances, AreOpen}
use native.Mathlib.Decide.{dec_lt}
use mathlib.Core.Logic.{dite}

pub tiles_more : (from : ℕ) (pieces : List PathPiece) (piece : PathPiece) → AreTiles from piece.from pieces → piece.from < piece.to → AreTiles from piece.to (pieces ++ piece ∷ [])
tiles_more from [] piece tiles lt = (sym tiles, lt, refl)
tiles_more from (p ∷ ps) piece tiles lt = (tiles.0, tiles.1, tiles_more p.to ps piece tiles.2 lt)

-- neighbours are told by their holders alone
same_differ : (pieces : List PathPiece) (a b : PathPiece) → holder_of a ≡ holder_of b → NeighboursDiffer (pieces ++ a ∷ []) → NeighboursDiffer (pieces ++ b ∷ [])
same_differ [] a b same d = tt
same_differ (p ∷ []) a b same d = ((λ e. d.0 (e ∙ sym same)), tt)
same_differ (p ∷ q ∷ ps) a b same d = (d.0, same_differ (q ∷ ps) a b same d.1)

differ_more : (pieces : List PathPiece) (a b : PathPiece) → holder_of a ≢ holder_of b → NeighboursDiffer (pieces ++ a ∷ []) → NeighboursDiffer ((pieces ++ a ∷ []) ++ b ∷ [])
differ_more [] a b ne d = (ne, tt)
differ_more (p ∷ []) a b ne d = (d.0, (ne, tt))
differ_more (p ∷ q ∷ ps) a b ne d = (d.0, differ_more (q ∷ ps) a b ne d.1)

module _ (graph : WaitGraph) (host tid : ℕ) where
  abbrev IsOpen : ℕ → ℕ → List PathPiece → PathPiece → Type 0
  IsOpen = AreOpen (IsHeld graph host tid)

  -- two pieces of one holder are one
  joined : (open_piece next : PathPiece) → IsHeld graph host tid open_piece → IsHeld graph host tid next → next.from ≡ open_piece.to → holder_of open_piece ≡ holder_of next → IsHeld graph host tid (grown open_piece next.to)
  joined open_piece next a b begin same t lo hi = dite (dec_lt t open_piece.to) (λ lt. a t lo lt)
      (λ ge. subst (λ (h : Holder). ForMerges graph (λ merged placed. HoldsAt merged placed host tid t h)) (sym same) (b t (omega (arith, ge, begin)) hi))

  grows : (from to : ℕ) (pieces new : List PathPiece) (open_piece next o : PathPiece) → IsOpen from to pieces open_piece → IsHeld graph host tid next → next.from ≡ open_piece.to → open_piece.to < next.to → next.to ≤ to → holder_of open_piece ≡ holder_of next
      → new ≡ pieces → o ≡ grown open_piece next.to → IsOpen from to new o
  grows from to pieces new open_piece next o is held begin later within same unchanged grown_is = rw (unchanged, grown_is) (record {
    tiles = is.tiles;
    held = is.held;
    open_held = joined open_piece next is.open_held held begin same;
    begun = let b = is.begun in omega (arith, b, later);
    within = within;
    differ = same_differ pieces open_piece (grown open_piece next.to) refl is.differ;
  })

  closes : (from to : ℕ) (pieces new : List PathPiece) (open_piece next o : PathPiece) → IsOpen from to pieces open_piece → IsHeld graph host tid next → next.from ≡ open_piece.to → open_piece.to < next.to → next.to ≤ to → holder_of open_piece ≢ holder_of next
      → new ≡ pieces ++ open_piece ∷ [] → o ≡ next → IsOpen from to new o
  closes from to pieces new open_piece next o is held begin later within ne more next_is = rw (more, next_is) (record {
    tiles = subst (λ n. AreTiles from n (pieces ++ open_piece ∷ [])) (sym begin) (tiles_more from pieces open_piece is.tiles is.begun);
    held = All-push (IsHeld graph host tid) pieces open_piece is.held is.open_held;
    open_held = held;
    begun = omega (arith, begin, later);
    within = within;
    differ = differ_more pieces open_piece next ne is.differ;
  })

  pub advances : (from to : ℕ) (pieces new : List PathPiece) (last next o : PathPiece) → IsOpen from to pieces last → IsHeld graph host tid next → next.from ≡ last.to → last.to < next.to → next.to ≤ to → Advances pieces last next new o → IsOpen from to new o
  advances from to pieces new last next o is held begin later within (inl g) = grows from to pieces new last next o is held begin later within g.0 g.1 g.2
  advances from to pieces new last next o is held begin later within (inr c) = closes from to pieces new last next o is held begin later within c.0 c.1 c.2
