-- A thread has one critical path at most over a window.
use Rattle.std.proofs.Common.{◌≡◌, ◌∙◌, ℕ, ◌<◌, ◌≤◌, All, List, [], ◌∷◌, refl, sym, ap, subst, arith}
use Rattle.std.proofs.lemmas.List.Elements.{All-head, All-tail}
use Rattle.trace_types.specs.declared.event.Merged.{Merged}
use Rattle.host_merge.specs.declared.placed.Placed.{Placed}
use Rattle.wait_graph.specs.Graph.{IsMergeWithMessages}
use Rattle.critical_path.specs.Holder.{HoldsAt}
use Rattle.critical_path.specs.Pieces.{holder_of, AreTiles, NeighboursDiffer}
use Rattle.critical_path.specs.Laws.{HaveOnePath}
use Rattle.critical_path.specs.declared.piece.What.{What}
use Rattle.critical_path.specs.declared.piece.Holder.{Holder}
use Rattle.critical_path.specs.declared.piece.PathPiece.{PathPiece}
use Rattle.critical_path.proofs.OneHolder.{one_holder}
use native.Mathlib.Decide.{dec_lt, ℕ_discrete}
use mathlib.Core.Logic.{dite}

tiles_rise : (from to : ℕ) (xs : List PathPiece) → AreTiles from to xs → from ≤ to
tiles_rise from to [] tiles = omega (arith, tiles)
tiles_rise from to (x ∷ xs) tiles = let a = tiles_rise x.to to xs tiles.2 in let b = tiles.1 in omega (arith, a, b)

same_fields : (a b c d g h i j : ℕ) (k l : What) → a ≡ b → c ≡ d → g ≡ h → i ≡ j → k ≡ l → ◌≡◌ {A = PathPiece} (record { from = a; to = c; host = g; tid = i; what = k }) (record { from = b; to = d; host = h; tid = j; what = l })
same_fields a b c d g h i j k l from to host tid what = rw (from, to, host, tid, what) refl

same_piece : (x y : PathPiece) → x.from ≡ y.from → x.to ≡ y.to → holder_of x ≡ holder_of y → x ≡ y
same_piece x y from to same = same_fields x.from y.from x.to y.to x.host y.host x.tid y.tid x.what y.what from to (ap (λ (k : Holder). k.host) same) (ap (λ (k : Holder). k.tid) same) (ap (λ (k : Holder). k.what) same)

module _ (merged : List Merged) (placed : List Placed) (is : IsMergeWithMessages merged placed) (host tid : ℕ) where
  abbrev Held : PathPiece → Type 0
  Held piece = (t : ℕ) → piece.from ≤ t → t < piece.to → HoldsAt merged placed host tid t (holder_of piece)

  -- a piece doesn't end inside another that begins with it
  no_sooner : (to : ℕ) (x y : PathPiece) (xs : List PathPiece) → holder_of x ≡ holder_of y → Held y → y.from ≤ x.to → x.to < y.to → y.to ≤ to → AreTiles x.to to xs → All Held xs → NeighboursDiffer (x ∷ xs) → ⊥
  no_sooner to x y [] same held begun lt within tiles rest differ = omega (arith, lt, within, tiles)
  no_sooner to x y (z ∷ zs) same held begun lt within tiles rest differ =
      let e = tiles.0 in let b = tiles.1 in
      let at_z = All-head Held z zs rest x.to (omega (arith, e)) (omega (arith, e, b)) in
      let one = one_holder merged placed is host tid x.to (holder_of y) (holder_of z) (held x.to begun lt) at_z in
      differ.0 (same ∙ one)

  one_list : (from to : ℕ) (xs ys : List PathPiece) → AreTiles from to xs → AreTiles from to ys → All Held xs → All Held ys → NeighboursDiffer xs → NeighboursDiffer ys → xs ≡ ys
  one_list from to [] [] tx ty hx hy dx dy = refl
  one_list from to [] (y ∷ ys) tx ty hx hy dx dy = let a = tiles_rise y.to to ys ty.2 in let b = ty.1 in absurd (omega (arith, a, b, tx))
  one_list from to (x ∷ xs) [] tx ty hx hy dx dy = let a = tiles_rise x.to to xs tx.2 in let b = tx.1 in absurd (omega (arith, a, b, ty))
  one_list from to (x ∷ xs) (y ∷ ys) tx ty hx hy dx dy =
      let fx = tx.0 in let fy = ty.0 in let bx = tx.1 in let by = ty.1 in
      let ex = tiles_rise x.to to xs tx.2 in let ey = tiles_rise y.to to ys ty.2 in
      let held_x = All-head Held x xs hx in let held_y = All-head Held y ys hy in
      let same = one_holder merged placed is host tid from (holder_of x) (holder_of y) (held_x from (omega (arith, fx)) (omega (arith, fx, bx))) (held_y from (omega (arith, fy)) (omega (arith, fy, by))) in
      let ends : x.to ≡ y.to = dite (ℕ_discrete x.to y.to) (λ e. e) (λ ne. dite (dec_lt x.to y.to)
      (λ lt. absurd (no_sooner to x y xs same held_y (omega (arith, fx, fy, bx)) lt ey tx.2 (All-tail Held x xs hx) dx))
      (λ ge. absurd (no_sooner to y x ys (sym same) held_x (omega (arith, fx, fy, by)) (omega (arith, ne, ge)) ex ty.2 (All-tail Held y ys hy) dy))) in
      let rest = one_list x.to to xs ys tx.2 (subst (λ n. AreTiles n to ys) (sym ends) ty.2) (All-tail Held x xs hx) (All-tail Held y ys hy) (later x xs dx) (later y ys dy) in
      rw (same_piece x y (fx ∙ sym fy) ends same, rest) refl
    where
      later : (z : PathPiece) (zs : List PathPiece) → NeighboursDiffer (z ∷ zs) → NeighboursDiffer zs
      later z [] d = tt
      later z (w ∷ ws) d = d.1

pub one_path : HaveOnePath
one_path merged placed is host tid from to a b x y = one_list merged placed is host tid from to a b x.tiles y.tiles x.held y.held x.differ y.differ
