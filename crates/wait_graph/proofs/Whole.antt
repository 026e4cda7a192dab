-- The vertices of a merge, with both chains.
use Rattle.std.proofs.Common.{◌≡◌, ◌∙◌, ⊎_elim, ℕ, ◌^◌, ◌<◌, List, Option, Some, length, slice_get, refl, sym, ap, subst, arith}
use Rattle.std.specs.Prelude.{IsPermutation}
use Rattle.std.specs.List.Sorted.{IsNonDecreasingBy}
use Rattle.std.proofs.lemmas.Option.{slice_get_within}
use Rattle.trace_types.specs.declared.event.Merged.{Merged}
use Rattle.host_merge.specs.declared.placed.Placed.{Placed}
use Rattle.wait_graph.specs.Cuts.{Rises}
use Rattle.host_tree.proofs.Gets.{within}
use Rattle.wait_graph.specs.declared.change.Change.{Change}
use Rattle.wait_graph.specs.declared.wake.Wake.{Wake}
use Rattle.wait_graph.specs.declared.vertex.Vertex.{Vertex}
use Rattle.wait_graph.specs.Graph.{AreVertices, AreMessagePlaces, IsMergeWithMessages, IsToward}
use Rattle.wait_graph.specs.declared.moment.Moment.{Moment}
use Rattle.wait_graph.specs.Moments.{AreMoments, AreSends}
use Rattle.wait_graph.specs.Places.{ArePlaces}
use Rattle.wait_graph.specs.Changes.{change_order, AreChanges}
use Rattle.wait_graph.specs.Whole.{vertex_order, AreInOrder}
use Rattle.wait_graph.specs.Stretches.{AreUnwoven, AreVerticesOf, IsVertexOf}
use Rattle.wait_graph.specs.Wakes.{wake_order, wake_next_of, wake_before_of, woven, AreWakes, AreWoven}
use Rattle.wait_graph.proofs.Shuffles.{rises, apart_still, goes, comes, one_order}
use Rattle.wait_graph.proofs.Stretching.{stretch, linked, nexts, befores, threads_agree, every, only_once}
use Rattle.wait_graph.specs.Wakes.{AllFit}
use Rattle.wait_graph.proofs.Waking.{AreChainedBy, among_or_not, one_wait, wake_nexts, wake_befores, wakers_agree}

-- changes in another order
pub sorted_changes : (merged : List Merged) (few : length merged < 2 ^ 32) (old new : List Change) → IsPermutation old new → AreChanges merged (length merged) old → AreChanges merged (length merged) new
sorted_changes merged few old new is are = record {
  sound = λ k c at. let f = comes old new is k c at in are.sound f.0 c f.1;
  all = λ h t p thread reached ch. let a = are.all h t p thread reached ch in let g = goes old new is a.0 a.1.0 a.1.1.0 in (g.0, (a.1.0, (g.1, a.1.1.1)));
  once = λ j k c d atj atk h t p. apart_still (λ a b. (a.host ≡ b.host) × ((a.tid ≡ b.tid) × (a.place ≡ b.place))) old new is (λ j k a b x y s. are.once j k a b x y s.0 s.1.0 s.1.1) j k c d atj atk (h, (t, p));
}

pub changes_rise : (merged : List Merged) (few : length merged < 2 ^ 32) (cs : List Change) → AreChanges merged (length merged) cs → IsNonDecreasingBy change_order cs → Rises change_order cs
changes_rise merged few cs are sorted = rises change_order cs sorted (λ j k c d atj atk same.
    let a = are.sound j c atj in let b = are.sound k d atk in
    let la = a.1 in let lb = b.1 in
    let o = one_order c.host d.host c.tid d.tid c.place d.place a.0.tid_fits b.0.tid_fits (omega (arith, la, few)) (omega (arith, lb, few)) same in
    are.once j k c d atj atk o.0 o.1.0 o.1.1)

-- waits in another order
pub sorted_wakes : (vs : List Vertex) (below : ℕ) (old new : List Wake) → IsPermutation old new → AreWakes vs below old → AreWakes vs below new
sorted_wakes vs below old new is are = record {
  sound = λ k w at. let f = comes old new is k w at in are.sound f.0 w f.1;
  all = λ n v h t e at lt toward end. let a = are.all n v h t e at lt toward end in let g = goes old new is a.0 a.1.0 a.1.1.0 in (g.0, (a.1.0, (g.1, a.1.1.1)));
  once = apart_still (λ w x. w.number ≡ x.number) old new is are.once;
}

pub sorted_fit : (old new : List Wake) → IsPermutation old new → AllFit old → AllFit new
sorted_fit old new is fit k w at = let f = comes old new is k w at in fit f.0 w f.1

one_vertex : (vs : List Vertex) (i : ℕ) (x y : Vertex) → slice_get vs i ≡ Some x → slice_get vs i ≡ Some y → x ≡ y
one_vertex vs i x y e f = cc

same_order : (v : Vertex) (c : Change) → v.host ≡ c.host → v.tid ≡ c.tid → v.start ≡ c.place → vertex_order v ≡ change_order c
same_order v c h t p = rw (sym h, sym t, sym p) refl

module _ (merged : List Merged) (few : length merged < 2 ^ 32) (placed : List Placed) (cs : List Change) (changes : AreChanges merged (length merged) cs) (up : Rises change_order cs) where
  module _ (us : List Vertex) (are : AreVerticesOf merged placed cs us) (ws : List Wake) (wakes : AreWakes us (length us) ws) (fit : AllFit ws) where
    pub wakes_rise : IsNonDecreasingBy wake_order ws → Rises wake_order ws
    wakes_rise sorted = rises wake_order ws sorted (λ j k w x atj atk same.
        let a = wakes.sound j w atj in let b = wakes.sound k x atk in
        let fa = fit j w atj in let fb = fit k x atk in
        let o = one_order w.host x.host w.tid x.tid w.end x.end fa.0 fb.0 fa.1 fb.1 same in
        let one = one_wait merged placed a.0 b.0 w.host w.tid w.end
        (stretch merged few cs changes up placed us are w.number a.0 a.1.0) (linked merged few cs changes up placed us are w.number a.0 a.1.0)
        (stretch merged few cs changes up placed us are x.number b.0 b.1.0) (linked merged few cs changes up placed us are x.number b.0 b.1.0)
        a.1.1.0 (rw (o.0, o.1.0) b.1.1.0) a.1.1.1.0 (b.1.1.1.0 ∙ ap Some (sym o.1.1)) in
        wakes.once j k w x atj atk (only_once merged few cs changes up placed us are w.number x.number a.0 b.0 a.1.0 b.1.0 one.0 one.1))

    module _ (sorted : Rises wake_order ws) (unwoven : AreUnwoven us) (vs : List Vertex) (is : AreWoven ws (length ws) us vs) where
      -- what a vertex was before its waker's chain was known
      was : (n : ℕ) (v : Vertex) → slice_get vs n ≡ Some v → (u : Vertex) × ((slice_get us n ≡ Some u) × ((next : Option ℕ) × ((before : Option ℕ) × (v ≡ woven u next before))))
      was n v at =
          let lt = slice_get_within vs n v at in
          let l = is.length_stays in
          let u = within us n (omega (arith, lt, l)) in
          ⊎_elim
          (λ f. let atu = subst (λ i. slice_get us i ≡ Some u.0) (sym f.1.1.1) u.1 in
          let g = is.given f.0 f.1.0 u.0 (slice_get_within ws f.0 f.1.0 f.1.1.0) f.1.1.0 atu in
          (u.0, (u.1, (wake_next_of ws f.0, (wake_before_of ws f.0, one_vertex vs n v _ at (subst (λ i. slice_get vs i ≡ Some (woven u.0 (wake_next_of ws f.0) (wake_before_of ws f.0))) f.1.1.1 g))))))
          (λ off. (u.0, (u.1, (u.0.wake_next, (u.0.wake_before, one_vertex vs n v u.0 at (is.others n (λ k w lt got q. off k w got q) ∙ u.1))))))
          (among_or_not ws n)

      still : AreVerticesOf merged placed cs vs
      still = record {
        count = is.length_stays ∙ are.count;
        each = λ n c v atc at. let w = was n v at in
            subst (IsVertexOf merged placed cs n c) (sym w.1.1.1.1) (kept n c w.0 w.1.1.0 w.1.1.1.0 (are.each n c w.0 atc w.1.0));
      }
        where
          kept : (n : ℕ) (c : Change) (u : Vertex) (next before : Option ℕ) → IsVertexOf merged placed cs n c u → IsVertexOf merged placed cs n c (woven u next before)
          kept n c u next before x = record { host = x.host; tid = x.tid; state = x.state; start = x.start; end = x.end; next = x.next; before = x.before; link = x.link }

      same_wakes : AreWakes vs (length vs) ws
      same_wakes = record {
        sound = λ k w got.
            let s = wakes.sound k w got in
            let lt = s.1.1.1.1 in
            let l = is.length_stays in
            let g = is.given k w s.0 (slice_get_within ws k w got) got s.1.0 in
            (woven s.0 (wake_next_of ws k) (wake_before_of ws k), (g, (s.1.1.0, (s.1.1.1.0, omega (arith, lt, l)))));
        all = λ n v h t e at lt toward end.
            let w = was n v at in
            let l = is.length_stays in
            let q = w.1.1.1.1 in
            wakes.all n w.0 h t e w.1.0 (omega (arith, lt, l)) (subst (λ (x : Vertex). IsToward h t x.link) q toward) (subst (λ (x : Vertex). x.end ≡ Some e) q end);
        once = wakes.once;
      }

      pub chained_by : AreChainedBy vs ws
      chained_by = record {
        wakes = same_wakes;
        up = sorted;
        fit = fit;
        at = λ k w v got at.
            let s = wakes.sound k w got in
            let g = is.given k w s.0 (slice_get_within ws k w got) got s.1.0 in
            let q = one_vertex vs w.number v _ at g in
            (ap (λ (x : Vertex). x.wake_next) q, ap (λ (x : Vertex). x.wake_before) q);
        off = λ n v at none. let g = is.others n (λ k w lt got q. none k w got q) in unwoven n v (sym g ∙ at);
      }

      pub all_vertices : AreVertices merged placed vs
      all_vertices = record {
        stretches = stretch merged few cs changes up placed vs still;
        links = linked merged few cs changes up placed vs still;
        chained = λ n v at.
            let a = nexts merged few cs changes up placed vs still n v at in
            let b = befores merged few cs changes up placed vs still n v at in
            let c = wake_nexts vs ws chained_by n v at in
            let d = wake_befores vs ws chained_by n v at in
            record {
              next = a.0;
              no_next = a.1;
              before = b.0;
              no_before = b.1;
              wake_next = c.0;
              no_wake_next = c.1;
              wake_before = d.0;
              no_wake_before = d.1;
            };
        agree = record { threads = threads_agree merged few cs changes up placed vs still; wakers = wakers_agree vs ws chained_by };
        all = λ h t p thread ch. let a = every merged few cs changes up placed vs still h t p thread ch in (a.0, a.1.0, a.1.1.0, a.1.1.1.0, a.1.1.1.1.0, a.1.1.1.1.1);
        once = only_once merged few cs changes up placed vs still;
      }

      fits_of : (n : ℕ) (v : Vertex) → slice_get vs n ≡ Some v → (c : Change) × ((slice_get cs n ≡ Some c) × IsVertexOf merged placed cs n c v)
      fits_of n v at =
          let w = slice_get_within vs n v at in
          let count = still.count in
          let c = within cs n (omega (arith, w, count)) in
          (c.0, (c.1, still.each n c.0 v c.1 at))

      pub in_order : length vs < 2 ^ 31 → AreInOrder vs ws
      in_order small = record {
        few = small;
        rise = λ j k v w lt atj atk.
            let a = fits_of j v atj in let b = fits_of k w atk in
            let less = up j k a.0 b.0 lt a.1.0 b.1.0 in let o = same_order v a.0 a.1.1.host a.1.1.tid a.1.1.start in let p = same_order w b.0 b.1.1.host b.1.1.tid b.1.1.start in omega (arith, less, o, p);
        fit = λ n v at. let a = fits_of n v at in let s = changes.sound n a.0 a.1.0 in let p = s.1 in
            let t = a.1.1.tid in let q = a.1.1.start in let f = s.0.tid_fits in (omega (arith, f, t), omega (arith, p, q, few));
        wakes_are = same_wakes;
        wakes_rise = sorted;
        wakes_fit = fit;
      }

-- from the changes to the whole
pub whole : (merged : List Merged) (few : length merged < 2 ^ 32) (placed : List Placed) (cs : List Change) (changes : AreChanges merged (length merged) cs) (up : Rises change_order cs)
    (us : List Vertex) (are : AreVerticesOf merged placed cs us) (small : length us < 2 ^ 31) (unwoven : AreUnwoven us)
    (ws : List Wake) (wakes : AreWakes us (length us) ws) (fit : AllFit ws) (sorted : IsNonDecreasingBy wake_order ws)
    (vs : List Vertex) → AreWoven ws (length ws) us vs → AreVertices merged placed vs × AreInOrder vs ws
whole merged few placed cs changes up us are small unwoven ws wakes fit sorted vs is =
    let r = wakes_rise merged few placed cs changes up us are ws wakes fit sorted in (
      all_vertices merged few placed cs changes up us are ws wakes fit r unwoven vs is,
      in_order merged few placed cs changes up us are ws wakes fit r unwoven vs is (let l = is.length_stays in omega (arith, l, small)),
    )

-- step by step
pub composed : (merged : List Merged) (placed : List Placed) (sends sends1 sends2 : List (Option ℕ)) (moments moments1 : List Moment) (us us1 vs : List Vertex) (ws ws1 : List Wake)
    → IsMergeWithMessages merged placed → AreSends merged placed sends → sends1 ≡ sends → ((other : List Placed) → AreMessagePlaces merged other → AreSends merged other sends1 → AreMoments merged other moments)
    → moments1 ≡ moments → sends2 ≡ sends
    → ((cs : List Change) × (AreChanges merged (length merged) cs × (Rises change_order cs × ((other : List Placed) → ArePlaces merged other moments1 sends2 → AreVerticesOf merged other cs us))))
    → AreUnwoven us → length us < 2 ^ 31 → us1 ≡ us → AreWakes us1 (length us1) ws → IsNonDecreasingBy wake_order ws → AllFit ws → ws1 ≡ ws → AreWoven ws1 (length ws1) us vs
    → AreVertices merged placed vs × AreInOrder vs ws
composed merged placed sends sends1 sends2 moments moments1 us us1 vs ws ws1 merge are e1 f e2 e3 cs unwoven small e4 wakes sorted fit e5 is =
    let m : AreMoments merged placed moments = f placed merge.messages (subst (AreSends merged placed) (sym e1) are) in
    let places : ArePlaces merged placed moments1 sends2 = record { messages = merge.messages; sends_are = subst (AreSends merged placed) (sym e3) are; moments_are = subst (AreMoments merged placed) (sym e2) m } in
    let few = merge.few in
    whole merged (omega (arith, few)) placed cs.0 cs.1.0 cs.1.1.0 us (cs.1.1.1 placed places) small unwoven ws
    (subst (λ l. AreWakes l (length l) ws) e4 wakes) fit sorted vs (subst (λ l. AreWoven l (length l) us vs) e5 is)
