-- The vertices of sorted changes are the stretches of all threads' states, each with its neighbours.
use Rattle.std.proofs.Common.{◌≡◌, ◌≢◌, ◌∙◌, ◌↔◌, ℕ, ◌+◌, ◌-◌, ◌^◌, ◌<◌, ◌≤◌, Bool, true, false, true≢false, ◌&&◌, if◌then◌else◌, List, Option, None, Some, IfSome, IfNone, length, slice_get, refl, sym, ap, subst, nat_eq, nat_lt, ne_eqb, eq-eqb, lt-ltb, arith}
use Rattle.std.specs.Option.{option_map}
use Rattle.std.proofs.lemmas.Bool.{eqb-true, ltb-true, ltb-false}
use Rattle.std.proofs.lemmas.Option.{slice_get_within}
use Rattle.trace_types.specs.declared.event.Merged.{Merged}
use Rattle.host_merge.specs.declared.placed.Placed.{Placed}
use Rattle.wait_graph.specs.Cuts.{Rises}
use Rattle.host_tree.proofs.Gets.{within}
use Rattle.wait_graph.specs.declared.change.Change.{Change}
use Rattle.wait_graph.specs.declared.vertex.Vertex.{Vertex}
use Rattle.wait_graph.specs.States.{state_after}
use Rattle.wait_graph.specs.Links.{IsLinkAt}
use Rattle.wait_graph.specs.Graph.{IsChange, IsStretch, HasLink, IsSameThread, BeginsBefore, After, IsNextAmong, IsLastAmong}
use Rattle.wait_graph.specs.Changes.{order_of, change_order, AreChanges}
use Rattle.wait_graph.specs.Stretches.{are_of_one, is_joined, next_of, before_of, IsVertexOf, AreVerticesOf}
use Rattle.wait_graph.proofs.Advance.{state_next}
use Rattle.wait_graph.proofs.Shuffles.{stands_before, between_orders}
use native.Mathlib.Decide.{ℕ_discrete}
use mathlib.Core.Logic.{dite}

-- a change is one of the host of the event there
pub host_of_change : (merged : List Merged) (host tid place : ℕ) (e : Merged) → slice_get merged place ≡ Some e → IsChange merged host tid place → e.event.host ≡ host
host_of_change merged host tid place e there ch = dite (ℕ_discrete e.event.host host) (λ q. q)
    (λ ne. absurd (ch.1 (state_next merged place host tid e there ∙ rw (ne_eqb e.event.host host ne) refl)))

and_true : (a b : Bool) → (a && b) ≡ true → (a ≡ true) × (b ≡ true)
and_true true b h = (refl, h)
and_true false b h = absurd (true≢false (sym h))

module _ (cs : List Change) where
  joined_true : (n : ℕ) → is_joined cs n ≡ true → (c : Change) × ((d : Change) × ((slice_get cs n ≡ Some c) × ((slice_get cs (n + 1) ≡ Some d) × ((c.host ≡ d.host) × (c.tid ≡ d.tid)))))
  joined_true n h = by (slice_get cs n) (slice_get cs (n + 1)) refl refl h
    where
      by : (a b : Option Change) → slice_get cs n ≡ a → slice_get cs (n + 1) ≡ b → are_of_one a b ≡ true → (c : Change) × ((d : Change) × ((slice_get cs n ≡ Some c) × ((slice_get cs (n + 1) ≡ Some d) × ((c.host ≡ d.host) × (c.tid ≡ d.tid)))))
      by None b e f t = absurd (true≢false (sym t))
      by (Some c) None e f t = absurd (true≢false (sym t))
      by (Some c) (Some d) e f t = let both = and_true (nat_eq c.host d.host) (nat_eq c.tid d.tid) t in (c, (d, (e, (f, (eqb-true c.host d.host both.0, eqb-true c.tid d.tid both.1)))))

  joined_by : (n : ℕ) (c d : Change) → slice_get cs n ≡ Some c → slice_get cs (n + 1) ≡ Some d → c.host ≡ d.host → c.tid ≡ d.tid → is_joined cs n ≡ true
  joined_by n c d e f h t = ap (λ a. are_of_one a (slice_get cs (n + 1))) e ∙ (ap (are_of_one (Some c)) f ∙ rw (eq-eqb c.host d.host h, eq-eqb c.tid d.tid t) refl)

one_change : (cs : List Change) (n : ℕ) (c d : Change) → slice_get cs n ≡ Some c → slice_get cs n ≡ Some d → c ≡ d
one_change cs n c d e f = cc

module _ (merged : List Merged) (few : length merged < 2 ^ 32) (cs : List Change) (changes : AreChanges merged (length merged) cs) (up : Rises change_order cs) where
  place_fits : (n : ℕ) (c : Change) → slice_get cs n ≡ Some c → c.place < 2 ^ 32
  place_fits n c at = let lt = (changes.sound n c at).1 in omega (arith, lt, few)

  -- by number, as by place
  later_number : (m n : ℕ) (c d : Change) → slice_get cs m ≡ Some c → slice_get cs n ≡ Some d → c.host ≡ d.host → c.tid ≡ d.tid → c.place < d.place → m < n
  later_number m n c d atm atn h t lt = stands_before change_order cs up m n c d atm atn (rw (h, t) (omega (arith, lt)))

  later_place : (m n : ℕ) (c d : Change) → slice_get cs m ≡ Some c → slice_get cs n ≡ Some d → c.host ≡ d.host → c.tid ≡ d.tid → m < n → c.place < d.place
  later_place m n c d atm atn h t lt =
      let o = up m n c d lt atm atn in
      let o' : order_of d.host d.tid c.place < order_of d.host d.tid d.place = subst (λ x. order_of d.host x c.place < order_of d.host d.tid d.place) t (subst (λ x. order_of x c.tid c.place < order_of d.host d.tid d.place) h o) in
      omega (arith, o')

  -- what stands between two changes of one thread is of that thread
  between_numbers : (l m n : ℕ) (c x d : Change) → slice_get cs l ≡ Some c → slice_get cs m ≡ Some x → slice_get cs n ≡ Some d → c.host ≡ d.host → c.tid ≡ d.tid → l ≤ m → m ≤ n → (x.host ≡ c.host) × (x.tid ≡ c.tid)
  between_numbers l m n c x d atl atm atn h t lm mn =
      between_orders c.host x.host c.tid x.tid c.place x.place d.place (changes.sound l c atl).0.tid_fits (changes.sound m x atm).0.tid_fits (place_fits l c atl) (place_fits m x atm) (place_fits n d atn)
      (not_after l m c x atl atm lm) (subst (λ y. change_order x ≤ order_of c.host y d.place) (sym t) (subst (λ y. change_order x ≤ order_of y d.tid d.place) (sym h) (not_after m n x d atm atn mn)))
    where
      not_after : (i j : ℕ) (a b : Change) → slice_get cs i ≡ Some a → slice_get cs j ≡ Some b → i ≤ j → change_order a ≤ change_order b
      not_after i j a b ati atj le = dite (ℕ_discrete i j)
          (λ e. let same = one_change cs j a b (subst (λ k. slice_get cs k ≡ Some a) e ati) atj in let o = ap change_order same in omega (arith, o))
          (λ ne. let o = up i j a b (omega (arith, le, ne)) ati atj in omega (arith, o))

  -- between neighbours the thread doesn't change
  pub none_inside : (n : ℕ) (c d : Change) → slice_get cs n ≡ Some c → slice_get cs (n + 1) ≡ Some d → c.host ≡ d.host → c.tid ≡ d.tid → (p : ℕ) → c.place < p → p < d.place → ¬ IsChange merged c.host c.tid p
  none_inside n c d at at' h t p low high ch =
      let found = changes.all c.host c.tid p (changes.sound n c at).0.is_thread ch.0 ch in
      let k = found.0 in let x = found.1.0 in let f = found.1.1 in
      let pl = f.1.1.1 in
      let a = later_number n k c x at f.0 (sym f.1.0) (sym f.1.1.0) (omega (arith, low, pl)) in
      let b = later_number k (n + 1) x d f.0 at' (f.1.0 ∙ h) (f.1.1.0 ∙ t) (omega (arith, high, pl)) in
      omega (arith, a, b)

  -- after the last of a thread's changes it doesn't change
  pub none_past : (n : ℕ) (c : Change) → slice_get cs n ≡ Some c → is_joined cs n ≡ false → (p : ℕ) → c.place < p → ¬ IsChange merged c.host c.tid p
  none_past n c at last p low ch =
      let found = changes.all c.host c.tid p (changes.sound n c at).0.is_thread ch.0 ch in
      let k = found.0 in let x = found.1.0 in let f = found.1.1 in
      let pl = f.1.1.1 in
      let a = later_number n k c x at f.0 (sym f.1.0) (sym f.1.1.0) (omega (arith, low, pl)) in
      let w = slice_get_within cs k x f.0 in
      let y = within cs (n + 1) (omega (arith, a, w)) in
      let s = between_numbers n (n + 1) k c y.0 x at y.1 f.0 (sym f.1.0) (sym f.1.1.0) (omega arith) (omega (arith, a)) in
      true≢false (sym (joined_by cs n c y.0 at y.1 (sym s.0) (sym s.1)) ∙ last)

  abbrev Ends : ℕ → ℕ → ℕ → ℕ → Type 0
  Ends h t s end = (s < end) × (IsChange merged h t end × ((place : ℕ) → s < place → place < end → ¬ IsChange merged h t place))

  moved_ends : (h g t u s r end : ℕ) → h ≡ g → t ≡ u → s ≡ r → Ends g u r end → Ends h t s end
  moved_ends h g t u s r end e f k x = rw (e, f, k) x

  moved_change : (h g t u p : ℕ) → h ≡ g → t ≡ u → IsChange merged g u p → IsChange merged h t p
  moved_change h g t u p e f x = rw (e, f) x

  moved_begin : (h g t u p q : ℕ) → h ≡ g → t ≡ u → p ≡ q → IsChange merged g u q → IsChange merged h t p
  moved_begin h g t u p q e f k x = rw (e, f, k) x

  moved_state : (h g t u p q : ℕ) → h ≡ g → t ≡ u → p ≡ q → state_after merged g u (q + 1) ≡ state_after merged h t (p + 1)
  moved_state h g t u p q e f k = rw (e, f, k) refl

  abbrev Stays : ℕ → ℕ → ℕ → Type 0
  Stays h t s = (place : ℕ) → s < place → ¬ IsChange merged h t place

  moved_stays : (h g t u s r : ℕ) → h ≡ g → t ≡ u → s ≡ r → Stays g u r → Stays h t s
  moved_stays h g t u s r e f k x = rw (e, f, k) x

  module _ (placed : List Placed) (vertices : List Vertex) (are : AreVerticesOf merged placed cs vertices) where
    -- a vertex's change
    of : (n : ℕ) (v : Vertex) → slice_get vertices n ≡ Some v → (c : Change) × ((slice_get cs n ≡ Some c) × IsVertexOf merged placed cs n c v)
    of n v at =
        let w = slice_get_within vertices n v at in
        let count = are.count in
        let c = within cs n (omega (arith, w, count)) in
        (c.0, (c.1, are.each n c.0 v c.1 at))

    vertex_at : (n : ℕ) (c : Change) → slice_get cs n ≡ Some c → (v : Vertex) × ((slice_get vertices n ≡ Some v) × IsVertexOf merged placed cs n c v)
    vertex_at n c at =
        let w = slice_get_within cs n c at in
        let count = are.count in
        let v = within vertices n (omega (arith, w, count)) in
        (v.0, (v.1, are.each n c v.0 at v.1))

    pub stretch : (n : ℕ) (v : Vertex) → slice_get vertices n ≡ Some v → IsStretch merged v
    stretch n v at =
        let o = of n v at in
        let c = o.0 in let is = o.1.1 in let s = changes.sound n c o.1.0 in
        record {
          is_thread = λ z. s.0.is_thread (sym is.tid ∙ z);
          begins = moved_begin v.host c.host v.tid c.tid v.start c.place is.host is.tid is.start s.0.changes;
          state = is.state ∙ (s.0.state ∙ moved_state v.host c.host v.tid c.tid v.start c.place is.host is.tid is.start);
          ended = λ end e. let r = by_end (is_joined cs n) refl end (sym is.end ∙ e) in (r.0, r.1.0, r.1.1);
          to_the_end = λ e. by_open (is_joined cs n) refl (sym is.end ∙ e);
        }
      where
        by_end : (b : Bool) → is_joined cs n ≡ b → (end : ℕ) → (if b then option_map (λ (c : Change). c.place) (slice_get cs (n + 1)) else None) ≡ Some end
            → (v.start < end) × (IsChange merged v.host v.tid end × ((place : ℕ) → v.start < place → place < end → ¬ IsChange merged v.host v.tid place))
        by_end false j end e = absurd (cc)
        by_end true j end e =
            let o = of n v at in let is = o.1.1 in
            let t = joined_true cs n j in
            let c = t.0 in let d = t.1.0 in let f = t.1.1 in
            let same = one_change cs n o.0 c o.1.0 f.0 in
            let q : d.place ≡ end = some_one (subst (λ x. option_map (λ (c : Change). c.place) x ≡ Some end) f.1.0 e) in
            let later = later_place n (n + 1) c d f.0 f.1.0 f.1.1.0 f.1.1.1 (omega arith) in
            moved_ends v.host c.host v.tid c.tid v.start c.place end (is.host ∙ ap (λ (x : Change). x.host) same) (is.tid ∙ ap (λ (x : Change). x.tid) same) (is.start ∙ ap (λ (x : Change). x.place) same)
            (subst (Ends c.host c.tid c.place) q (later, (moved_change c.host d.host c.tid d.tid d.place f.1.1.0 f.1.1.1 ((changes.sound (n + 1) d f.1.0).0.changes), none_inside n c d f.0 f.1.0 f.1.1.0 f.1.1.1)))
          where
            some_one : {x : ℕ} {y : ℕ} → Some x ≡ Some y → x ≡ y
            some_one e = cc

        by_open : (b : Bool) → is_joined cs n ≡ b → (if b then option_map (λ (c : Change). c.place) (slice_get cs (n + 1)) else None) ≡ None → (place : ℕ) → v.start < place → ¬ IsChange merged v.host v.tid place
        by_open true j e = let t = joined_true cs n j in absurd (none_some t.1.0 (subst (λ x. option_map (λ (c : Change). c.place) x ≡ None) t.1.1.1.0 e))
          where
            none_some : (d : Change) → Some d.place ≡ None → ⊥
            none_some d e = cc
        by_open false j e = let o = of n v at in let is = o.1.1 in moved_stays v.host o.0.host v.tid o.0.tid v.start o.0.place is.host is.tid is.start (none_past n o.0 o.1.0 j)

    pub linked : (n : ℕ) (v : Vertex) → slice_get vertices n ≡ Some v → HasLink merged placed v
    linked n v at =
        let o = of n v at in
        let c = o.0 in let is = o.1.1 in let st = stretch n v at in
        record {
          waited = λ end blocked e.
              let ended = (st.ended end e).1 in
              let x = within merged end (ended.0) in
              let h = host_of_change merged v.host v.tid end x.0 x.1 ended in
              subst (λ t. IsLinkAt merged placed v.host t end v.link) (sym is.tid) (subst (λ m. IsLinkAt merged placed m c.tid end v.link) h (is.link.waited end x.0 (sym is.state ∙ blocked) (sym is.end ∙ e) x.1));
          to_the_end = λ e. is.link.still (sym is.end ∙ e);
          other = λ ne. is.link.other (λ q. ne (is.state ∙ q));
        }

    -- ---- neighbours
    same_of : (m n : ℕ) (v w : Vertex) (c d : Change) → IsVertexOf merged placed cs m c v → IsVertexOf merged placed cs n d w → IsSameThread v w → (c.host ≡ d.host) × (c.tid ≡ d.tid)
    same_of m n v w c d is it s = (sym is.host ∙ (s.0 ∙ it.host), sym is.tid ∙ (s.1 ∙ it.tid))

    begins_of : (m n : ℕ) (v w : Vertex) (c d : Change) → IsVertexOf merged placed cs m c v → IsVertexOf merged placed cs n d w → BeginsBefore v w → c.place < d.place
    begins_of m n v w c d is it b = let p = is.start in let q = it.start in omega (arith, p, q, b)

    -- the vertex of a thread's next change is the next
    next_by : (m : ℕ) (v : Vertex) → slice_get vertices m ≡ Some v → is_joined cs m ≡ true → IsNextAmong IsSameThread BeginsBefore vertices v (m + 1)
    next_by m v at j =
        let o = of m v at in
        let t = joined_true cs m j in
        let c = t.0 in let d = t.1.0 in let f = t.1.1 in
        let same = one_change cs m o.0 c o.1.0 f.0 in
        let is = subst (λ x. IsVertexOf merged placed cs m x v) same o.1.1 in
        let w = vertex_at (m + 1) d f.1.0 in
        let it = w.1.1 in
        let lt = later_place m (m + 1) c d f.0 f.1.0 f.1.1.0 f.1.1.1 (omega arith) in
        let p = is.start in let q = it.start in
        record {
          vertex = w.0;
          there = w.1.0;
          belongs = (is.host ∙ (f.1.1.0 ∙ sym it.host), is.tid ∙ (f.1.1.1 ∙ sym it.tid));
          after = omega (arith, p, q, lt);
          none_between = λ k x atk s a b.
              let r = of k x atk in
              let sc = same_of m k v x c r.0 is r.1.1 s in
              let i = later_number m k c r.0 f.0 r.1.0 sc.0 sc.1 (begins_of m k v x c r.0 is r.1.1 a) in
              let h = later_number k (m + 1) r.0 d r.1.0 f.1.0 (sym sc.0 ∙ f.1.1.0) (sym sc.1 ∙ f.1.1.1) (begins_of k (m + 1) x w.0 r.0 d r.1.1 it b) in
              omega (arith, i, h);
        }

    last_by : (m : ℕ) (v : Vertex) → slice_get vertices m ≡ Some v → is_joined cs m ≡ false → IsLastAmong IsSameThread BeginsBefore vertices v
    last_by m v at j = λ k x atk s a.
        let o = of m v at in let r = of k x atk in
        let sc = same_of m k v x o.0 r.0 o.1.1 r.1.1 s in
        none_past m o.0 o.1.0 j r.0.place (begins_of m k v x o.0 r.0 o.1.1 r.1.1 a) (rw (sc.0, sc.1) ((changes.sound k r.0 r.1.0).0.changes))

    before_by : (m : ℕ) (v : Vertex) → slice_get vertices (m + 1) ≡ Some v → is_joined cs m ≡ true → IsNextAmong IsSameThread (After BeginsBefore) vertices v m
    before_by m v at j =
        let o = of (m + 1) v at in
        let t = joined_true cs m j in
        let c = t.0 in let d = t.1.0 in let f = t.1.1 in
        let same = one_change cs (m + 1) o.0 d o.1.0 f.1.0 in
        let is = subst (λ x. IsVertexOf merged placed cs (m + 1) x v) same o.1.1 in
        let w = vertex_at m c f.0 in
        let it = w.1.1 in
        let lt = later_place m (m + 1) c d f.0 f.1.0 f.1.1.0 f.1.1.1 (omega arith) in
        let p = is.start in let q = it.start in
        record {
          vertex = w.0;
          there = w.1.0;
          belongs = (is.host ∙ (sym f.1.1.0 ∙ sym it.host), is.tid ∙ (sym f.1.1.1 ∙ sym it.tid));
          after = omega (arith, p, q, lt);
          none_between = λ k x atk s a b.
              let r = of k x atk in
              let sc = same_of (m + 1) k v x d r.0 is r.1.1 s in
              let i = later_number k (m + 1) r.0 d r.1.0 f.1.0 (sym sc.0) (sym sc.1) (begins_of k (m + 1) x v r.0 d r.1.1 is a) in
              let h = later_number m k c r.0 f.0 r.1.0 (f.1.1.0 ∙ sc.0) (f.1.1.1 ∙ sc.1) (begins_of m k w.0 x c r.0 it r.1.1 b) in
              omega (arith, i, h);
        }

    first_by : (n : ℕ) (v : Vertex) → slice_get vertices n ≡ Some v → ((m : ℕ) → m + 1 ≡ n → is_joined cs m ≡ false) → IsLastAmong IsSameThread (After BeginsBefore) vertices v
    first_by n v at none = λ k x atk s a.
        let o = of n v at in let r = of k x atk in
        let sc = same_of n k v x o.0 r.0 o.1.1 r.1.1 s in
        let i = later_number k n r.0 o.0 r.1.0 o.1.0 (sym sc.0) (sym sc.1) (begins_of k n x v r.0 o.0 r.1.1 o.1.1 a) in
        let w = slice_get_within cs n o.0 o.1.0 in
        let y = within cs (n - 1) (omega (arith, i, w)) in
        let z = between_numbers k (n - 1) n r.0 y.0 o.0 r.1.0 y.1 o.1.0 (sym sc.0) (sym sc.1) (omega (arith, i)) (omega arith) in
        let e : n - 1 + 1 ≡ n = omega (arith, i) in
        true≢false (sym (joined_by cs (n - 1) y.0 o.0 y.1 (subst (λ q. slice_get cs q ≡ Some o.0) (sym e) o.1.0) (z.0 ∙ sym sc.0) (z.1 ∙ sym sc.1)) ∙ none (n - 1) e)

    pub nexts : (n : ℕ) (v : Vertex) → slice_get vertices n ≡ Some v → IfSome v.next (IsNextAmong IsSameThread BeginsBefore vertices v) × IfNone v.next (IsLastAmong IsSameThread BeginsBefore vertices v)
    nexts n v at = subst (λ o. IfSome o (IsNextAmong IsSameThread BeginsBefore vertices v) × IfNone o (IsLastAmong IsSameThread BeginsBefore vertices v)) (sym (of n v at).1.1.next) (by (is_joined cs n) refl)
      where
        by : (b : Bool) → is_joined cs n ≡ b → IfSome (if b then Some (n + 1) else None) (IsNextAmong IsSameThread BeginsBefore vertices v) × IfNone (if b then Some (n + 1) else None) (IsLastAmong IsSameThread BeginsBefore vertices v)
        by true j = (next_by n v at j, tt)
        by false j = (tt, last_by n v at j)

    pub befores : (n : ℕ) (v : Vertex) → slice_get vertices n ≡ Some v → IfSome v.before (IsNextAmong IsSameThread (After BeginsBefore) vertices v) × IfNone v.before (IsLastAmong IsSameThread (After BeginsBefore) vertices v)
    befores n v at = subst (λ o. IfSome o (IsNextAmong IsSameThread (After BeginsBefore) vertices v) × IfNone o (IsLastAmong IsSameThread (After BeginsBefore) vertices v)) (sym (of n v at).1.1.before) (by (nat_lt 0 n) (is_joined cs (n - 1)) refl refl)
      where
        by : (z b : Bool) → nat_lt 0 n ≡ z → is_joined cs (n - 1) ≡ b
            → IfSome (if z && b then Some (n - 1) else None) (IsNextAmong IsSameThread (After BeginsBefore) vertices v) × IfNone (if z && b then Some (n - 1) else None) (IsLastAmong IsSameThread (After BeginsBefore) vertices v)
        by true true z j = let lt = ltb-true 0 n z in
            let e : n ≡ n - 1 + 1 = omega (arith, lt) in
            (before_by (n - 1) v (subst (λ k. slice_get vertices k ≡ Some v) e at) j, tt)
        by true false z j = (tt, first_by n v at (λ m e. let q : m ≡ n - 1 = omega (arith, e) in rw q j))
        by false true z j = (tt, first_by n v at (λ m e. let le = ltb-false 0 n z in absurd (omega (arith, e, le))))
        by false false z j = (tt, first_by n v at (λ m e. let le = ltb-false 0 n z in absurd (omega (arith, e, le))))

    some_number : (m n : ℕ) → Some m ≡ Some n → m ≡ n
    some_number m n e = cc

    none_number : (n : ℕ) → None ≡ Some n → ⊥
    none_number n e = cc

    before_next : (m : ℕ) → is_joined cs m ≡ true → before_of cs (m + 1) ≡ Some m
    before_next m j = let e : m + 1 - 1 ≡ m = omega arith in rw (lt-ltb 0 (m + 1) (omega arith), e, j) refl

    pub threads_agree : (m n : ℕ) (v w : Vertex) → slice_get vertices m ≡ Some v → slice_get vertices n ≡ Some w → (v.next ≡ Some n) ↔ (w.before ≡ Some m)
    threads_agree m n v w atm atn = (
      (λ e. (of n w atn).1.1.before ∙ forth (is_joined cs m) refl (sym (of m v atm).1.1.next ∙ e)),
      (λ e. (of m v atm).1.1.next ∙ back (nat_lt 0 n) (is_joined cs (n - 1)) refl refl (sym (of n w atn).1.1.before ∙ e)),
    )
      where
        forth : (b : Bool) → is_joined cs m ≡ b → (if b then Some (m + 1) else None) ≡ Some n → before_of cs n ≡ Some m
        forth true j e = subst (λ k. before_of cs k ≡ Some m) (some_number (m + 1) n e) (before_next m j)
        forth false j e = absurd (none_number n e)

        back : (z b : Bool) → nat_lt 0 n ≡ z → is_joined cs (n - 1) ≡ b → (if z && b then Some (n - 1) else None) ≡ Some m → next_of cs m ≡ Some n
        back true true z j e =
            let lt = ltb-true 0 n z in
            let q = some_number (n - 1) m e in
            let r : m + 1 ≡ n = omega (arith, lt, q) in
            rw (subst (λ k. is_joined cs k ≡ true) q j) (ap Some r)
        back true false z j e = absurd (none_number m e)
        back false true z j e = absurd (none_number m e)
        back false false z j e = absurd (none_number m e)

    pub every : (host tid place : ℕ) → tid ≢ 0 → IsChange merged host tid place → (number : ℕ) × ((v : Vertex) × ((slice_get vertices number ≡ Some v) × ((v.host ≡ host) × ((v.tid ≡ tid) × (v.start ≡ place)))))
    every host tid place thread ch =
        let a = changes.all host tid place thread ch.0 ch in
        let v = vertex_at a.0 a.1.0 a.1.1.0 in
        let is = v.1.1 in
        (a.0, (v.0, (v.1.0, (is.host ∙ a.1.1.1.0, (is.tid ∙ a.1.1.1.1.0, is.start ∙ a.1.1.1.1.1)))))

    pub only_once : (m n : ℕ) (v w : Vertex) → slice_get vertices m ≡ Some v → slice_get vertices n ≡ Some w → IsSameThread v w → v.start ≡ w.start → m ≡ n
    only_once m n v w atm atn same start =
        let o = of m v atm in let p = of n w atn in
        let s = same_of m n v w o.0 p.0 o.1.1 p.1.1 same in
        changes.once m n o.0 p.0 o.1.0 p.1.0 s.0 s.1 (sym o.1.1.start ∙ (start ∙ p.1.1.start))
