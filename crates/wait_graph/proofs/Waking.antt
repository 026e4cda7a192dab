-- The chain of the waits for one waker.
use Rattle.std.proofs.Common.{◌≡◌, ◌≢◌, ◌∙◌, ◌⊎◌, ◌↔◌, inl, inr, ⊎_elim, ℕ, zero, suc, ◌+◌, ◌-◌, ◌<◌, ◌≤◌, Bool, true, false, true≢false, ◌&&◌, List, [], ◌∷◌, Option, None, Some, IfSome, IfNone, length, slice_get, refl, sym, ap, subst, nat_eq, nat_lt, eq-eqb, lt-ltb, arith}
use Rattle.std.proofs.lemmas.Bool.{eqb-true, ltb-true, ltb-false}
use Rattle.std.proofs.lemmas.Option.{slice_get_within}
use Rattle.trace_types.specs.declared.event.Merged.{Merged}
use Rattle.trace_types.specs.declared.event.KernelEvent.{KernelEvent}
use Rattle.trace_types.specs.declared.event.KernelEvent.TheVariants.{Switch, Wakeup, WakeupNew, Waking, Fork, Exit, Free, Migrate, IrqIn, IrqOut, SoftIn, SoftOut, Process, CallIn, CallOut, Send, Receive, DiskIssue, DiskDone, Lost, Other}
use Rattle.host_merge.specs.declared.placed.Placed.{Placed}
use Rattle.wait_graph.specs.Cuts.{Rises}
use Rattle.host_tree.proofs.Gets.{within}
use Rattle.wait_graph.specs.declared.wake.Wake.{Wake}
use Rattle.wait_graph.specs.declared.vertex.Vertex.{Vertex}
use Rattle.wait_graph.specs.declared.vertex.ThreadState.TheVariants.{Blocked}
use Rattle.wait_graph.specs.declared.vertex.Link.{Link}
use Rattle.wait_graph.specs.declared.vertex.Link.TheVariants.{Nothing, Thread, Net, Timer, Disk, Interrupt, Nobody}
use Rattle.wait_graph.specs.Links.{IsLinkAt, wakes}
use Rattle.wait_graph.specs.Graph.{IsChange, IsStretch, HasLink, IsToward, IsSameThread, HaveOneWaker, EndsBefore, After, IsNextAmong, IsLastAmong}
use Rattle.wait_graph.specs.Changes.{order_of}
use Rattle.wait_graph.specs.Wakes.{are_of_one_waker, is_one_waker, wake_next_of, wake_before_of, wake_order, AreWakes}
use Rattle.wait_graph.proofs.Shuffles.{stands_before, between_orders}
use Rattle.wait_graph.proofs.Stretching.{host_of_change}
use Rattle.wait_graph.proofs.Noting.{same_or_not}
use Rattle.wait_graph.specs.Wakes.{AllFit}
use native.Mathlib.Decide.{dec_lt, ℕ_discrete}
use mathlib.Core.Logic.{dite}

some_is : (a b : ℕ) → Some a ≡ Some b → a ≡ b
some_is a b e = cc

none_is : (b : ℕ) → None ≡ Some b → ⊥
none_is b e = cc

one_end : (o : Option ℕ) (a b : ℕ) → o ≡ Some a → o ≡ Some b → a ≡ b
one_end o a b e f = cc

-- a link is toward one thread
pub toward_one : (l : Link) (h t g u : ℕ) → IsToward h t l → IsToward g u l → (h ≡ g) × (t ≡ u)
toward_one (Thread host tid) h t g u a b = (sym a.0 ∙ b.0, sym a.1 ∙ b.1)
toward_one (Net host tid send) h t g u a b = (sym a.0 ∙ b.0, sym a.1 ∙ b.1)
toward_one Nothing h t g u a b = absurd a
toward_one Timer h t g u a b = absurd a
toward_one Disk h t g u a b = absurd a
toward_one Interrupt h t g u a b = absurd a
toward_one Nobody h t g u a b = absurd a

-- an event wakes one thread
pub wakes_one : (kind : KernelEvent) (t u : ℕ) → wakes t kind ≡ true → wakes u kind ≡ true → t ≡ u
wakes_one (Wakeup woken comm prio target_cpu) t u a b = sym (eqb-true woken t a) ∙ eqb-true woken u b
wakes_one (WakeupNew woken comm prio target_cpu) t u a b = sym (eqb-true woken t a) ∙ eqb-true woken u b
wakes_one (Waking woken comm prio target_cpu) t u a b = sym (eqb-true woken t a) ∙ eqb-true woken u b
wakes_one (Switch prev_state prev_tid next_tid prev_prio next_prio prev_comm next_comm) t u a b = absurd (true≢false (sym a))
wakes_one (Fork parent_tid child_tid child_comm) t u a b = absurd (true≢false (sym a))
wakes_one (Exit tid) t u a b = absurd (true≢false (sym a))
wakes_one (Free tid) t u a b = absurd (true≢false (sym a))
wakes_one (Migrate tid dest_cpu) t u a b = absurd (true≢false (sym a))
wakes_one (IrqIn irq) t u a b = absurd (true≢false (sym a))
wakes_one (IrqOut irq) t u a b = absurd (true≢false (sym a))
wakes_one (SoftIn vec) t u a b = absurd (true≢false (sym a))
wakes_one (SoftOut vec) t u a b = absurd (true≢false (sym a))
wakes_one (Process tid ppid name status) t u a b = absurd (true≢false (sym a))
wakes_one (CallIn name) t u a b = absurd (true≢false (sym a))
wakes_one (CallOut name) t u a b = absurd (true≢false (sym a))
wakes_one (Send key) t u a b = absurd (true≢false (sym a))
wakes_one (Receive key) t u a b = absurd (true≢false (sym a))
wakes_one (DiskIssue sector dev nr_sector) t u a b = absurd (true≢false (sym a))
wakes_one (DiskDone sector dev nr_sector) t u a b = absurd (true≢false (sym a))
wakes_one (Lost events gap) t u a b = absurd (true≢false (sym a))
wakes_one (Other name) t u a b = absurd (true≢false (sym a))

one_event : (ms : List Merged) (i : ℕ) (x y : Merged) → slice_get ms i ≡ Some x → slice_get ms i ≡ Some y → x ≡ y
one_event ms i x y e f = cc

module _ (merged : List Merged) (placed : List Placed) where
  -- a wait that ended with a link toward a thread was ended by an event that wakes its thread
  pub woken_at : (v : Vertex) (h t end : ℕ) → IsStretch merged v → HasLink merged placed v → IsToward h t v.link → v.end ≡ Some end
      → (e : Merged) × ((slice_get merged end ≡ Some e) × ((e.event.host ≡ v.host) × (wakes v.tid e.event.kind ≡ true)))
  woken_at v h t end is has toward ended = ⊎_elim
      (λ blocked.
      let l = has.waited end blocked ended in
      let ch = (is.ended end ended).1 in
      let host = host_of_change merged v.host v.tid end l.event l.there ch in
      (l.event, (l.there, (host, by l (wakes v.tid l.event.event.kind) refl))))
      (λ other. absurd (subst (IsToward h t) (has.other other) toward))
      (same_or_not v.state Blocked)
    where
      by : (l : IsLinkAt merged placed v.host v.tid end v.link) (b : Bool) → wakes v.tid l.event.event.kind ≡ b → wakes v.tid l.event.event.kind ≡ true
      by l true e = e
      by l false e = absurd (subst (IsToward h t) (l.alone e) toward)

  -- one place ends at most one such wait
  pub one_wait : (v w : Vertex) (h t end : ℕ) → IsStretch merged v → HasLink merged placed v → IsStretch merged w → HasLink merged placed w → IsToward h t v.link → IsToward h t w.link → v.end ≡ Some end → w.end ≡ Some end
      → IsSameThread v w × (v.start ≡ w.start)
  one_wait v w h t end isv hasv isw hasw tov tow endv endw =
      let a = woken_at v h t end isv hasv tov endv in
      let b = woken_at w h t end isw hasw tow endw in
      let same = one_event merged end a.0 b.0 a.1.0 b.1.0 in
      let host : v.host ≡ w.host = sym a.1.1.0 ∙ (ap (λ (e : Merged). e.event.host) same ∙ b.1.1.0) in
      let tid : v.tid ≡ w.tid = wakes_one b.0.event.kind v.tid w.tid (subst (λ (e : Merged). wakes v.tid e.event.kind ≡ true) same a.1.1.1) b.1.1.1 in (
        (host, tid),
        dite (ℕ_discrete v.start w.start) (λ q. q) (λ ne. dite (dec_lt v.start w.start)
            (λ lt. absurd ((isv.ended end endv).2 w.start lt (isw.ended end endw).0 (moved w.host v.host w.tid v.tid w.start (sym host) (sym tid) isw.begins)))
            (λ nlt. absurd ((isw.ended end endw).2 v.start (omega (arith, ne, nlt)) (isv.ended end endv).0 (moved v.host w.host v.tid w.tid v.start host tid isv.begins)))),
      )
    where
      moved : (g h u t p : ℕ) → g ≡ h → u ≡ t → IsChange merged g u p → IsChange merged h t p
      moved g h u t p e f x = rw (sym e, sym f) x

one_wake : (vs : List Wake) (i : ℕ) (x y : Wake) → slice_get vs i ≡ Some x → slice_get vs i ≡ Some y → x ≡ y
one_wake vs i x y e f = cc

one_vertex : (vs : List Vertex) (i : ℕ) (x y : Vertex) → slice_get vs i ≡ Some x → slice_get vs i ≡ Some y → x ≡ y
one_vertex vs i x y e f = cc

and_true : (a b : Bool) → (a && b) ≡ true → (a ≡ true) × (b ≡ true)
and_true true b h = (refl, h)
and_true false b h = absurd (true≢false (sym h))

-- a number is that of one of these waits, or of none
pub among_or_not : (ws : List Wake) (n : ℕ) → ((k : ℕ) × ((w : Wake) × ((slice_get ws k ≡ Some w) × (w.number ≡ n)))) ⊎ ((k : ℕ) (w : Wake) → slice_get ws k ≡ Some w → w.number ≡ n → ⊥)
among_or_not [] n = inr (λ k w at q. absurd (cc))
among_or_not (x ∷ ws) n = dite (ℕ_discrete x.number n)
    (λ q. inl (0, (x, (refl, q))))
    (λ ne. ⊎_elim (λ f. inl (suc f.0, f.1)) (λ none. inr (out ne none)) (among_or_not ws n))
  where
    out : x.number ≢ n → ((k : ℕ) (w : Wake) → slice_get ws k ≡ Some w → w.number ≡ n → ⊥) → (k : ℕ) (w : Wake) → slice_get (x ∷ ws) k ≡ Some w → w.number ≡ n → ⊥
    out ne none zero w at q = let same : x ≡ w = cc in ne (ap (λ (z : Wake). z.number) same ∙ q)
    out ne none (suc k) w at q = none k w at q

-- the waits in their order, and the vertices that have their neighbours
pub record AreChainedBy (vs : List Vertex) (ws : List Wake) : Type 0 where
  pub wakes : AreWakes vs (length vs) ws
  pub up : Rises wake_order ws
  pub fit : AllFit ws
  pub at : (k : ℕ) (w : Wake) (v : Vertex) → slice_get ws k ≡ Some w → slice_get vs w.number ≡ Some v → (v.wake_next ≡ wake_next_of ws k) × (v.wake_before ≡ wake_before_of ws k)
  pub off : (n : ℕ) (v : Vertex) → slice_get vs n ≡ Some v → ((k : ℕ) (w : Wake) → slice_get ws k ≡ Some w → w.number ≡ n → ⊥) → (v.wake_next ≡ None) × (v.wake_before ≡ None)

module _ (vs : List Vertex) (ws : List Wake) (are : AreChainedBy vs ws) where
  joined_true : (n : ℕ) → is_one_waker ws n ≡ true → (c : Wake) × ((d : Wake) × ((slice_get ws n ≡ Some c) × ((slice_get ws (n + 1) ≡ Some d) × ((c.host ≡ d.host) × (c.tid ≡ d.tid)))))
  joined_true n h = by (slice_get ws n) (slice_get ws (n + 1)) refl refl h
    where
      by : (a b : Option Wake) → slice_get ws n ≡ a → slice_get ws (n + 1) ≡ b → are_of_one_waker a b ≡ true → (c : Wake) × ((d : Wake) × ((slice_get ws n ≡ Some c) × ((slice_get ws (n + 1) ≡ Some d) × ((c.host ≡ d.host) × (c.tid ≡ d.tid)))))
      by None b e f t = absurd (true≢false (sym t))
      by (Some c) None e f t = absurd (true≢false (sym t))
      by (Some c) (Some d) e f t = let both = and_true (nat_eq c.host d.host) (nat_eq c.tid d.tid) t in (c, (d, (e, (f, (eqb-true c.host d.host both.0, eqb-true c.tid d.tid both.1)))))

  joined_by : (n : ℕ) (c d : Wake) → slice_get ws n ≡ Some c → slice_get ws (n + 1) ≡ Some d → c.host ≡ d.host → c.tid ≡ d.tid → is_one_waker ws n ≡ true
  joined_by n c d e f h t = ap (λ a. are_of_one_waker a (slice_get ws (n + 1))) e ∙ (ap (are_of_one_waker (Some c)) f ∙ rw (eq-eqb c.host d.host h, eq-eqb c.tid d.tid t) refl)

  later_number : (m n : ℕ) (c d : Wake) → slice_get ws m ≡ Some c → slice_get ws n ≡ Some d → c.host ≡ d.host → c.tid ≡ d.tid → c.end < d.end → m < n
  later_number m n c d atm atn h t lt = stands_before wake_order ws are.up m n c d atm atn (rw (h, t) (omega (arith, lt)))

  later_end : (m n : ℕ) (c d : Wake) → slice_get ws m ≡ Some c → slice_get ws n ≡ Some d → c.host ≡ d.host → c.tid ≡ d.tid → m < n → c.end < d.end
  later_end m n c d atm atn h t lt =
      let o = are.up m n c d lt atm atn in
      let o' : order_of d.host d.tid c.end < order_of d.host d.tid d.end = subst (λ x. order_of d.host x c.end < order_of d.host d.tid d.end) t (subst (λ x. order_of x c.tid c.end < order_of d.host d.tid d.end) h o) in
      omega (arith, o')

  between_numbers : (l m n : ℕ) (c x d : Wake) → slice_get ws l ≡ Some c → slice_get ws m ≡ Some x → slice_get ws n ≡ Some d → c.host ≡ d.host → c.tid ≡ d.tid → l ≤ m → m ≤ n → (x.host ≡ c.host) × (x.tid ≡ c.tid)
  between_numbers l m n c x d atl atm atn h t lm mn =
      between_orders c.host x.host c.tid x.tid c.end x.end d.end (are.fit l c atl).0 (are.fit m x atm).0 (are.fit l c atl).1 (are.fit m x atm).1 (are.fit n d atn).1
      (not_after l m c x atl atm lm) (subst (λ y. wake_order x ≤ order_of c.host y d.end) (sym t) (subst (λ y. wake_order x ≤ order_of y d.tid d.end) (sym h) (not_after m n x d atm atn mn)))
    where
      not_after : (i j : ℕ) (a b : Wake) → slice_get ws i ≡ Some a → slice_get ws j ≡ Some b → i ≤ j → wake_order a ≤ wake_order b
      not_after i j a b ati atj le = dite (ℕ_discrete i j)
          (λ e. let same = one_wake ws j a b (subst (λ k. slice_get ws k ≡ Some a) e ati) atj in let o = ap wake_order same in omega (arith, o))
          (λ ne. let o = are.up i j a b (omega (arith, le, ne)) ati atj in omega (arith, o))

  -- the vertex of a wait
  of : (k : ℕ) (w : Wake) → slice_get ws k ≡ Some w → (v : Vertex) × ((slice_get vs w.number ≡ Some v) × (IsToward w.host w.tid v.link × (v.end ≡ Some w.end)))
  of k w at = let s = are.wakes.sound k w at in (s.0, (s.1.0, (s.1.1.0, s.1.1.1.0)))

  -- the wait of a vertex that waits for the same thread as this one
  entry : (n : ℕ) (x : Vertex) (h t e : ℕ) → slice_get vs n ≡ Some x → IsToward h t x.link → x.end ≡ Some e → (k : ℕ) × ((w : Wake) × ((slice_get ws k ≡ Some w) × ((w.number ≡ n) × ((w.host ≡ h) × ((w.tid ≡ t) × (w.end ≡ e))))))
  entry n x h t e at toward end = are.wakes.all n x h t e at (slice_get_within vs n x at) toward end

  -- a vertex that waits for the waker of the wait at k stands in the list, for the same waker
  fellow : (k : ℕ) (w : Wake) (v : Vertex) (n : ℕ) (x : Vertex) (e : ℕ) → slice_get ws k ≡ Some w → slice_get vs w.number ≡ Some v → slice_get vs n ≡ Some x → HaveOneWaker v x → x.end ≡ Some e
      → (i : ℕ) × ((y : Wake) × ((slice_get ws i ≡ Some y) × ((w.host ≡ y.host) × ((w.tid ≡ y.tid) × (y.end ≡ e)))))
  fellow k w v n x e at atv atx one end =
      let o = of k w at in
      let same = one_vertex vs w.number o.0 v o.1.0 atv in
      let both = toward_one v.link w.host w.tid one.0 one.1 (subst (λ (u : Vertex). IsToward w.host w.tid u.link) same o.1.1.0) one.2 in
      let f = entry n x one.0 one.1 e atx one.3 end in
      (f.0, (f.1.0, (f.1.1.0, (both.0 ∙ sym f.1.1.1.1.0, (both.1 ∙ sym f.1.1.1.1.1.0, f.1.1.1.1.1.1)))))

  own_end : (k : ℕ) (w : Wake) (v : Vertex) → slice_get ws k ≡ Some w → slice_get vs w.number ≡ Some v → v.end ≡ Some w.end
  own_end k w v at atv = let o = of k w at in let same = one_vertex vs w.number o.0 v o.1.0 atv in subst (λ (u : Vertex). u.end ≡ Some w.end) same o.1.1.1

  own_link : (k : ℕ) (w : Wake) (v : Vertex) → slice_get ws k ≡ Some w → slice_get vs w.number ≡ Some v → IsToward w.host w.tid v.link
  own_link k w v at atv = let o = of k w at in let same = one_vertex vs w.number o.0 v o.1.0 atv in subst (λ (u : Vertex). IsToward w.host w.tid u.link) same o.1.1.0

  next_by : (k : ℕ) (w d : Wake) (v : Vertex) → slice_get ws k ≡ Some w → slice_get ws (k + 1) ≡ Some d → w.host ≡ d.host → w.tid ≡ d.tid → slice_get vs w.number ≡ Some v → IsNextAmong HaveOneWaker EndsBefore vs v d.number
  next_by k w d v at at' h t atv =
      let u = of (k + 1) d at' in
      record {
        vertex = u.0;
        there = u.1.0;
        belongs = (w.host, w.tid, own_link k w v at atv, subst (λ i. IsToward w.host i u.0.link) (sym t) (subst (λ i. IsToward i d.tid u.0.link) (sym h) u.1.1.0));
        after = (w.end, d.end, own_end k w v at atv, u.1.1.1, later_end k (k + 1) w d at at' h t (omega arith));
        none_between = λ n x atx one a b.
            let f = fellow k w v n x a.1 at atv atx one a.3 in
            let e1 = one_end v.end w.end a.0 (own_end k w v at atv) a.2 in
            let e2 = one_end u.0.end d.end b.1 u.1.1.1 b.3 in
            let e3 = one_end x.end a.1 b.0 a.3 b.2 in
            let lt1 = a.4 in let lt2 = b.4 in
            let fe = f.1.1.1.1.1 in
            let i = later_number k f.0 w f.1.0 at f.1.1.0 f.1.1.1.0 f.1.1.1.1.0 (omega (arith, e1, lt1, fe)) in
            let j = later_number f.0 (k + 1) f.1.0 d f.1.1.0 at' (sym f.1.1.1.0 ∙ h) (sym f.1.1.1.1.0 ∙ t) (omega (arith, e2, e3, lt2, fe)) in
            omega (arith, i, j);
      }

  last_by : (k : ℕ) (w : Wake) (v : Vertex) → slice_get ws k ≡ Some w → is_one_waker ws k ≡ false → slice_get vs w.number ≡ Some v → IsLastAmong HaveOneWaker EndsBefore vs v
  last_by k w v at not_joined atv = λ n x atx one a.
      let f = fellow k w v n x a.1 at atv atx one a.3 in
      let e1 = one_end v.end w.end a.0 (own_end k w v at atv) a.2 in
      let lt1 = a.4 in
      let fe = f.1.1.1.1.1 in
      let i = later_number k f.0 w f.1.0 at f.1.1.0 f.1.1.1.0 f.1.1.1.1.0 (omega (arith, e1, lt1, fe)) in
      let y = within ws (k + 1) (let r = slice_get_within ws f.0 f.1.0 f.1.1.0 in omega (arith, i, r)) in
      let z = between_numbers k (k + 1) f.0 w y.0 f.1.0 at y.1 f.1.1.0 f.1.1.1.0 f.1.1.1.1.0 (omega arith) (omega (arith, i)) in
      true≢false (sym (joined_by k w y.0 at y.1 (sym z.0) (sym z.1)) ∙ not_joined)

  before_by : (k : ℕ) (c w : Wake) (v : Vertex) → slice_get ws k ≡ Some c → slice_get ws (k + 1) ≡ Some w → c.host ≡ w.host → c.tid ≡ w.tid → slice_get vs w.number ≡ Some v → IsNextAmong HaveOneWaker (After EndsBefore) vs v c.number
  before_by k c w v at at' h t atv =
      let u = of k c at in
      record {
        vertex = u.0;
        there = u.1.0;
        belongs = (w.host, w.tid, own_link (k + 1) w v at' atv, subst (λ i. IsToward w.host i u.0.link) t (subst (λ i. IsToward i c.tid u.0.link) h u.1.1.0));
        after = (c.end, w.end, u.1.1.1, own_end (k + 1) w v at' atv, later_end k (k + 1) c w at at' h t (omega arith));
        none_between = λ n x atx one a b.
            let f = fellow (k + 1) w v n x a.0 at' atv atx one a.2 in
            let e1 = one_end v.end w.end a.1 (own_end (k + 1) w v at' atv) a.3 in
            let e2 = one_end u.0.end c.end b.0 u.1.1.1 b.2 in
            let e3 = one_end x.end a.0 b.1 a.2 b.3 in
            let lt1 = a.4 in let lt2 = b.4 in
            let fe = f.1.1.1.1.1 in
            let i = later_number f.0 (k + 1) f.1.0 w f.1.1.0 at' (sym f.1.1.1.0) (sym f.1.1.1.1.0) (omega (arith, e1, lt1, fe)) in
            let j = later_number k f.0 c f.1.0 at f.1.1.0 (h ∙ f.1.1.1.0) (t ∙ f.1.1.1.1.0) (omega (arith, e2, e3, lt2, fe)) in
            omega (arith, i, j);
      }

  first_by : (k : ℕ) (w : Wake) (v : Vertex) → slice_get ws k ≡ Some w → ((m : ℕ) → m + 1 ≡ k → is_one_waker ws m ≡ false) → slice_get vs w.number ≡ Some v → IsLastAmong HaveOneWaker (After EndsBefore) vs v
  first_by k w v at not_joined atv = λ n x atx one a.
      let f = fellow k w v n x a.0 at atv atx one a.2 in
      let e1 = one_end v.end w.end a.1 (own_end k w v at atv) a.3 in
      let lt1 = a.4 in
      let fe = f.1.1.1.1.1 in
      let i = later_number f.0 k f.1.0 w f.1.1.0 at (sym f.1.1.1.0) (sym f.1.1.1.1.0) (omega (arith, e1, lt1, fe)) in
      let y = within ws (k - 1) (let r = slice_get_within ws k w at in omega (arith, i, r)) in
      let z = between_numbers f.0 (k - 1) k f.1.0 y.0 w f.1.1.0 y.1 at (sym f.1.1.1.0) (sym f.1.1.1.1.0) (omega (arith, i)) (omega arith) in
      let e : k - 1 + 1 ≡ k = omega (arith, i) in
      true≢false (sym (joined_by (k - 1) y.0 w y.1 (subst (λ q. slice_get ws q ≡ Some w) (sym e) at) (z.0 ∙ sym f.1.1.1.0) (z.1 ∙ sym f.1.1.1.1.0)) ∙ not_joined (k - 1) e)

  next_is : (k : ℕ) (d : Wake) → is_one_waker ws k ≡ true → slice_get ws (k + 1) ≡ Some d → wake_next_of ws k ≡ Some d.number
  next_is k d j at = rw (j, at) refl

  next_is_none : (k : ℕ) → is_one_waker ws k ≡ false → wake_next_of ws k ≡ None
  next_is_none k j = rw j refl

  before_is : (k : ℕ) (c : Wake) → is_one_waker ws k ≡ true → slice_get ws k ≡ Some c → wake_before_of ws (k + 1) ≡ Some c.number
  before_is k c j at = let e : k + 1 - 1 ≡ k = omega arith in rw (lt-ltb 0 (k + 1) (omega arith), e, j, at) refl

  -- whether a wait has one before it for its waker
  before_or_not : (k : ℕ) → ((m : ℕ) × ((k ≡ m + 1) × (is_one_waker ws m ≡ true))) ⊎ ((wake_before_of ws k ≡ None) × ((m : ℕ) → m + 1 ≡ k → is_one_waker ws m ≡ false))
  before_or_not k = by (nat_lt 0 k) (is_one_waker ws (k - 1)) refl refl
    where
      by : (z b : Bool) → nat_lt 0 k ≡ z → is_one_waker ws (k - 1) ≡ b → ((m : ℕ) × ((k ≡ m + 1) × (is_one_waker ws m ≡ true))) ⊎ ((wake_before_of ws k ≡ None) × ((m : ℕ) → m + 1 ≡ k → is_one_waker ws m ≡ false))
      by true true z j = let lt = ltb-true 0 k z in inl (k - 1, (omega (arith, lt), j))
      by true false z j = inr (rw (z, j) refl, λ m e. let q : m ≡ k - 1 = omega (arith, e) in rw q j)
      by false b z j = inr (rw z refl, λ m e. let le = ltb-false 0 k z in absurd (omega (arith, e, le)))

  joined_or_not : (k : ℕ) → (is_one_waker ws k ≡ true) ⊎ (is_one_waker ws k ≡ false)
  joined_or_not k = by (is_one_waker ws k) refl
    where
      by : (b : Bool) → is_one_waker ws k ≡ b → (is_one_waker ws k ≡ true) ⊎ (is_one_waker ws k ≡ false)
      by true e = inl e
      by false e = inr e

  module _ (n : ℕ) (v : Vertex) (atv : slice_get vs n ≡ Some v) where
    abbrev HasNext : Option ℕ → Type 0
    HasNext o = IfSome o (IsNextAmong HaveOneWaker EndsBefore vs v) × IfNone o (IsLastAmong HaveOneWaker EndsBefore vs v)

    abbrev HasBefore : Option ℕ → Type 0
    HasBefore o = IfSome o (IsNextAmong HaveOneWaker (After EndsBefore) vs v) × IfNone o (IsLastAmong HaveOneWaker (After EndsBefore) vs v)

    module _ (k : ℕ) (w : Wake) (at : slice_get ws k ≡ Some w) (num : w.number ≡ n) where
      atw : slice_get vs w.number ≡ Some v
      atw = subst (λ i. slice_get vs i ≡ Some v) (sym num) atv

      next_in : HasNext v.wake_next
      next_in = subst HasNext (sym (are.at k w v at atw).0) (⊎_elim
          (λ j. let t = joined_true k j in
          let same = one_wake ws k t.0 w t.1.1.0 at in
          subst HasNext (sym (next_is k t.1.0 j t.1.1.1.0)) (next_by k w t.1.0 v at t.1.1.1.0 (sym (ap (λ (x : Wake). x.host) same) ∙ t.1.1.1.1.0) (sym (ap (λ (x : Wake). x.tid) same) ∙ t.1.1.1.1.1) atw, tt))
          (λ j. subst HasNext (sym (next_is_none k j)) (tt, last_by k w v at j atw)) (joined_or_not k))

      before_in : HasBefore v.wake_before
      before_in = subst HasBefore (sym (are.at k w v at atw).1) (⊎_elim
          (λ m. let t = joined_true m.0 m.1.1 in
          let at' = subst (λ i. slice_get ws i ≡ Some w) m.1.0 at in
          let same = one_wake ws (m.0 + 1) t.1.0 w t.1.1.1.0 at' in
          subst HasBefore (sym (ap (wake_before_of ws) m.1.0 ∙ before_is m.0 t.0 m.1.1 t.1.1.0)) (before_by m.0 t.0 w v t.1.1.0 at' (t.1.1.1.1.0 ∙ ap (λ (x : Wake). x.host) same) (t.1.1.1.1.1 ∙ ap (λ (x : Wake). x.tid) same) atw, tt))
          (λ none. subst HasBefore (sym none.0) (tt, first_by k w v at none.1 atw)) (before_or_not k))

    unwaited : ((k : ℕ) (w : Wake) → slice_get ws k ≡ Some w → w.number ≡ n → ⊥) → (h t e : ℕ) → IsToward h t v.link → v.end ≡ Some e → ⊥
    unwaited off h t e toward end = let f = entry n v h t e atv toward end in off f.0 f.1.0 f.1.1.0 f.1.1.1.0

    pub wake_nexts : HasNext v.wake_next
    wake_nexts = ⊎_elim (λ f. next_in f.0 f.1.0 f.1.1.0 f.1.1.1) (λ off. subst HasNext (sym (are.off n v atv off).0) (tt, λ j x atx one a. unwaited off one.0 one.1 a.0 one.2 a.2)) (among_or_not ws n)

    pub wake_befores : HasBefore v.wake_before
    wake_befores = ⊎_elim (λ f. before_in f.0 f.1.0 f.1.1.0 f.1.1.1) (λ off. subst HasBefore (sym (are.off n v atv off).1) (tt, λ j x atx one a. unwaited off one.0 one.1 a.1 one.2 a.3)) (among_or_not ws n)

  pub wakers_agree : (m n : ℕ) (v w : Vertex) → slice_get vs m ≡ Some v → slice_get vs n ≡ Some w → (v.wake_next ≡ Some n) ↔ (w.wake_before ≡ Some m)
  wakers_agree m n v w atv atw = (
    (λ e. ⊎_elim (λ f. forth f.0 f.1.0 f.1.1.0 f.1.1.1 e) (λ off. absurd (none_is n (sym (are.off m v atv off).0 ∙ e))) (among_or_not ws m)),
    (λ e. ⊎_elim (λ f. back f.0 f.1.0 f.1.1.0 f.1.1.1 e) (λ off. absurd (none_is m (sym (are.off n w atw off).1 ∙ e))) (among_or_not ws n)),
  )
    where
      forth : (k : ℕ) (x : Wake) → slice_get ws k ≡ Some x → x.number ≡ m → v.wake_next ≡ Some n → w.wake_before ≡ Some m
      forth k x at num e =
          let isn = (are.at k x v at (subst (λ i. slice_get vs i ≡ Some v) (sym num) atv)).0 in
          ⊎_elim
          (λ j. let t = joined_true k j in
          let d = t.1.0 in
          let dn : d.number ≡ n = some_is d.number n (sym (next_is k d j t.1.1.1.0) ∙ (sym isn ∙ e)) in
          let same = one_wake ws k t.0 x t.1.1.0 at in
          (are.at (k + 1) d w t.1.1.1.0 (subst (λ i. slice_get vs i ≡ Some w) (sym dn) atw)).1 ∙ (before_is k t.0 j t.1.1.0 ∙ ap Some (ap (λ (y : Wake). y.number) same ∙ num)))
          (λ j. absurd (none_is n (sym (next_is_none k j) ∙ (sym isn ∙ e)))) (joined_or_not k)

      back : (k : ℕ) (x : Wake) → slice_get ws k ≡ Some x → x.number ≡ n → w.wake_before ≡ Some m → v.wake_next ≡ Some n
      back k x at num e =
          let isb = (are.at k x w at (subst (λ i. slice_get vs i ≡ Some w) (sym num) atw)).1 in
          ⊎_elim
          (λ p. let t = joined_true p.0 p.1.1 in
          let c = t.0 in
          let cn : c.number ≡ m = some_is c.number m (sym (ap (wake_before_of ws) p.1.0 ∙ before_is p.0 c p.1.1 t.1.1.0) ∙ (sym isb ∙ e)) in
          let at' = subst (λ i. slice_get ws i ≡ Some x) p.1.0 at in
          let same = one_wake ws (p.0 + 1) t.1.0 x t.1.1.1.0 at' in
          (are.at p.0 c v t.1.1.0 (subst (λ i. slice_get vs i ≡ Some v) (sym cn) atv)).0 ∙ (next_is p.0 t.1.0 p.1.1 t.1.1.1.0 ∙ ap Some (ap (λ (y : Wake). y.number) same ∙ num)))
          (λ none. absurd (none_is m (sym none.0 ∙ (sym isb ∙ e)))) (before_or_not k)
