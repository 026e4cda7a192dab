-- What the look-ups of a graph find.
use Rattle.std.proofs.Common.{◌≡◌, ◌≢◌, ◌∙◌, ℕ, zero, suc, ◌-◌, ◌<◌, ◌≤◌, List, [], ◌∷◌, Option, None, Some, IfSome, IfNone, length, map, get_or, slice_get, refl, sym, subst, arith}
use Rattle.std.specs.List.Sorted.{IsNonDecreasing}
use Rattle.std.proofs.lemmas.Option.{slice_get_within}
use Rattle.trace_types.specs.declared.event.Merged.{Merged}
use Rattle.trace_types.specs.Order.{RiseFrom}
use Rattle.host_tree.proofs.Gets.{within}
use Rattle.wait_graph.specs.declared.vertex.Vertex.{Vertex}
use Rattle.wait_graph.specs.declared.wake.Wake.{Wake}
use Rattle.wait_graph.specs.Graph.{WaitGraph, HoldsPlace, IsGraph, IsLastAt, IsToward}
use Rattle.wait_graph.specs.Cuts.{IsCutAfter}
use Rattle.wait_graph.specs.Found.{IsFirstOf, IsLatest}
use Rattle.wait_graph.specs.Wakes.{AreWakes}
use Rattle.wait_graph.specs.Whole.{IsFirstWake}

-- ---- keys
above : (least : ℕ) (ms : List Merged) (j d : ℕ) → RiseFrom least ms → j < length (map (λ (m : Merged). m.key) ms) → least ≤ get_or (map (λ (m : Merged). m.key) ms) j d
above least [] j d rise lt = absurd (omega (arith, lt))
above least (m ∷ ms) zero d rise lt = rise.0
above least (m ∷ ms) (suc j) d rise lt = let a = above m.key ms j d rise.1 (omega (arith, lt)) in let b = rise.0 in omega (arith, a, b)

pub keys_rise : (least : ℕ) (ms : List Merged) → RiseFrom least ms → IsNonDecreasing (map (λ (m : Merged). m.key) ms)
keys_rise least [] rise i j d le lt = absurd (omega (arith, lt))
keys_rise least (m ∷ ms) rise zero zero d le lt = omega arith
keys_rise least (m ∷ ms) rise zero (suc j) d le lt = above m.key ms j d rise.1 (omega (arith, lt))
keys_rise least (m ∷ ms) rise (suc i) zero d le lt = absurd (omega (arith, le))
keys_rise least (m ∷ ms) rise (suc i) (suc j) d le lt = keys_rise m.key ms rise.1 i j d (omega (arith, le)) (omega (arith, lt))

pub graph_rises : (g : WaitGraph) → IsGraph g → IsNonDecreasing g.keys
graph_rises g is = subst IsNonDecreasing (sym is.3.keys) (keys_rise 0 is.0 is.2.rises)

pub last_at : (keys : List ℕ) (t count : ℕ) → IsCutAfter (λ k. k) keys t count → count ≢ 0 → IsLastAt keys t (count - 1)
last_at keys t count cut ne =
    let bound = cut.bound in
    let k = within keys (count - 1) (omega (arith, bound, ne)) in
    record {
      key = k.0;
      there = k.1;
      not_after = cut.low (count - 1) k.0 (omega (arith, ne)) k.1;
      last = λ later x lt at. cut.high later x (omega (arith, lt, ne)) at;
    }

-- ---- vertices
pub holds : (g : WaitGraph) → IsGraph g → (host tid place n : ℕ) (is : IsLatest g.vertices host tid place n) → HoldsPlace is.vertex place
holds g whole host tid place n is = (is.begun, by is.vertex.end refl)
  where
    by : (o : Option ℕ) → is.vertex.end ≡ o → IfSome o (λ end. place < end)
    by None e = tt
    by (Some end) e =
        let v = is.vertex in
        let st = whole.3.vertices.stretches n v is.there in
        let ended = st.ended end e in
        let x = whole.3.vertices.all v.host v.tid end st.is_thread ended.1 in
        let lt = ended.0 in let s = x.5 in
        let l = is.later x.0 x.1 x.2 (x.3 ∙ is.of_host) (x.4 ∙ is.of_tid) (omega (arith, lt, s)) in
        omega (arith, l, s)

none_is : (e : ℕ) → None ≡ Some e → ⊥
none_is e q = cc

one_end : (o : Option ℕ) (a b : ℕ) → o ≡ Some a → o ≡ Some b → a ≡ b
one_end o a b e f = cc

pub first_is : (vertices : List Vertex) (wakes : List Wake) (host tid n : ℕ) → AreWakes vertices (length vertices) wakes → IsFirstOf wakes host tid n → IsFirstWake vertices host tid n
first_is vertices wakes host tid n are is =
    let s = are.sound is.index is.wake is.there in
    record {
      vertex = s.0;
      there = subst (λ i. slice_get vertices i ≡ Some s.0) is.is_number s.1.0;
      toward = subst (λ t. IsToward host t s.0.link) is.of_tid (subst (λ h. IsToward h is.wake.tid s.0.link) is.of_host s.1.1.0);
      first = λ k w at toward before.
          let a = are.all k w host tid before.0 at (slice_get_within vertices k w at) toward before.2 in
          let f = is.first a.0 a.1.0 a.1.1.0 a.1.1.1.1.0 a.1.1.1.1.1.0 in
          let e = a.1.1.1.1.1.1 in
          let b = one_end s.0.end is.wake.end before.1 s.1.1.1.0 before.3 in
          let lt = before.4 in
          omega (arith, f, e, b, lt);
    }

pub none_waits : (g : WaitGraph) → IsGraph g → (wakes : List Wake) → AreWakes g.vertices (length g.vertices) wakes → (host tid : ℕ) → ((k : ℕ) (w : Wake) → slice_get wakes k ≡ Some w → w.host ≡ host → w.tid ≢ tid)
    → (n : ℕ) (v : Vertex) → slice_get g.vertices n ≡ Some v → ¬ IsToward host tid v.link
none_waits g whole wakes are host tid none n v at toward = by v.end refl
  where
    by : (o : Option ℕ) → v.end ≡ o → ⊥
    by None e = subst (IsToward host tid) ((whole.3.vertices.links n v at).to_the_end e) toward
    by (Some end) e = let a = are.all n v host tid end at (slice_get_within g.vertices n v at) toward e in none a.0 a.1.0 a.1.1.0 a.1.1.1.1.0 a.1.1.1.1.1.0

-- ---- as the look-ups say it
pub segment_found : (g : WaitGraph) → IsGraph g → (host tid place : ℕ) (r : Option ℕ) → IfSome r (IsLatest g.vertices host tid place)
    → IfSome r (λ n. (v : Vertex) × (slice_get g.vertices n ≡ Some v) × (v.host ≡ host) × (v.tid ≡ tid) × HoldsPlace v place)
segment_found g whole host tid place None is = tt
segment_found g whole host tid place (Some n) is = (is.vertex, is.there, is.of_host, is.of_tid, holds g whole host tid place n is)

pub first_found : (vertices : List Vertex) (wakes : List Wake) → AreWakes vertices (length vertices) wakes → (host tid : ℕ) (r : Option ℕ) → IfSome r (IsFirstOf wakes host tid) → IfSome r (IsFirstWake vertices host tid)
first_found vertices wakes are host tid None is = tt
first_found vertices wakes are host tid (Some n) is = first_is vertices wakes host tid n are is

pub none_found : (g : WaitGraph) → IsGraph g → (wakes : List Wake) → AreWakes g.vertices (length g.vertices) wakes → (host tid : ℕ) (r : Option ℕ)
    → IfNone r ((k : ℕ) (w : Wake) → slice_get wakes k ≡ Some w → w.host ≡ host → w.tid ≢ tid) → IfNone r ((n : ℕ) (v : Vertex) → slice_get g.vertices n ≡ Some v → ¬ IsToward host tid v.link)
none_found g whole wakes are host tid None is = none_waits g whole wakes are host tid is
none_found g whole wakes are host tid (Some n) is = tt
