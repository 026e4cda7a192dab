-- The waits for wakers, as they are gathered, and as their vertices get their neighbours.
use Rattle.std.proofs.Common.{◌≡◌, ◌∙◌, ◌⊎◌, inl, inr, ⊎_elim, ℕ, ◌+◌, ◌<◌, ◌≤◌, ◌^◌, List, [], ◌∷◌, ◌++◌, Option, None, Some, length, set, slice_get, refl, sym, ap, subst, arith}
use Rattle.std.proofs.lemmas.Option.{slice_get_within}
use Rattle.std.proofs.lemmas.List.{length-append, length-set}
use Rattle.host_tree.proofs.Gets.{at_set, beside_set, before_push, at_push}
use Rattle.wait_graph.specs.declared.wake.Wake.{Wake}
use Rattle.wait_graph.specs.declared.vertex.Vertex.{Vertex}
use Rattle.wait_graph.specs.declared.vertex.Link.{Link}
use Rattle.wait_graph.specs.declared.vertex.Link.TheVariants.{Nothing, Thread, Net, Timer, Disk, Interrupt, Nobody}
use Rattle.wait_graph.specs.Graph.{IsToward}
use Rattle.wait_graph.specs.Wakes.{wake_by, wake_next_of, wake_before_of, woven, AllFit, AreWakes, AreWoven}
use Rattle.wait_graph.proofs.Pushes.{pushed}
use native.Mathlib.Decide.{ℕ_discrete}
use mathlib.Core.Logic.{dite}

-- it is no wait for a waker
abbrev IsNone : Option ℕ → Link → ℕ → Type 0
IsNone end link n = (wake_by end link n ≡ []) × ((h t e : ℕ) → IsToward h t link → end ≡ Some e → ⊥)

-- or it is this one
abbrev IsOne : Option ℕ → Link → ℕ → Type 0
IsOne end link n = (w : Wake) × ((wake_by end link n ≡ w ∷ []) × (IsToward w.host w.tid link × ((end ≡ Some w.end) × ((w.number ≡ n) × ((h t e : ℕ) → IsToward h t link → end ≡ Some e → (w.host ≡ h) × ((w.tid ≡ t) × (w.end ≡ e)))))))

some_end : (x y : ℕ) → Some x ≡ Some y → x ≡ y
some_end x y e = cc

none_end : (y : ℕ) → None ≡ Some y → ⊥
none_end y e = cc

wake_facts : (end : Option ℕ) (link : Link) (n : ℕ) → IsNone end link n ⊎ IsOne end link n
wake_facts None link n = inl (refl, λ h t e toward is. none_end e is)
wake_facts (Some end) (Thread host tid) n = inr (record { host = host; tid = tid; end = end; number = n }, (refl, ((refl, refl), (refl, (refl, λ h t e toward is. (toward.0, (toward.1, some_end end e is)))))))
wake_facts (Some end) (Net host tid send) n = inr (record { host = host; tid = tid; end = end; number = n }, (refl, ((refl, refl), (refl, (refl, λ h t e toward is. (toward.0, (toward.1, some_end end e is)))))))
wake_facts (Some end) Nothing n = inl (refl, λ h t e toward is. toward)
wake_facts (Some end) Timer n = inl (refl, λ h t e toward is. toward)
wake_facts (Some end) Disk n = inl (refl, λ h t e toward is. toward)
wake_facts (Some end) Interrupt n = inl (refl, λ h t e toward is. toward)
wake_facts (Some end) Nobody n = inl (refl, λ h t e toward is. toward)

append_nothing : (ws : List Wake) → ws ++ [] ≡ ws
append_nothing [] = refl
append_nothing (w ∷ ws) = ap (λ l. w ∷ l) (append_nothing ws)

one_vertex : (vs : List Vertex) (i : ℕ) (x y : Vertex) → slice_get vs i ≡ Some x → slice_get vs i ≡ Some y → x ≡ y
one_vertex vs i x y e f = cc

one_wake : (vs : List Wake) (i : ℕ) (x y : Wake) → slice_get vs i ≡ Some x → slice_get vs i ≡ Some y → x ≡ y
one_wake vs i x y e f = cc

pub few_wakes : (v : Vertex) (n : ℕ) (wakes new : List Wake) → new ≡ wakes ++ wake_by v.end v.link n → length new ≤ length wakes + 1
few_wakes v n wakes new is = ⊎_elim
    (λ none. let l = ap length (is ∙ (ap (λ l. wakes ++ l) none.0 ∙ append_nothing wakes)) in omega (arith, l))
    (λ one. let l = ap length (is ∙ ap (λ l. wakes ++ l) one.1.0) ∙ length-append wakes (one.0 ∷ []) in omega (arith, l))
    (wake_facts v.end v.link n)

pub fit_more : (v : Vertex) (n : ℕ) (wakes new : List Wake) → new ≡ wakes ++ wake_by v.end v.link n → ((h t e : ℕ) → IsToward h t v.link → v.end ≡ Some e → (t < 2 ^ 32) × (e < 2 ^ 32)) → AllFit wakes → AllFit new
fit_more v n wakes new is fits old k w at = ⊎_elim
    (λ none. old k w (subst (λ l. slice_get l k ≡ Some w) (is ∙ (ap (λ l. wakes ++ l) none.0 ∙ append_nothing wakes)) at))
    (λ one. ⊎_elim (old k w) (λ last. subst (λ (x : Wake). (x.tid < 2 ^ 32) × (x.end < 2 ^ 32)) (sym last.1) (fits one.0.host one.0.tid one.0.end one.1.1.0 one.1.1.1.0))
    (pushed wakes one.0 w k (subst (λ l. slice_get l k ≡ Some w) (is ∙ ap (λ l. wakes ++ l) one.1.0) at)))
    (wake_facts v.end v.link n)

pub more_wakes : (vertices : List Vertex) (n : ℕ) (v : Vertex) (wakes new : List Wake) → slice_get vertices n ≡ Some v → new ≡ wakes ++ wake_by v.end v.link n → AreWakes vertices n wakes → AreWakes vertices (n + 1) new
more_wakes vertices n v wakes new at is old = ⊎_elim if_none if_one (wake_facts v.end v.link n)
  where
    if_none : IsNone v.end v.link n → AreWakes vertices (n + 1) new
    if_none none = subst (AreWakes vertices (n + 1)) (sym (is ∙ (ap (λ l. wakes ++ l) none.0 ∙ append_nothing wakes))) (record {
      sound = λ k w got. let s = old.sound k w got in let lt = s.1.1.1.1 in (s.0, (s.1.0, (s.1.1.0, (s.1.1.1.0, omega (arith, lt)))));
      all = λ m x h t e got lt toward end. dite (ℕ_discrete m n)
          (λ q. let same = one_vertex vertices n x v (subst (λ i. slice_get vertices i ≡ Some x) q got) at in
          absurd (none.1 h t e (subst (λ (y : Vertex). IsToward h t y.link) same toward) (subst (λ (y : Vertex). y.end ≡ Some e) same end)))
          (λ ne. old.all m x h t e got (omega (arith, lt, ne)) toward end);
      once = old.once;
    })

    if_one : IsOne v.end v.link n → AreWakes vertices (n + 1) new
    if_one one =
        let w = one.0 in
        let number = one.1.1.1.1.0 in
        subst (AreWakes vertices (n + 1)) (sym (is ∙ ap (λ l. wakes ++ l) one.1.0)) (record {
          sound = λ k x got. ⊎_elim
              (λ g. let s = old.sound k x g in let lt = s.1.1.1.1 in (s.0, (s.1.0, (s.1.1.0, (s.1.1.1.0, omega (arith, lt))))))
              (λ last. subst (λ (y : Wake). (u : Vertex) × ((slice_get vertices y.number ≡ Some u) × (IsToward y.host y.tid u.link × ((u.end ≡ Some y.end) × (y.number < n + 1))))) (sym last.1)
              (v, (subst (λ i. slice_get vertices i ≡ Some v) (sym number) at, (one.1.1.0, (one.1.1.1.0, omega (arith, number))))))
              (pushed wakes w x k got);
          all = λ m x h t e got lt toward end. dite (ℕ_discrete m n)
              (λ q. let same = one_vertex vertices n x v (subst (λ i. slice_get vertices i ≡ Some x) q got) at in
              let f = one.1.1.1.1.1 h t e (subst (λ (y : Vertex). IsToward h t y.link) same toward) (subst (λ (y : Vertex). y.end ≡ Some e) same end) in
              (length wakes, (w, (at_push wakes w, (number ∙ sym q, f)))))
              (λ ne. let a = old.all m x h t e got (omega (arith, lt, ne)) toward end in (a.0, (a.1.0, (before_push wakes a.0 w (slice_get_within wakes a.0 a.1.0 a.1.1.0) ∙ a.1.1.0, a.1.1.1))));
          once = λ j k x y gotj gotk same. ⊎_elim
              (λ gj. ⊎_elim (λ gk. old.once j k x y gj gk same)
              (λ lastk. let lt = (old.sound j x gj).1.1.1.1 in let e = ap (λ (z : Wake). z.number) lastk.1 in absurd (omega (arith, lt, e, same, number))) (pushed wakes w y k gotk))
              (λ lastj. ⊎_elim (λ gk. let lt = (old.sound k y gk).1.1.1.1 in let e = ap (λ (z : Wake). z.number) lastj.1 in absurd (omega (arith, lt, e, same, number)))
              (λ lastk. lastj.0 ∙ sym lastk.0) (pushed wakes w y k gotk)) (pushed wakes w x j gotj);
        })

module _ (wakes : List Wake) (old : List Vertex) (once : (j k : ℕ) (w x : Wake) → slice_get wakes j ≡ Some w → slice_get wakes k ≡ Some x → w.number ≡ x.number → j ≡ k) where
  pub none_woven : AreWoven wakes 0 old old
  none_woven = record {
    length_stays = refl;
    given = λ k w v lt got at. absurd (omega (arith, lt));
    others = λ n none. refl;
  }

  pub one_woven : (place : ℕ) (w : Wake) (now : List Vertex) (cur : Vertex) (next before : Option ℕ) → slice_get wakes place ≡ Some w → slice_get now w.number ≡ Some cur → w.number < length old
      → next ≡ wake_next_of wakes place → before ≡ wake_before_of wakes place → AreWoven wakes place old now → AreWoven wakes (place + 1) old (set now w.number (woven cur next before))
  one_woven place w now cur next before at atcur room isn isb is = record {
    length_stays = length-set now w.number _ ∙ is.length_stays;
    given = λ k x v lt got atv. dite (ℕ_discrete k place)
        (λ q. let same = one_wake wakes place x w (subst (λ i. slice_get wakes i ≡ Some x) q got) at in
        let num = ap (λ (z : Wake). z.number) same in
        let cv = one_vertex old w.number cur v (sym untouched ∙ atcur) (subst (λ i. slice_get old i ≡ Some v) num atv) in
        rw (q, num, sym cv, sym isn, sym isb) (at_set now w.number (woven cur next before) (subst (λ l. w.number < l) (sym is.length_stays) room)))
        (λ ne. beside_set now w.number x.number _ (λ q. ne (once k place x w got at q)) ∙ is.given k x v (omega (arith, lt, ne)) got atv);
    others = λ n none. beside_set now w.number n _ (λ q. none place w (omega arith) at (sym q)) ∙ is.others n (λ k x lt. none k x (omega (arith, lt)));
  }
    where
      untouched : slice_get now w.number ≡ slice_get old w.number
      untouched = is.others w.number (λ k x lt got q. let e = once k place x w got at q in omega (arith, lt, e))
