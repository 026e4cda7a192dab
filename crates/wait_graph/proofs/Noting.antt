-- The states of all threads, and the changes, after one more event.
use Rattle.std.proofs.Common.{◌≡◌, ◌≢◌, ◌∙◌, ◌⊎◌, inl, inr, ⊎_elim, ℕ, ◌+◌, ◌<◌, ◌≤◌, List, [], ◌∷◌, ◌++◌, Option, Some, length, slice_get, refl, sym, ap, subst, ne_eqb, eq-eqb, arith}
use Rattle.std.proofs.lemmas.Option.{slice_get_within}
use Rattle.std.proofs.lemmas.List.{length-append}
use Rattle.trace_types.specs.declared.event.Event.{Event}
use Rattle.trace_types.specs.declared.event.Merged.{Merged}
use Rattle.host_tree.proofs.Gets.{before_push, at_push}
use Rattle.wait_graph.specs.declared.vertex.ThreadState.{ThreadState}
use Rattle.wait_graph.specs.declared.vertex.ThreadState.TheVariants.{Unknown, Running, Waiting, Blocked}
use Rattle.wait_graph.specs.declared.named.ThreadName.{ThreadName}
use Rattle.wait_graph.specs.declared.change.Change.{Change}
use Rattle.wait_graph.specs.States.{state_after, state_by, tid_on, values_before}
use Rattle.wait_graph.specs.Graph.{IsChange}
use Rattle.wait_graph.specs.Changes.{touched, state_in, AreStates, IsChangeOf, AreChangesIn, AreChanges, TouchesTo, NotesTo}
use Rattle.wait_graph.proofs.ByKind.{untouched}
use Rattle.wait_graph.proofs.Advance.{state_next}
use Rattle.wait_graph.proofs.Pushes.{pushed}
use native.Mathlib.Decide.{ℕ_discrete}
use mathlib.Core.Logic.{dite}

-- two states are one, or not
pub same_or_not : (s t : ThreadState) → (s ≡ t) ⊎ (s ≢ t)
same_or_not Unknown Unknown = inl refl
same_or_not Running Running = inl refl
same_or_not Waiting Waiting = inl refl
same_or_not Blocked Blocked = inl refl
same_or_not Unknown Running = inr (λ e. absurd (cc))
same_or_not Unknown Waiting = inr (λ e. absurd (cc))
same_or_not Unknown Blocked = inr (λ e. absurd (cc))
same_or_not Running Unknown = inr (λ e. absurd (cc))
same_or_not Running Waiting = inr (λ e. absurd (cc))
same_or_not Running Blocked = inr (λ e. absurd (cc))
same_or_not Waiting Unknown = inr (λ e. absurd (cc))
same_or_not Waiting Running = inr (λ e. absurd (cc))
same_or_not Waiting Blocked = inr (λ e. absurd (cc))
same_or_not Blocked Unknown = inr (λ e. absurd (cc))
same_or_not Blocked Running = inr (λ e. absurd (cc))
same_or_not Blocked Waiting = inr (λ e. absurd (cc))

module _ (merged : List Merged) where
  -- one more change
  more_changes : (Reached : ℕ → ℕ → ℕ → Type 0) (changes : List Change) (c : Change) → IsChangeOf merged c → ¬ Reached c.host c.tid c.place → AreChangesIn merged Reached changes
      → AreChangesIn merged (λ h t p. Reached h t p ⊎ ((h ≡ c.host) × ((t ≡ c.tid) × (p ≡ c.place)))) (changes ++ c ∷ [])
  more_changes Reached changes c is fresh old = record {
    sound = λ k d at. ⊎_elim (λ got. let s = old.sound k d got in (s.0, inl s.1)) (λ last. subst (λ (x : Change). IsChangeOf merged x × (Reached x.host x.tid x.place ⊎ ((x.host ≡ c.host) × ((x.tid ≡ c.tid) × (x.place ≡ c.place))))) (sym last.1) (is, inr (refl, (refl, refl)))) (pushed changes c d k at);
    all = λ h t p thread reached ch. ⊎_elim
        (λ r. let a = old.all h t p thread r ch in (a.0, (a.1.0, (before_push changes a.0 c (slice_get_within changes a.0 a.1.0 a.1.1.0) ∙ a.1.1.0, a.1.1.1))))
        (λ e. (length changes, (c, (at_push changes c, (sym e.0, (sym e.1.0, sym e.1.1)))))) reached;
    once = λ j k a b atj atk h t p. ⊎_elim
        (λ gotj. ⊎_elim (λ gotk. old.once j k a b gotj gotk h t p)
        (λ last. absurd (fresh (subst (λ (x : Change). Reached x.host x.tid x.place) last.1 (moved Reached a b h t p (old.sound j a gotj).1)))) (pushed changes c b k atk))
        (λ lastj. ⊎_elim (λ gotk. absurd (fresh (subst (λ (x : Change). Reached x.host x.tid x.place) lastj.1 (moved Reached b a (sym h) (sym t) (sym p) (old.sound k b gotk).1))))
        (λ lastk. lastj.0 ∙ sym lastk.0) (pushed changes c b k atk)) (pushed changes c a j atj);
  }
    where
      moved : (Reached : ℕ → ℕ → ℕ → Type 0) (a b : Change) → a.host ≡ b.host → a.tid ≡ b.tid → a.place ≡ b.place → Reached a.host a.tid a.place → Reached b.host b.tid b.place
      moved R a b h t p r = rw (sym h, sym t, sym p) r

  -- the same changes, where what is reached besides is none
  same_changes : (Reached Others : ℕ → ℕ → ℕ → Type 0) (changes : List Change) → ((h t p : ℕ) → Reached h t p → Others h t p) → ((h t p : ℕ) → t ≢ 0 → Others h t p → IsChange merged h t p → Reached h t p)
      → AreChangesIn merged Reached changes → AreChangesIn merged Others changes
  same_changes Reached Others changes to from old = record {
    sound = λ k c at. let s = old.sound k c at in (s.0, to c.host c.tid c.place s.1);
    all = λ h t p thread reached ch. old.all h t p thread (from h t p thread reached ch) ch;
    once = old.once;
  }

  module _ (place : ℕ) (e : Merged) (there : slice_get merged place ≡ Some e) (current : Option ℕ) (runs : tid_on (values_before merged place) e.event.host e.event.cpu ≡ current) where
    own_state : (t : ℕ) → state_after merged e.event.host t (place + 1) ≡ state_by current t (state_after merged e.event.host t place) e.event.kind
    own_state t = state_next merged place e.event.host t e there ∙ rw (eq-eqb e.event.host e.event.host refl, runs) refl

    other_state : (h t : ℕ) → h ≢ e.event.host → state_after merged h t (place + 1) ≡ state_after merged h t place
    other_state h t ne = state_next merged place h t e there ∙ rw (ne_eqb e.event.host h (λ q. ne (sym q))) refl

    -- a change here is of a thread that the event touches
    touched_here : (h t : ℕ) → IsChange merged h t place → (h ≡ e.event.host) × ((t ≡ (touched current e.event.kind).0) ⊎ (t ≡ (touched current e.event.kind).1))
    touched_here h t ch = dite (ℕ_discrete h e.event.host)
        (λ q. (
          q,
          dite (ℕ_discrete t (touched current e.event.kind).0) (λ f. inl f)
              (λ nf. dite (ℕ_discrete t (touched current e.event.kind).1) (λ s. inr s)
              (λ ns. absurd (ch.1 (subst (λ n. state_after merged n t (place + 1) ≡ state_after merged n t place) (sym q) (own_state t ∙ untouched current t _ e.event.kind nf ns))))),
        ))
        (λ ne. absurd (ch.1 (other_state h t ne)))

    -- one thread is touched
    after_touch : (Reached : ℕ → ℕ → ℕ → Type 0) (tid : ℕ) (threads threads_after : List (ThreadName × ThreadState)) (changes changes_after : List Change)
        → TouchesTo place e.event current tid threads changes threads_after changes_after → (tid ≢ 0 → state_in threads e.event.host tid ≡ state_after merged e.event.host tid place) → ¬ Reached e.event.host tid place → AreChangesIn merged Reached changes
        → AreChangesIn merged (λ h t p. Reached h t p ⊎ ((h ≡ e.event.host) × ((t ≡ tid) × (p ≡ place)))) changes_after
    after_touch Reached tid threads threads_after changes changes_after to state fresh old = dite (ℕ_discrete tid 0)
        (λ z. unchanged (to.idle (inl z)) (λ nz. absurd (nz z)))
        (λ nz. ⊎_elim (λ same. unchanged (to.idle (inr same)) (λ n. sym (now n) ∙ (same ∙ state n)))
        (λ other. subst (AreChangesIn merged _) (sym (to.changed nz other))
        (more_changes Reached changes (record { host = e.event.host; tid = tid; place = place; state = state_in threads_after e.event.host tid })
        (record { is_thread = nz; changes = (slice_get_within merged place e there, λ q. other (now nz ∙ (q ∙ sym (state nz)))); state = now nz; tid_fits = to.fits }) fresh old))
        (same_or_not (state_in threads_after e.event.host tid) (state_in threads e.event.host tid)))
      where
        now : tid ≢ 0 → state_in threads_after e.event.host tid ≡ state_after merged e.event.host tid (place + 1)
        now nz = to.here nz ∙ (ap (λ s. state_by current tid s e.event.kind) (state nz) ∙ sym (own_state tid))

        unchanged : changes_after ≡ changes → (tid ≢ 0 → state_after merged e.event.host tid (place + 1) ≡ state_after merged e.event.host tid place) → AreChangesIn merged (λ h t p. Reached h t p ⊎ ((h ≡ e.event.host) × ((t ≡ tid) × (p ≡ place)))) changes_after
        unchanged same still = subst (AreChangesIn merged _) (sym same) (same_changes Reached _ changes (λ h t p r. inl r)
            (λ h t p nz others ch. ⊎_elim (λ r. r) (λ q. absurd (none h t p nz q ch)) others) old)
          where
            none : (h t p : ℕ) → t ≢ 0 → (h ≡ e.event.host) × ((t ≡ tid) × (p ≡ place)) → IsChange merged h t p → ⊥
            none h t p nz q ch =
                let c = subst (λ n. IsChange merged e.event.host tid n) q.1.1 (subst (λ n. IsChange merged e.event.host n p) q.1.0 (subst (λ n. IsChange merged n t p) q.0 ch)) in
                c.1 (still (λ z. nz (q.1.0 ∙ z)))

    -- both threads are touched that the event touches
    module _ (threads middle threads_after : List (ThreadName × ThreadState)) (states : AreStates merged place threads) where
      before_second : (changes changes' : List Change) → TouchesTo place e.event current ((touched current e.event.kind).0) threads changes middle changes' → (touched current e.event.kind).1 ≢ (touched current e.event.kind).0
          → (touched current e.event.kind).1 ≢ 0 → state_in middle e.event.host ((touched current e.event.kind).1) ≡ state_after merged e.event.host ((touched current e.event.kind).1) place
      before_second changes changes' one ne nz = one.elsewhere e.event.host _ (λ h t. ne t) ∙ states e.event.host _ nz

      pub states_one : (changes changes' : List Change) → TouchesTo place e.event current ((touched current e.event.kind).0) threads changes middle changes' → (touched current e.event.kind).1 ≡ (touched current e.event.kind).0 → AreStates merged (place + 1) middle
      states_one changes changes' one same h t nz = dite (ℕ_discrete h e.event.host)
          (λ q. subst (λ n. state_in middle n t ≡ state_after merged n t (place + 1)) (sym q) (dite (ℕ_discrete t (touched current e.event.kind).0)
          (λ f. subst (λ n. state_in middle e.event.host n ≡ state_after merged e.event.host n (place + 1)) (sym f)
          (one.here (λ z. nz (f ∙ z)) ∙ (ap (λ s. state_by current ((touched current e.event.kind).0) s e.event.kind) (states e.event.host _ (λ z. nz (f ∙ z))) ∙ sym (own_state _))))
          (λ nf. one.elsewhere e.event.host t (λ x y. nf y) ∙ (states e.event.host t nz ∙ sym (own_state t ∙ untouched current t _ e.event.kind nf (λ s. nf (s ∙ same)))))))
          (λ ne. one.elsewhere h t (λ x y. ne x) ∙ (states h t nz ∙ sym (other_state h t ne)))

      pub states_two : (changes changes' changes'' : List Change) → TouchesTo place e.event current ((touched current e.event.kind).0) threads changes middle changes' → TouchesTo place e.event current ((touched current e.event.kind).1) middle changes' threads_after changes''
          → (touched current e.event.kind).1 ≢ (touched current e.event.kind).0 → AreStates merged (place + 1) threads_after
      states_two changes changes' changes'' one two apart h t nz = dite (ℕ_discrete h e.event.host)
          (λ q. subst (λ n. state_in threads_after n t ≡ state_after merged n t (place + 1)) (sym q) (dite (ℕ_discrete t (touched current e.event.kind).1)
          (λ s. subst (λ n. state_in threads_after e.event.host n ≡ state_after merged e.event.host n (place + 1)) (sym s)
          (two.here (λ z. nz (s ∙ z)) ∙ (ap (λ x. state_by current ((touched current e.event.kind).1) x e.event.kind) (before_second changes changes' one apart (λ z. nz (s ∙ z))) ∙ sym (own_state _))))
          (λ ns. two.elsewhere e.event.host t (λ x y. ns y) ∙ dite (ℕ_discrete t (touched current e.event.kind).0)
          (λ f. subst (λ n. state_in middle e.event.host n ≡ state_after merged e.event.host n (place + 1)) (sym f)
          (one.here (λ z. nz (f ∙ z)) ∙ (ap (λ s. state_by current ((touched current e.event.kind).0) s e.event.kind) (states e.event.host _ (λ z. nz (f ∙ z))) ∙ sym (own_state _))))
          (λ nf. one.elsewhere e.event.host t (λ x y. nf y) ∙ (states e.event.host t nz ∙ sym (own_state t ∙ untouched current t _ e.event.kind nf ns))))))
          (λ ne. two.elsewhere h t (λ x y. ne x) ∙ (one.elsewhere h t (λ x y. ne x) ∙ (states h t nz ∙ sym (other_state h t ne))))

      pub noted_one : (changes changes' : List Change) → TouchesTo place e.event current ((touched current e.event.kind).0) threads changes middle changes' → (touched current e.event.kind).1 ≡ (touched current e.event.kind).0
          → AreChanges merged place changes → AreChanges merged (place + 1) changes'
      noted_one changes changes' one same old = same_changes _ (λ h t p. p < place + 1) changes'
          (λ h t p r. ⊎_elim (λ lt. omega (arith, lt)) (λ q. let z = q.1.1 in omega (arith, z)) r)
          (λ h t p nz lt ch. dite (ℕ_discrete p place)
          (λ q. let w = touched_here h t (subst (IsChange merged h t) q ch) in inr (w.0, (⊎_elim (λ f. f) (λ s. s ∙ same) w.1, q)))
          (λ ne. inl (omega (arith, lt, ne))))
          (after_touch (λ h t p. p < place) _ threads middle changes changes' one (states e.event.host _) (λ lt. omega (arith, lt)) old)

      pub noted_two : (changes changes' changes'' : List Change) → TouchesTo place e.event current ((touched current e.event.kind).0) threads changes middle changes' → TouchesTo place e.event current ((touched current e.event.kind).1) middle changes' threads_after changes''
          → (touched current e.event.kind).1 ≢ (touched current e.event.kind).0 → AreChanges merged place changes → AreChanges merged (place + 1) changes''
      noted_two changes changes' changes'' one two apart old = same_changes _ (λ h t p. p < place + 1) changes''
          (λ h t p r. ⊎_elim (λ x. ⊎_elim (λ lt. omega (arith, lt)) (λ q. let z = q.1.1 in omega (arith, z)) x) (λ q. let z = q.1.1 in omega (arith, z)) r)
          (λ h t p nz lt ch. dite (ℕ_discrete p place)
          (λ q. let w = touched_here h t (subst (IsChange merged h t) q ch) in ⊎_elim (λ f. inl (inr (w.0, (f, q)))) (λ s. inr (w.0, (s, q))) w.1)
          (λ ne. inl (inl (omega (arith, lt, ne)))))
          (after_touch _ _ middle threads_after changes' changes'' two (before_second changes changes' one apart) (λ r. ⊎_elim (λ lt. omega (arith, lt)) (λ q. apart q.1.0) r)
          (after_touch (λ h t p. p < place) _ threads middle changes changes' one (states e.event.host _) (λ lt. omega (arith, lt)) old))

few_touch : (place : ℕ) (event : Event) (current : Option ℕ) (tid : ℕ) (threads threads_after : List (ThreadName × ThreadState)) (changes changes_after : List Change) → TouchesTo place event current tid threads changes threads_after changes_after → length changes_after ≤ length changes + 1
few_touch place event current tid threads threads_after changes changes_after to = dite (ℕ_discrete tid 0)
    (λ z. let e = ap length (to.idle (inl z)) in omega (arith, e))
    (λ nz. ⊎_elim (λ same. let e = ap length (to.idle (inr same)) in omega (arith, e))
    (λ other. let e = ap length (to.changed nz other) ∙ length-append changes _ in omega (arith, e)) (same_or_not (state_in threads_after event.host tid) (state_in threads event.host tid)))

module _ (place : ℕ) (event : Event) (current : Option ℕ) (threads middle threads_after : List (ThreadName × ThreadState)) (changes changes' changes'' : List Change) (pair : ℕ × ℕ) (is : pair ≡ touched current event.kind) where
  moved_touch : (n m : ℕ) (ts us : List (ThreadName × ThreadState)) (cs ds : List Change) (other : Event) → other ≡ event → n ≡ m → TouchesTo place event current n ts cs us ds → TouchesTo place other current m ts cs us ds
  moved_touch n m ts us cs ds other e f t = rw (e, sym f) t

  pub notes_one : TouchesTo place event current pair.0 threads changes middle changes' → pair.1 ≡ pair.0 → NotesTo place event current threads changes middle changes'
  notes_one one same = record {
    states = λ merged e there q runs states. states_one merged place e there current (rw q runs) threads middle threads_after states changes changes' (touch e q) (again e q);
    noted = λ merged e there q runs states old. noted_one merged place e there current (rw q runs) threads middle threads_after states changes changes' (touch e q) (again e q) old;
    few = let f = few_touch place event current pair.0 threads middle changes changes' one in omega (arith, f);
  }
    where
      touch : (e : Merged) → e.event ≡ event → TouchesTo place e.event current ((touched current e.event.kind).0) threads changes middle changes'
      touch e q = rw q (subst (λ n. TouchesTo place event current n threads changes middle changes') (ap (λ (x : ℕ × ℕ). x.0) is) one)

      again : (e : Merged) → e.event ≡ event → (touched current e.event.kind).1 ≡ (touched current e.event.kind).0
      again e q = rw q (subst (λ (x : ℕ × ℕ). x.1 ≡ x.0) is same)

  pub notes_two : TouchesTo place event current pair.0 threads changes middle changes' → TouchesTo place event current pair.1 middle changes' threads_after changes'' → pair.1 ≢ pair.0 → NotesTo place event current threads changes threads_after changes''
  notes_two one two apart = record {
    states = λ merged e there q runs states. states_two merged place e there current (rw q runs) threads middle threads_after states changes changes' changes'' (touch e q) (touch' e q) (differ e q);
    noted = λ merged e there q runs states old. noted_two merged place e there current (rw q runs) threads middle threads_after states changes changes' changes'' (touch e q) (touch' e q) (differ e q) old;
    few = let f = few_touch place event current pair.0 threads middle changes changes' one in let g = few_touch place event current pair.1 middle threads_after changes' changes'' two in omega (arith, f, g);
  }
    where
      touch : (e : Merged) → e.event ≡ event → TouchesTo place e.event current ((touched current e.event.kind).0) threads changes middle changes'
      touch e q = rw q (subst (λ n. TouchesTo place event current n threads changes middle changes') (ap (λ (x : ℕ × ℕ). x.0) is) one)

      touch' : (e : Merged) → e.event ≡ event → TouchesTo place e.event current ((touched current e.event.kind).1) middle changes' threads_after changes''
      touch' e q = rw q (subst (λ n. TouchesTo place event current n middle changes' threads_after changes'') (ap (λ (x : ℕ × ℕ). x.1) is) two)

      differ : (e : Merged) → e.event ≡ event → (touched current e.event.kind).1 ≢ (touched current e.event.kind).0
      differ e q = rw q (subst (λ (x : ℕ × ℕ). x.1 ≢ x.0) is apart)
