-- A history that stands for steps stands, after one more, for those and that one.
use Rattle.std.proofs.Common.{◌≡◌, ◌≢◌, ⊎_elim, ◌↔◌, ℕ, zero, suc, ◌+◌, ◌-◌, ◌<◌, ◌≤◌, ◌==◌, Bool, true, false, not, ◌&&◌, nat_lt, if◌then◌else◌, List, [], ◌∷◌, ◌++◌, length, Option, Some, None, slice_set, refl, sym, ap, ap₂, ◌∙◌, subst, arith, append-nil, length-append}
use Rattle.std.proofs.lemmas.Bool.{eqb-true, eqb-false, ltb-true, ltb-false}
use Rattle.std.specs.FinMap.{get, insert, get-empty}
use Rattle.std.specs.Prelude.{unwrap_or}
use Rattle.std.specs.Ordering.{nat_cmp}
use Rattle.std.specs.Cmp.Lexicographic.{slice_cmp}
use Rattle.trace_types.specs.declared.value.Value.{Value}
use Rattle.trace_types.specs.declared.value.Value.TheVariants.{Null}
use Rattle.trace_types.specs.Same.{same_value}
use Rattle.trace_types.proofs.Same.{value_is, value_itself}
use Rattle.kernel_provider.specs.declared.step.Step.{Step}
use Rattle.kernel_provider.specs.declared.step.Step.TheVariants.{Advance, Add, Change, Finish}
use Rattle.history_core.specs.declared.closed.Since.{Since}
use Rattle.history_tree.specs.Records.{Content}
use Rattle.history_tree.specs.Tree.{NodeTree, tree_of}
use Rattle.history_tree.proofs.Contents.{alike, same_key, own_key, other_key, key_number, key_start}
use Rattle.history_nodes.specs.Nodes.{opened as new_node}
use Rattle.history_core.specs.Changes.{paths_of, changes_of, last_of}
use Rattle.history_core.specs.Closed.{IsClosed}
use Rattle.history_core.specs.Intervals.{Parts, taken, open_at, closing, closes as closes_open, AreKept}
use Rattle.history_core.specs.Stands.{CanFollow, AreSteps, Stands, HistoryModel, kept_of}
use Rattle.history_core.proofs.Pushed.{paths_both, built_both, changes_both, steps_push, last_push}
use Rattle.history_core.proofs.Times.{Rises, changes_rise, no_last}
use Rattle.history_core.proofs.Closing.{none_first, none_empty, none_open, stays, closes, only}
use Rattle.history_core.proofs.Keeping.{open_push, open_set, open_else, get_else, get_new}

-- no step: nothing is closed
pub stands_new : Stands [] (kept_of [] (tree_of (new_node 0 0 ∷ []) 0 0 0) [] 0 0)
stands_new = record {
  lawful = tt;
  paths = refl;
  closed = λ n s e v. ((λ h. absurd (none (get-empty (slice_cmp nat_cmp) (n ∷ s ∷ [])) h)), (λ h. absurd (none_empty s e v h)));
  opened = λ n. nothing n;
  count = refl;
  built = refl;
}
  where
    none : {X : Type 0} {o : Option X} {x : X} → o ≡ None → o ≡ Some x → ⊥
    none e h = absurd (cc)

    nothing : (n : ℕ) → open_at [] n ≡ None
    nothing zero = refl
    nothing (suc n) = refl

-- the closed intervals of the number that changes
module _ (closed : Content) (cs : List Since) (b n t : ℕ) (v : Value) (rise : Rises b cs)
    (old : (s e : ℕ) (w : Value) → (get closed (n ∷ s ∷ []) ≡ Some (e, w)) ↔ IsClosed cs s e w) where
  abbrev x : Since
  x = record { start = t; value = v }

  change_first : cs ≡ [] → (s e : ℕ) (w : Value) → (get closed (n ∷ s ∷ []) ≡ Some (e, w)) ↔ IsClosed (cs ++ x ∷ []) s e w
  change_first none s e w = (
    (λ h. absurd (none_empty s e w (subst (λ l. IsClosed l s e w) none ((old s e w).0 h)))),
    (λ h. absurd (none_first x s e w (subst (λ l. IsClosed (l ++ x ∷ []) s e w) none h))),
  )

  module _ (c : Since) (last : last_of cs ≡ Some c) (after : c.start ≤ t) where
    -- nothing is closed
    change_open : ((c.start < t) → (c.value ≢ Null) → ⊥) → (s e : ℕ) (w : Value) → (get closed (n ∷ s ∷ []) ≡ Some (e, w)) ↔ IsClosed (cs ++ x ∷ []) s e w
    change_open not' s e w = (
      (λ h. stays cs c b rise last x after s e w ((old s e w).0 h)),
      (λ h. ⊎_elim (λ k. (old s e w).1 k) (λ k. absurd (not' k.0 k.4)) (only cs c b rise last x after s e w h)),
    )

    -- the value before is closed
    change_close : c.start < t → c.value ≢ Null → (s e : ℕ) (w : Value) → (get (insert closed (n ∷ c.start ∷ []) (t - 1, c.value)) (n ∷ s ∷ []) ≡ Some (e, w)) ↔ IsClosed (cs ++ x ∷ []) s e w
    change_close early some s e w = by (alike (n ∷ s ∷ []) (n ∷ c.start ∷ [])) refl
      where
        i : ℕ × Value
        i = (t - 1, c.value)

        here : n ∷ s ∷ [] ≡ n ∷ c.start ∷ [] → alike (n ∷ s ∷ []) (n ∷ c.start ∷ []) ≡ true → (get (insert closed (n ∷ c.start ∷ []) i) (n ∷ s ∷ []) ≡ Some (e, w)) ↔ IsClosed (cs ++ x ∷ []) s e w
        here same k =
            let start : s ≡ c.start = key_start n s n c.start same in
            let found = get_new closed (n ∷ c.start ∷ []) (n ∷ s ∷ []) i k in (
              (λ h.
                  let pair : (t - 1, c.value) ≡ (e, w) = ap (λ o. unwrap_or o (e, w)) (sym found ∙ h) in
                  subst (λ p. IsClosed (cs ++ x ∷ []) p e w) (sym start) (subst (λ p. IsClosed (cs ++ x ∷ []) c.start p w) (ap (λ p. p.0) pair) (subst (λ p. IsClosed (cs ++ x ∷ []) c.start (t - 1) p) (ap (λ p. p.1) pair) (closes cs c b rise last x after early some)))),
              (λ h. ⊎_elim
                  (λ k. absurd (none_open cs c b rise last e w (subst (λ p. IsClosed cs p e w) start k)))
                  (λ k. found ∙ ap Some (ap₂ (λ p q. (p, q)) (sym k.2) (sym k.3)))
                  (only cs c b rise last x after s e w h)),
            )

        there : alike (n ∷ s ∷ []) (n ∷ c.start ∷ []) ≡ false → (get (insert closed (n ∷ c.start ∷ []) i) (n ∷ s ∷ []) ≡ Some (e, w)) ↔ IsClosed (cs ++ x ∷ []) s e w
        there k = (
          (λ h. stays cs c b rise last x after s e w ((old s e w).0 (sym (get_else closed (n ∷ c.start ∷ []) (n ∷ s ∷ []) i k) ∙ h))),
          (λ h. ⊎_elim
              (λ g. get_else closed (n ∷ c.start ∷ []) (n ∷ s ∷ []) i k ∙ (old s e w).1 g)
              (λ g. let yes : alike (n ∷ s ∷ []) (n ∷ c.start ∷ []) ≡ true = ap (λ p. alike (n ∷ p ∷ []) (n ∷ c.start ∷ [])) g.1 ∙ own_key (n ∷ c.start ∷ []) in absurd (cc))
              (only cs c b rise last x after s e w h)),
        )

        by : (k : Bool) → alike (n ∷ s ∷ []) (n ∷ c.start ∷ []) ≡ k → (get (insert closed (n ∷ c.start ∷ []) i) (n ∷ s ∷ []) ≡ Some (e, w)) ↔ IsClosed (cs ++ x ∷ []) s e w
        by true k = here (same_key (n ∷ s ∷ []) (n ∷ c.start ∷ []) k) k
        by false k = there k

  -- whatever stood before
  change_here : (o : Option Since) → last_of cs ≡ o → ((c : Since) → o ≡ Some c → c.start ≤ t) → (s e : ℕ) (w : Value) → (get (closing closed n t o) (n ∷ s ∷ []) ≡ Some (e, w)) ↔ IsClosed (cs ++ x ∷ []) s e w
  change_here None last after s e w = change_first (no_last cs last) s e w
  change_here (Some c) last after s e w = by (nat_lt c.start t) (same_value c.value Null) refl refl
    where
      by : (k l : Bool) → nat_lt c.start t ≡ k → same_value c.value Null ≡ l
          → (get (if k && not l then insert closed (n ∷ c.start ∷ []) (t - 1, c.value) else closed) (n ∷ s ∷ []) ≡ Some (e, w)) ↔ IsClosed (cs ++ x ∷ []) s e w
      by true true k l = change_open c last (after c refl) (λ _ some. some (value_is c.value Null l)) s e w
      by true false k l = change_close c last (after c refl) (ltb-true c.start t k) (λ is. let yes : same_value c.value Null ≡ true = subst (λ y. same_value c.value y ≡ true) is (value_itself c.value) in absurd (cc)) s e w
      by false l k f = change_open c last (after c refl) (λ early _. let late : t ≤ c.start = ltb-false c.start t k in absurd (omega (arith, early, late))) s e w

-- the closed intervals of another number
change_else : (closed : Content) (n m t s : ℕ) (o : Option Since) → n ≢ m → get (closing closed n t o) (m ∷ s ∷ []) ≡ get closed (m ∷ s ∷ [])
change_else closed n m t s None d = refl
change_else closed n m t s (Some c) d = by (closes_open t c)
  where
    by : (k : Bool) → get (if k then insert closed (n ∷ c.start ∷ []) (t - 1, c.value) else closed) (m ∷ s ∷ []) ≡ get closed (m ∷ s ∷ [])
    by true = get_else closed (n ∷ c.start ∷ []) (m ∷ s ∷ []) (t - 1, c.value) (other_key (m ∷ s ∷ []) (n ∷ c.start ∷ []) (λ e. d (sym (key_number m s n c.start e))))
    by false = refl

-- ---- any step
-- a history of these parts
abbrev pub with_parts : Parts → ℕ → NodeTree → HistoryModel
with_parts p count tree = record { paths = p.paths; closed = p.closed; opened = p.opened; count = count; built = p.built; tree = tree }

module _ (p : Parts) (count : ℕ) (steps : List Step) (tree tree' : NodeTree) (kept : AreKept p.paths p.closed p.opened p.built) (stands : Stands steps (with_parts p count tree)) where
  lawful : (step : Step) → CanFollow p.paths p.built step → AreSteps [] 0 (steps ++ step ∷ [])
  lawful step h = steps_push steps step stands.lawful (subst (λ b. CanFollow (paths_of steps) b step) stands.built (subst (λ l. CanFollow l p.built step) stands.paths h))

  counted : (step : Step) → count + 1 ≡ length (steps ++ step ∷ [])
  counted step = ap (λ n. n + 1) stands.count ∙ sym (length-append steps (step ∷ []))

  -- a step that changes no value
  no_change : (step : Step) (n : ℕ) → changes_of n (step ∷ []) ≡ [] → changes_of n (steps ++ step ∷ []) ≡ changes_of n steps
  no_change step n e = changes_both n steps (step ∷ []) ∙ (ap (λ l. changes_of n steps ++ l) e ∙ append-nil (changes_of n steps))

  still_closed : (step : Step) → ((n : ℕ) → changes_of n (step ∷ []) ≡ []) → (n s e : ℕ) (v : Value) → (get p.closed (n ∷ s ∷ []) ≡ Some (e, v)) ↔ IsClosed (changes_of n (steps ++ step ∷ [])) s e v
  still_closed step none n s e v = subst (λ l. (get p.closed (n ∷ s ∷ []) ≡ Some (e, v)) ↔ IsClosed l s e v) (sym (no_change step n (none n))) (stands.closed n s e v)

  changed : (t n : ℕ) (v : Value) → CanFollow p.paths p.built (Change t n v) → (m s e : ℕ) (w : Value) (b : Bool) → (n == m) ≡ b
      → (get (closing p.closed n t (open_at p.opened n)) (m ∷ s ∷ []) ≡ Some (e, w)) ↔ IsClosed (changes_of m steps ++ (if b then record { start = t; value = v } ∷ [] else [])) s e w
  changed t n v h m s e w true k =
      let same : n ≡ m = eqb-true n m k in
      let after : (c : Since) → open_at p.opened n ≡ Some c → c.start ≤ t = λ c is. omega (arith, kept.begun n c is, h.1.0) in
      subst (λ j. (get (closing p.closed n t (open_at p.opened n)) (j ∷ s ∷ []) ≡ Some (e, w)) ↔ IsClosed (changes_of j steps ++ record { start = t; value = v } ∷ []) s e w) same
      (change_here p.closed (changes_of n steps) 0 n t v (changes_rise n [] 0 steps stands.lawful) (λ s e w. stands.closed n s e w) (open_at p.opened n) (sym (stands.opened n)) after s e w)
  changed t n v h m s e w false k =
      subst (λ o. (o ≡ Some (e, w)) ↔ IsClosed (changes_of m steps ++ []) s e w) (sym (change_else p.closed n m t s (open_at p.opened n) (eqb-false n m k)))
      (subst (λ l. (get p.closed (m ∷ s ∷ []) ≡ Some (e, w)) ↔ IsClosed l s e w) (sym (append-nil (changes_of m steps))) (stands.closed m s e w))

  opened_now : (t n : ℕ) (v : Value) → CanFollow p.paths p.built (Change t n v) → (m : ℕ) (b : Bool) → (n == m) ≡ b
      → open_at (slice_set p.opened n (Some (record { start = t; value = v }))) m ≡ last_of (changes_of m steps ++ (if b then record { start = t; value = v } ∷ [] else []))
  opened_now t n v h m true k =
      ap (open_at (slice_set p.opened n (Some (record { start = t; value = v })))) (sym (eqb-true n m k))
      ∙ (open_set p.opened n (record { start = t; value = v }) (omega (arith, h.1.1, kept.places)) ∙ sym (last_push None (changes_of m steps) (record { start = t; value = v })))
  opened_now t n v h m false k = open_else p.opened n m (record { start = t; value = v }) (eqb-false n m k) ∙ (stands.opened m ∙ ap last_of (sym (append-nil (changes_of m steps))))

  pub stands_taken : (step : Step) → CanFollow p.paths p.built step → Stands (steps ++ step ∷ []) (with_parts (taken p step) (count + 1) tree')
  stands_taken (Advance t) h = record {
    lawful = lawful (Advance t) h;
    paths = stands.paths ∙ sym (paths_both steps (Advance t ∷ []) ∙ append-nil (paths_of steps));
    closed = still_closed (Advance t) (λ n. refl);
    opened = λ n. stands.opened n ∙ ap last_of (sym (no_change (Advance t) n refl));
    count = counted (Advance t);
    built = sym (built_both 0 steps (Advance t ∷ []));
  }
  stands_taken (Add path) h = record {
    lawful = lawful (Add path) h;
    paths = ap (λ l. l ++ path ∷ []) stands.paths ∙ sym (paths_both steps (Add path ∷ []));
    closed = still_closed (Add path) (λ n. refl);
    opened = λ n. open_push p.opened n ∙ (stands.opened n ∙ ap last_of (sym (no_change (Add path) n refl)));
    count = counted (Add path);
    built = stands.built ∙ sym (built_both 0 steps (Add path ∷ []));
  }
  stands_taken (Change t n v) h = record {
    lawful = lawful (Change t n v) h;
    paths = stands.paths ∙ sym (paths_both steps (Change t n v ∷ []) ∙ append-nil (paths_of steps));
    closed = λ m s e w. subst (λ l. (get (closing p.closed n t (open_at p.opened n)) (m ∷ s ∷ []) ≡ Some (e, w)) ↔ IsClosed l s e w) (sym (changes_both m steps (Change t n v ∷ []))) (changed t n v h m s e w (n == m) refl);
    opened = λ m. opened_now t n v h m (n == m) refl ∙ ap last_of (sym (changes_both m steps (Change t n v ∷ [])));
    count = counted (Change t n v);
    built = stands.built ∙ sym (built_both 0 steps (Change t n v ∷ []));
  }
  stands_taken Finish h = record {
    lawful = lawful Finish h;
    paths = stands.paths ∙ sym (paths_both steps (Finish ∷ []) ∙ append-nil (paths_of steps));
    closed = still_closed Finish (λ n. refl);
    opened = λ n. stands.opened n ∙ ap last_of (sym (no_change Finish n refl));
    count = counted Finish;
    built = sym (built_both 0 steps (Finish ∷ []));
  }
