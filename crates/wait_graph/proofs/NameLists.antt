-- The names that a set holds.
use Rattle.std.proofs.Common.{◌≡◌, ◌∙◌, ◌⊎◌, ◌↔◌, inl, inr, ⊎_elim, ℕ, suc, ◌+◌, ◌≤◌, Bool, true, false, true≢false, ◌||◌, if◌then◌else◌, List, [], ◌∷◌, ◌++◌, Option, None, Some, Contains, IsTrue, length, slice_get, refl, sym, ap, subst, nat_eq, eq-eqb, arith, rules}
use Rattle.std.specs.List.{list_any}
use Rattle.std.proofs.lemmas.List.Folds.{list_any-append, list_any_at}
use Rattle.std.proofs.lemmas.Bool.{eqb-true}
use Rattle.std.proofs.lemmas.Option.{slice_get_within}
use Rattle.indexmap.specs.IndexSet.{insert_key}
use Rattle.trace_types.specs.declared.event.Merged.{Merged}
use Rattle.trace_types.specs.declared.event.KernelEvent.{KernelEvent}
use Rattle.trace_types.specs.declared.event.KernelEvent.TheVariants.{Switch, Wakeup, WakeupNew, Waking, Fork, Exit, Free, Migrate, IrqIn, IrqOut, SoftIn, SoftOut, Process, CallIn, CallOut, Send, Receive, DiskIssue, DiskDone, Lost, Other}
use Rattle.wait_graph.specs.declared.named.ThreadName.{ThreadName}
use Rattle.wait_graph.specs.Changes.{same_thread}
use Rattle.wait_graph.specs.Named.{is_named_by, IsNamed}
use Rattle.wait_graph.specs.Names.{names_of, is_held, NotesName, NotesNames, IsNamedBelow}
use native.Mathlib.Decide.{ℕ_discrete}
use mathlib.Core.Logic.{dite}

thread_is : (k l : ThreadName) → same_thread k l ≡ true → k ≡ l
thread_is k l h = search rules

thread_itself : (k : ThreadName) → same_thread k k ≡ true
thread_itself k = search rules

or_true : (a b : Bool) → (a || b) ≡ true → (a ≡ true) ⊎ (b ≡ true)
or_true true b e = inl refl
or_true false b e = inr e

or_left : (a b : Bool) → a ≡ true → (a || b) ≡ true
or_left true b e = refl
or_left false b e = absurd (true≢false (sym e))

or_right : (a b : Bool) → b ≡ true → (a || b) ≡ true
or_right true b e = refl
or_right false b e = e

pub note_none : (host : ℕ) (names : List ThreadName) → NotesName host None names names
note_none host names h t = ((λ e. inl e), (λ s. ⊎_elim (λ e. e) (λ q. absurd (let n = q.1 in none_some n)) s))
  where
    none_some : None ≡ Some t → ⊥
    none_some e = cc

pub note_one : (host tid : ℕ) (names new : List ThreadName) → new ≡ insert_key same_thread names (record { host = host; tid = tid }) → NotesName host (Some tid) names new
note_one host tid names new is h t = subst (λ l. (is_held l h t ≡ true) ↔ ((is_held names h t ≡ true) ⊎ ((host ≡ h) × (Some tid ≡ Some t)))) (sym is) (by (list_any (same_thread (record { host = host; tid = tid })) names) refl)
  where
    same_tid : Some tid ≡ Some t → tid ≡ t
    same_tid e = cc

    by : (b : Bool) → list_any (same_thread (record { host = host; tid = tid })) names ≡ b
        → (is_held (if b then names else names ++ record { host = host; tid = tid } ∷ []) h t ≡ true) ↔ ((is_held names h t ≡ true) ⊎ ((host ≡ h) × (Some tid ≡ Some t)))
    by true e = ((λ q. inl q), (λ s. ⊎_elim (λ q. q) (λ q. subst (λ n. list_any (same_thread (record { host = h; tid = n })) names ≡ true) (same_tid q.1) (subst (λ n. list_any (same_thread (record { host = n; tid = tid })) names ≡ true) q.0 e)) s))
    by false e = (
      (λ q. ⊎_elim (λ a. inl a) (λ b. inr (⊎_elim
          (λ x. let k = thread_is (record { host = h; tid = t }) (record { host = host; tid = tid }) x in (sym (ap (λ (n : ThreadName). n.host) k), ap Some (sym (ap (λ (n : ThreadName). n.tid) k))))
          (λ x. absurd (true≢false (sym x))) (or_true _ false b)))
          (or_true _ _ (sym (list_any-append (same_thread (record { host = h; tid = t })) names (record { host = host; tid = tid } ∷ [])) ∙ q))),
      (λ s. list_any-append (same_thread (record { host = h; tid = t })) names (record { host = host; tid = tid } ∷ []) ∙ ⊎_elim (λ a. or_left _ _ a)
          (λ q. or_right (is_held names h t) _ (or_left _ false (subst (λ n. same_thread (record { host = h; tid = n }) (record { host = host; tid = tid }) ≡ true) (same_tid q.1) (subst (λ n. same_thread (record { host = n; tid = tid }) (record { host = host; tid = tid }) ≡ true) q.0 (thread_itself (record { host = host; tid = tid })))))) s),
    )

-- an event names what stands in its fields
abbrev Names : KernelEvent → ℕ → Type 0
Names kind t = IsTrue (is_named_by t kind) ↔ (((names_of kind).0 ≡ Some t) ⊎ ((names_of kind).1 ≡ Some t))

some_is : (a t : ℕ) → Some a ≡ Some t → a ≡ t
some_is a t e = cc

none_is : (t : ℕ) → None ≡ Some t → ⊥
none_is t e = cc

one_name : (a t : ℕ) → (nat_eq a t ≡ true) ↔ ((Some a ≡ Some t) ⊎ (None ≡ Some t))
one_name a t = ((λ e. inl (ap Some (eqb-true a t e))), (λ s. ⊎_elim (λ e. eq-eqb a t (some_is a t e)) (λ e. absurd (none_is t e)) s))

two_names : (a b t : ℕ) → ((nat_eq a t || nat_eq b t) ≡ true) ↔ ((Some a ≡ Some t) ⊎ (Some b ≡ Some t))
two_names a b t = (
  (λ e. ⊎_elim (λ x. inl (ap Some (eqb-true a t x))) (λ x. inr (ap Some (eqb-true b t x))) (or_true (nat_eq a t) (nat_eq b t) e)),
  (λ s. ⊎_elim (λ e. or_left (nat_eq a t) (nat_eq b t) (eq-eqb a t (some_is a t e))) (λ e. or_right (nat_eq a t) (nat_eq b t) (eq-eqb b t (some_is b t e))) s),
)

no_name : (t : ℕ) → (false ≡ true) ↔ ((None ≡ Some t) ⊎ (None ≡ Some t))
no_name t = ((λ e. absurd (true≢false (sym e))), (λ s. ⊎_elim (λ e. absurd (none_is t e)) (λ e. absurd (none_is t e)) s))

names : (kind : KernelEvent) (t : ℕ) → Names kind t
names (Switch prev_state prev_tid next_tid prev_prio next_prio prev_comm next_comm) t = two_names prev_tid next_tid t
names (Wakeup woken comm prio target_cpu) t = one_name woken t
names (WakeupNew woken comm prio target_cpu) t = one_name woken t
names (Waking woken comm prio target_cpu) t = one_name woken t
names (Fork parent_tid child_tid child_comm) t = two_names parent_tid child_tid t
names (Exit ended) t = one_name ended t
names (Free freed) t = one_name freed t
names (Migrate moved dest_cpu) t = one_name moved t
names (Process found ppid name status) t = two_names found ppid t
names (IrqIn irq) t = no_name t
names (IrqOut irq) t = no_name t
names (SoftIn vec) t = no_name t
names (SoftOut vec) t = no_name t
names (CallIn name) t = no_name t
names (CallOut name) t = no_name t
names (Send key) t = no_name t
names (Receive key) t = no_name t
names (DiskIssue sector dev nr_sector) t = no_name t
names (DiskDone sector dev nr_sector) t = no_name t
names (Lost events gap) t = no_name t
names (Other name) t = no_name t

pub note_both : (host : ℕ) (kind : KernelEvent) (pair : Option ℕ × Option ℕ) (old middle new : List ThreadName) → pair ≡ names_of kind → NotesName host pair.0 old middle → NotesName host pair.1 middle new → NotesNames host kind old new
note_both host kind pair old middle new is one two h t = (
  (λ e. ⊎_elim (λ m. ⊎_elim (λ o. inl o) (λ q. inr (q.0, (names kind t).1 (inl (sym (ap (λ (x : Option ℕ × Option ℕ). x.0) is) ∙ q.1)))) ((one h t).0 m))
      (λ q. inr (q.0, (names kind t).1 (inr (sym (ap (λ (x : Option ℕ × Option ℕ). x.1) is) ∙ q.1)))) ((two h t).0 e)),
  (λ s. ⊎_elim (λ o. (two h t).1 (inl ((one h t).1 (inl o))))
      (λ q. ⊎_elim (λ f. (two h t).1 (inl ((one h t).1 (inr (q.0, ap (λ (x : Option ℕ × Option ℕ). x.0) is ∙ f)))))
      (λ f. (two h t).1 (inr (q.0, ap (λ (x : Option ℕ × Option ℕ). x.1) is ∙ f))) ((names kind t).0 q.1)) s),
)

-- what the test finds stands in the list
contains : (names : List ThreadName) (k : ThreadName) → list_any (same_thread k) names ≡ true → Contains names k
contains [] k e = absurd (true≢false (sym e))
contains (n ∷ ns) k e = ⊎_elim (λ x. (0, omega arith, sym (thread_is k n x))) (λ x. let c = contains ns k x in let lt = c.1 in (suc c.0, omega (arith, lt), c.2)) (or_true (same_thread k n) _ e)

pub held_is : (names : List ThreadName) (k : ThreadName) → (list_any (same_thread k) names ≡ true) ↔ Contains names k
held_is names k = ((λ e. contains names k e), (λ c. list_any_at (same_thread k) names c.0 k c.1 (subst (λ l. same_thread k l ≡ true) (sym c.2) (thread_itself k))))

module _ (merged : List Merged) where
  pub none_named : (names : List ThreadName) → names ≡ [] → (h t : ℕ) → (is_held names h t ≡ true) ↔ IsNamedBelow merged 0 h t
  none_named names is h t = ((λ e. absurd (true≢false (sym e ∙ ap (λ l. is_held l h t) is))), (λ n. let b = n.before in absurd (omega (arith, b))))

  pub more_named : (place : ℕ) (e : Merged) (old new : List ThreadName) → slice_get merged place ≡ Some e → NotesNames e.event.host e.event.kind old new → ((h t : ℕ) → (is_held old h t ≡ true) ↔ IsNamedBelow merged place h t)
      → (h t : ℕ) → (is_held new h t ≡ true) ↔ IsNamedBelow merged (place + 1) h t
  more_named place e old new there note before h t = (
    (λ q. ⊎_elim (λ o. let n = (before h t).0 o in let b = n.before in record { place = n.place; event = n.event; there = n.there; before = omega (arith, b); of_host = n.of_host; by = n.by })
        (λ r. record { place = place; event = e; there = there; before = omega arith; of_host = r.0; by = r.1 }) ((note h t).0 q)),
    (λ n. (note h t).1 (dite (ℕ_discrete n.place place)
        (λ q. let same = one_event n.event (subst (λ i. slice_get merged i ≡ Some n.event) q n.there) in
        inr (subst (λ (x : Merged). x.event.host ≡ h) same n.of_host, subst (λ (x : Merged). IsTrue (is_named_by t x.event.kind)) same n.by))
        (λ ne. let b = n.before in inl ((before h t).1 (record { place = n.place; event = n.event; there = n.there; before = omega (arith, b, ne); of_host = n.of_host; by = n.by }))))),
  )
    where
      one_event : (x : Merged) → slice_get merged place ≡ Some x → x ≡ e
      one_event x at = cc

  pub all_named : (names : List ThreadName) (i : ℕ) → length merged ≤ i → ((h t : ℕ) → (is_held names h t ≡ true) ↔ IsNamedBelow merged i h t) → (h t : ℕ) → Contains names (record { host = h; tid = t }) ↔ IsNamed merged h t
  all_named names i all are h t = (
    (λ c. let n = (are h t).0 (list_any_at (same_thread (record { host = h; tid = t })) names c.0 (record { host = h; tid = t }) c.1 (subst (λ k. same_thread (record { host = h; tid = t }) k ≡ true) (sym c.2) (thread_itself (record { host = h; tid = t })))) in
        record { place = n.place; event = n.event; there = n.there; of_host = n.of_host; by = n.by }),
    (λ n. contains names (record { host = h; tid = t }) ((are h t).1 (record { place = n.place; event = n.event; there = n.there; before = (let w = slice_get_within merged n.place n.event n.there in omega (arith, w, all)); of_host = n.of_host; by = n.by }))),
  )

pub names_found : (b : Bool) (names : List ThreadName) (k : ThreadName) → b ≡ list_any (same_thread k) names → IsTrue b ↔ Contains names k
names_found b names k is = ((λ e. (held_is names k).0 (sym is ∙ e)), (λ c. is ∙ (held_is names k).1 c))
