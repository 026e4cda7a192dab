-- What a history that stands for steps answers.
use Rattle.std.proofs.Common.{◌≡◌, ◌⊎◌, inl, inr, ◌↔◌, ℕ, ◌<◌, ◌≤◌, Bool, true, false, nat_le, MatchBool, List, [], ◌∷◌, Option, Some, None, refl, sym, ap, ◌∙◌, subst, arith}
use Rattle.std.specs.FinMap.{get}
use Rattle.std.proofs.lemmas.Bool.{leb-true, leb-false, lt-leb}
use Rattle.trace_types.specs.declared.path.Path.{Path as AttributePath}
use Rattle.trace_types.specs.declared.value.Value.{Value}
use Rattle.trace_types.specs.declared.value.Value.TheVariants.{Null}
use Rattle.attribute_tree.specs.Numbered.{number_among}
use Rattle.kernel_provider.specs.declared.step.Step.{Step}
use Rattle.history_core.specs.declared.closed.Since.{Since}
use Rattle.history_tree.specs.Records.{Content}
use Rattle.history_core.specs.declared.question.Answer.TheVariants.{State}
use Rattle.history_core.specs.Answers.{numbered_value, answer_after}
use Rattle.history_core.specs.Changes.{built_of, changes_of, last_value, last_of}
use Rattle.history_core.specs.Closed.{IsClosed}
use Rattle.history_core.specs.Intervals.{open_at, IsHeldValue, IsValueSince, IsValueIn}
use Rattle.history_core.specs.Stands.{HistoryModel, Stands}
use Rattle.history_core.proofs.Times.{Rises, changes_rise, no_last, last_stands, same_between, held_before}

module _ (closed : Content) (cs : List Since) (b n t : ℕ) (rise : Rises b cs) (exact : (s e : ℕ) (w : Value) → (get closed (n ∷ s ∷ []) ≡ Some (e, w)) ↔ IsClosed cs s e w) where
  -- an interval that holds the instant has the value of the last change
  found : (s e : ℕ) (v : Value) → get closed (n ∷ s ∷ []) ≡ Some (e, v) → s ≤ t → t ≤ e → v ≡ last_value Null t cs
  found s e v g early late =
      let is : IsClosed cs s e v = (exact s e v).0 g in
      sym is.value_is ∙ sym (same_between cs Null s t early (λ u k l. is.greatest u k (omega (arith, l, late))))

  -- where no interval holds it, there is no value
  missed : ((s e : ℕ) (v : Value) → get closed (n ∷ s ∷ []) ≡ Some (e, v) → s ≤ t → t ≤ e → ⊥) → (last_value Null t cs ≡ Null) ⊎ ((s e : ℕ) × IsClosed cs s e (last_value Null t cs) × (s ≤ t) × (t ≤ e)) → last_value Null t cs ≡ Null
  missed none (inl h) = h
  missed none (inr (s, e, is, early, late)) = absurd (none s e (last_value Null t cs) ((exact s e (last_value Null t cs)).1 is) early late)

  before : (v : Value) → IsHeldValue closed n t v → (last_value Null t cs ≡ Null) ⊎ ((s e : ℕ) × IsClosed cs s e (last_value Null t cs) × (s ≤ t) × (t ≤ e)) → v ≡ last_value Null t cs
  before v (inl (s, e, g, early, late)) h = found s e v g early late
  before v (inr (is, none)) h = is ∙ sym (missed none h)

  pub value_is : (o : Option Since) (v : Value) → last_of cs ≡ o → IsValueSince o closed n t v → v ≡ last_value Null t cs
  value_is None v e h = before v h (inl (ap (last_value Null t) (no_last cs e)))
  value_is (Some c) v e h = by (nat_le c.start t) refl h
    where
      by : (k : Bool) → nat_le c.start t ≡ k → MatchBool k (v ≡ c.value) (IsHeldValue closed n t v) → v ≡ last_value Null t cs
      by true k is = is ∙ sym (last_stands b cs c Null t rise e (leb-true c.start t k))
      by false k is = before v is (held_before cs c b t rise e (leb-false c.start t k))

module _ (h : HistoryModel) (steps : List Step) (stands : Stands steps h) where
  pub numbered : (n t : ℕ) (v : Value) → IsValueIn h.closed h.opened n t v → v ≡ last_value Null t (changes_of n steps)
  numbered n t v = value_is h.closed (changes_of n steps) 0 n t (changes_rise n [] 0 steps stands.lawful) (λ s e w. stands.closed n s e w) (open_at h.opened n) v (sym (stands.opened n))

  pub answered : (t : ℕ) (p : AttributePath) (o : Option ℕ) (v : Value) → t < h.built → number_among h.paths p ≡ o → v ≡ numbered_value o steps t → State v ≡ answer_after steps t p
  answered t p o v below is same =
      let early : nat_le (built_of steps) t ≡ false = subst (λ b. nat_le b t ≡ false) stands.built (lt-leb h.built t below) in
      rw early (ap State (same ∙ ap (λ k. numbered_value k steps t) (sym is ∙ ap (λ l. number_among l p) stands.paths)))
