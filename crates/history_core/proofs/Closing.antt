-- What one more change does to the closed intervals of a number.
use Rattle.std.proofs.Common.{◌≡◌, ◌≢◌, ◌⊎◌, inl, inr, ⊎_elim, ℕ, ◌+◌, ◌-◌, ◌<◌, ◌≤◌, Bool, true, false, nat_le, List, [], ◌∷◌, ◌++◌, Some, refl, sym, ◌∙◌, subst, arith}
use Rattle.std.proofs.lemmas.Bool.{lt-leb, leb-true, leb-false}
use Rattle.trace_types.specs.declared.value.Value.{Value}
use Rattle.trace_types.specs.declared.value.Value.TheVariants.{Null}
use Rattle.history_core.specs.declared.closed.Since.{Since}
use Rattle.history_core.specs.Changes.{last_value, last_of, IsTime}
use Rattle.history_core.specs.Closed.{IsClosed}
use Rattle.history_core.proofs.Pushed.{last_value_push, time_old, time_new, time_split}
use Rattle.history_core.proofs.Times.{Rises, last_is_time, last_is_greatest, last_stands}

-- a first change closes nothing
pub none_first : (x : Since) (s e : ℕ) (v : Value) → IsClosed (x ∷ []) s e v → ⊥
none_first x s e v h = absurd (omega (arith, only s h.begins, only (e + 1) h.ends, h.order))
  where
    only : (u : ℕ) → IsTime (x ∷ []) u → x.start ≡ u
    only u (inl f) = f
    only u (inr f) = absurd f

-- no change closes anything without one
pub none_empty : (s e : ℕ) (v : Value) → IsClosed [] s e v → ⊥
none_empty s e v h = h.begins

module _ (cs : List Since) (c : Since) (b : ℕ) (rise : Rises b cs) (last : last_of cs ≡ Some c) where
  within : (u : ℕ) → IsTime cs u → u ≤ c.start
  within u i = last_is_greatest b cs c u rise last i

  -- nothing starts at the last change
  pub none_open : (e : ℕ) (v : Value) → IsClosed cs c.start e v → ⊥
  none_open e v h = absurd (omega (arith, within (e + 1) h.ends, h.order))

  module _ (x : Since) (after : c.start ≤ x.start) where
    later_value : (s : ℕ) → s < x.start → last_value Null s (cs ++ x ∷ []) ≡ last_value Null s cs
    later_value s h = last_value_push Null s cs x ∙ rw (lt-leb x.start s h) refl

    -- what was closed stays closed
    pub stays : (s e : ℕ) (v : Value) → IsClosed cs s e v → IsClosed (cs ++ x ∷ []) s e v
    stays s e v h =
        let below : e + 1 ≤ c.start = within (e + 1) h.ends in
        record {
          begins = time_old cs (x ∷ []) s h.begins;
          ends = time_old cs (x ∷ []) (e + 1) h.ends;
          order = h.order;
          greatest = λ u i l. ⊎_elim (λ old. h.greatest u old l) (λ same. absurd (omega (arith, same, l, below, after))) (time_split cs x u i);
          value_is = later_value s (omega (arith, h.order, below, after)) ∙ h.value_is;
          not_null = h.not_null;
        }

    -- the value before is closed, unless it is none or had no time
    pub closes : c.start < x.start → c.value ≢ Null → IsClosed (cs ++ x ∷ []) c.start (x.start - 1) c.value
    closes early some = record {
      begins = time_old cs (x ∷ []) c.start (last_is_time cs c last);
      ends = subst (λ u. IsTime (cs ++ x ∷ []) u) (omega (arith, early)) (time_new cs x);
      order = omega (arith, early);
      greatest = λ u i l. ⊎_elim (λ old. within u old) (λ same. absurd (omega (arith, same, l, early))) (time_split cs x u i);
      value_is = later_value c.start early ∙ last_stands b cs c Null c.start rise last (omega arith);
      not_null = some;
    }

    -- and nothing else
    pub only : (s e : ℕ) (v : Value) → IsClosed (cs ++ x ∷ []) s e v → IsClosed cs s e v ⊎ ((c.start < x.start) × (s ≡ c.start) × (e ≡ x.start - 1) × (v ≡ c.value) × (c.value ≢ Null))
    only s e v h = by (time_split cs x (e + 1) h.ends) (time_split cs x s h.begins)
      where
        old : IsTime cs (e + 1) → IsTime cs s → IsClosed cs s e v
        old g f = record {
          begins = f;
          ends = g;
          order = h.order;
          greatest = λ u i l. h.greatest u (time_old cs (x ∷ []) u i) l;
          value_is = sym (later_value s (omega (arith, h.order, within (e + 1) g, after))) ∙ h.value_is;
          not_null = h.not_null;
        }

        new : x.start ≡ e + 1 → IsTime cs s → (k : Bool) → nat_le c.start e ≡ k → IsClosed cs s e v ⊎ ((c.start < x.start) × (s ≡ c.start) × (e ≡ x.start - 1) × (v ≡ c.value) × (c.value ≢ Null))
        new g f true k =
            let early : c.start ≤ e = leb-true c.start e k in
            let same : s ≡ c.start = omega (arith, within s f, h.greatest c.start (time_old cs (x ∷ []) c.start (last_is_time cs c last)) early) in
            let value : v ≡ c.value = sym h.value_is ∙ (later_value s (omega (arith, h.order, g)) ∙ last_stands b cs c Null s rise last (omega (arith, same))) in
            inr (omega (arith, early, g), same, omega (arith, g), value, λ n. h.not_null (value ∙ n))
        new g f false k =
            let late : e < c.start = leb-false c.start e k in
            inl (old (subst (λ u. IsTime cs u) (omega (arith, late, after, g)) (last_is_time cs c last)) f)

        by : IsTime cs (e + 1) ⊎ (x.start ≡ e + 1) → IsTime cs s ⊎ (x.start ≡ s) → IsClosed cs s e v ⊎ ((c.start < x.start) × (s ≡ c.start) × (e ≡ x.start - 1) × (v ≡ c.value) × (c.value ≢ Null))
        by (inl g) (inl f) = inl (old g f)
        by (inl g) (inr f) = absurd (omega (arith, within (e + 1) g, f, h.order, after))
        by (inr g) (inl f) = new g f _ refl
        by (inr g) (inr f) = absurd (omega (arith, g, f, h.order))
