-- The times of changes never fall, and the last change has the greatest.
use Rattle.std.proofs.Common.{◌≡◌, ◌⊎◌, inl, inr, ℕ, ◌-◌, ◌==◌, ◌<◌, ◌≤◌, Bool, true, false, if◌then◌else◌, nat_le, List, [], ◌∷◌, None, Some, refl, sym, ap, ◌∙◌, subst, arith}
use Rattle.std.proofs.lemmas.Bool.{leb-true, leb-false, le-leb, lt-leb}
use Rattle.trace_types.specs.declared.path.Path.{Path as AttributePath}
use Rattle.trace_types.specs.declared.value.Value.{Value}
use Rattle.trace_types.specs.declared.value.Value.TheVariants.{Null}
use Rattle.trace_types.specs.Same.{same_value}
use Rattle.trace_types.proofs.Same.{value_is, value_itself}
use Rattle.kernel_provider.specs.declared.step.Step.{Step}
use Rattle.kernel_provider.specs.declared.step.Step.TheVariants.{Advance, Add, Change, Finish}
use Rattle.history_core.specs.declared.closed.Since.{Since}
use Rattle.history_core.specs.Changes.{END, built_from, changes_of, last_value, last_from, last_of, IsTime}
use Rattle.history_core.specs.Closed.{IsClosed}
use Rattle.history_core.specs.Stands.{AreSteps}

-- the times begin at `least` or later, and never fall
abbrev pub Rises : ℕ → List Since → Type 0
Rises least [] = Unit {0}
Rises least (c ∷ cs) = (least ≤ c.start) × Rises c.start cs

pub rises_later : (a b : ℕ) (cs : List Since) → a ≤ b → Rises b cs → Rises a cs
rises_later a b [] h g = tt
rises_later a b (c ∷ cs) h g = (omega (arith, h, g.0), g.1)

pub changes_rise : (n : ℕ) (paths : List AttributePath) (built : ℕ) (s : List Step) → AreSteps paths built s → Rises built (changes_of n s)
changes_rise n paths built [] h = tt
changes_rise n paths built (Advance t ∷ s) h = rises_later built t _ (omega (arith, h.0.1.0)) (changes_rise n _ t s h.1)
changes_rise n paths built (Add p ∷ s) h = changes_rise n _ built s h.1
changes_rise n paths built (Change t m v ∷ s) h = by (m == n) (changes_rise n _ built s h.1)
  where
    by : (b : Bool) → Rises built (changes_of n s) → Rises built (if b then record { start = t; value = v } ∷ changes_of n s else changes_of n s)
    by true g = (omega (arith, h.0.1.0), subst (λ u. Rises u (changes_of n s)) (sym h.0.1.0) g)
    by false g = g
changes_rise n paths built (Finish ∷ s) h = rises_later built END _ (omega (arith, h.0.0)) (changes_rise n _ END s h.1)

pub built_grows : (paths : List AttributePath) (built : ℕ) (s : List Step) → AreSteps paths built s → built ≤ built_from built s
built_grows paths built [] h = omega arith
built_grows paths built (Advance t ∷ s) h = omega (arith, h.0.1.0, built_grows _ t s h.1)
built_grows paths built (Add p ∷ s) h = built_grows _ built s h.1
built_grows paths built (Change t m v ∷ s) h = built_grows _ built s h.1
built_grows paths built (Finish ∷ s) h = omega (arith, h.0.0, built_grows _ END s h.1)

pub times_built : (n : ℕ) (paths : List AttributePath) (built : ℕ) (s : List Step) (u : ℕ) → AreSteps paths built s → IsTime (changes_of n s) u → u ≤ built_from built s
times_built n paths built [] u h g = absurd g
times_built n paths built (Advance t ∷ s) u h g = times_built n _ t s u h.1 g
times_built n paths built (Add p ∷ s) u h g = times_built n _ built s u h.1 g
times_built n paths built (Change t m v ∷ s) u h g = by (m == n) g (times_built n _ built s u h.1)
  where
    by : (b : Bool) → IsTime (if b then record { start = t; value = v } ∷ changes_of n s else changes_of n s) u → (IsTime (changes_of n s) u → u ≤ built_from built s) → u ≤ built_from built s
    by true (inl e) rest = omega (arith, e, h.0.1.0, built_grows _ built s h.1)
    by true (inr g) rest = rest g
    by false g rest = rest g
times_built n paths built (Finish ∷ s) u h g = times_built n _ END s u h.1 g

pub from_least : (b : ℕ) (cs : List Since) (u : ℕ) → Rises b cs → IsTime cs u → b ≤ u
from_least b [] u h g = absurd g
from_least b (c ∷ cs) u h (inl e) = omega (arith, e, h.0)
from_least b (c ∷ cs) u h (inr g) = omega (arith, h.0, from_least c.start cs u h.1 g)

-- ---- the last change
last_some : (d : Since) (ds : List Since) → last_from (Some d) ds ≡ None → ⊥
last_some d [] h = absurd (cc)
last_some d (e ∷ es) h = last_some e es h

pub no_last : (cs : List Since) → last_of cs ≡ None → cs ≡ []
no_last [] h = refl
no_last (d ∷ ds) h = absurd (last_some d ds h)

is_time : (d : Since) (ds : List Since) (c : Since) → last_from (Some d) ds ≡ Some c → IsTime (d ∷ ds) c.start
is_time d [] c h = let same : d ≡ c = cc in inl (ap (λ (x : Since). x.start) same)
is_time d (e ∷ es) c h = inr (is_time e es c h)

pub last_is_time : (cs : List Since) (c : Since) → last_of cs ≡ Some c → IsTime cs c.start
last_is_time [] c h = absurd (cc)
last_is_time (d ∷ ds) c h = is_time d ds c h

is_greatest : (d : Since) (ds : List Since) (c : Since) (u : ℕ) → Rises d.start ds → last_from (Some d) ds ≡ Some c → IsTime (d ∷ ds) u → u ≤ c.start
is_greatest d [] c u r h (inl e) = let same : d ≡ c = cc in omega (arith, e, ap (λ (x : Since). x.start) same)
is_greatest d [] c u r h (inr g) = absurd g
is_greatest d (e ∷ es) c u r h (inl f) = omega (arith, f, r.0, is_greatest e es c e.start r.1 h (inl refl))
is_greatest d (e ∷ es) c u r h (inr g) = is_greatest e es c u r.1 h g

pub last_is_greatest : (b : ℕ) (cs : List Since) (c : Since) (u : ℕ) → Rises b cs → last_of cs ≡ Some c → IsTime cs u → u ≤ c.start
last_is_greatest b [] c u r h g = absurd g
last_is_greatest b (d ∷ ds) c u r h g = is_greatest d ds c u r.1 h g

stands_last : (d : Since) (ds : List Since) (c : Since) (v : Value) (t : ℕ) → Rises d.start ds → last_from (Some d) ds ≡ Some c → c.start ≤ t → last_value v t (d ∷ ds) ≡ c.value
stands_last d [] c v t r h g =
    let same : d ≡ c = cc in
    let on : nat_le d.start t ≡ true = le-leb d.start t (omega (arith, g, ap (λ (x : Since). x.start) same)) in
    rw on (ap (λ (x : Since). x.value) same)
stands_last d (e ∷ es) c v t r h g = stands_last e es c (if nat_le d.start t then d.value else v) t r.1 h g

pub last_stands : (b : ℕ) (cs : List Since) (c : Since) (v : Value) (t : ℕ) → Rises b cs → last_of cs ≡ Some c → c.start ≤ t → last_value v t cs ≡ c.value
last_stands b [] c v t r h g = absurd (cc)
last_stands b (d ∷ ds) c v t r h g = stands_last d ds c v t r.1 h g

-- ---- values between changes
pub none_yet : (b : ℕ) (cs : List Since) (v : Value) (t : ℕ) → Rises b cs → t < b → last_value v t cs ≡ v
none_yet b [] v t r h = refl
none_yet b (c ∷ cs) v t r h = rw (lt-leb c.start t (omega (arith, h, r.0))) (none_yet c.start cs v t r.1 (omega (arith, h, r.0)))

pub same_between : (cs : List Since) (v : Value) (s t : ℕ) → s ≤ t → ((u : ℕ) → IsTime cs u → u ≤ t → u ≤ s) → last_value v t cs ≡ last_value v s cs
same_between [] v s t h g = refl
same_between (c ∷ cs) v s t h g = rw same (same_between cs (if nat_le c.start s then c.value else v) s t h (λ u i. g u (inr i)))
  where
    by : (b : Bool) → nat_le c.start t ≡ b → b ≡ nat_le c.start s
    by true e = sym (le-leb c.start s (g c.start (inl refl) (leb-true c.start t e)))
    by false e = let later : t < c.start = leb-false c.start t e in sym (lt-leb c.start s (omega (arith, h, later)))

    same : nat_le c.start t ≡ nat_le c.start s
    same = by (nat_le c.start t) refl

restart : (e : Since) (es : List Since) (v w : Value) (s : ℕ) → e.start ≤ s → last_value v s (e ∷ es) ≡ last_value w s (e ∷ es)
restart e es v w s h = rw (le-leb e.start s h) refl

-- before the last change, the value is none or that of a closed interval
held : (d : Since) (ds : List Since) (c : Since) (t : ℕ) → Rises d.start ds → last_from (Some d) ds ≡ Some c → t < c.start → d.start ≤ t
    → (last_value d.value t ds ≡ Null) ⊎ ((s e : ℕ) × IsClosed (d ∷ ds) s e (last_value d.value t ds) × (s ≤ t) × (t ≤ e))
held d [] c t r h late early = let same : d ≡ c = cc in absurd (omega (arith, late, early, ap (λ (x : Since). x.start) same))
held d (e ∷ es) c t r h late early = by (nat_le e.start t) refl (held e es c t r.1 h late)
  where
    more : (w : Value) → (w ≡ Null) ⊎ ((s u : ℕ) × IsClosed (e ∷ es) s u w × (s ≤ t) × (t ≤ u)) → (w ≡ Null) ⊎ ((s u : ℕ) × IsClosed (d ∷ e ∷ es) s u w × (s ≤ t) × (t ≤ u))
    more w (inl n) = inl n
    more w (inr (s, u, i, a, b)) =
        let least : e.start ≤ s = from_least e.start (e ∷ es) s (omega arith, r.1) i.begins in
        inr (
          s,
          u,
          record {
            begins = inr i.begins;
            ends = inr i.ends;
            order = i.order;
            greatest = λ k g l. both k g l least i.greatest;
            value_is = restart e es _ Null s least ∙ i.value_is;
            not_null = i.not_null;
          },
          a,
          b,
        )
      where
        both : (k : ℕ) → IsTime (d ∷ e ∷ es) k → k ≤ u → e.start ≤ s → ((j : ℕ) → IsTime (e ∷ es) j → j ≤ u → j ≤ s) → k ≤ s
        both k (inl f) l least g = omega (arith, f, r.0, least)
        both k (inr f) l least g = g k f l

    first : (w : Value) → d.value ≡ w → t < e.start → (b : Bool) → same_value w Null ≡ b → (w ≡ Null) ⊎ ((s u : ℕ) × IsClosed (d ∷ e ∷ es) s u w × (s ≤ t) × (t ≤ u))
    first w f later true k = inl (value_is w Null k)
    first w f later false k = inr (
      d.start,
      e.start - 1,
      record {
        begins = inl refl;
        ends = inr (inl (omega (arith, later)));
        order = omega (arith, early, later);
        greatest = λ j g l. one j g l;
        value_is = rw (le-leb d.start d.start (omega arith)) (none_yet e.start (e ∷ es) d.value d.start (omega arith, r.1) (omega (arith, early, later)) ∙ f);
        not_null = λ n. not_null n;
      },
      early,
      omega (arith, later),
    )
      where
        one : (j : ℕ) → IsTime (d ∷ e ∷ es) j → j ≤ e.start - 1 → j ≤ d.start
        one j (inl g) l = omega (arith, g)
        one j (inr g) l = let least : e.start ≤ j = from_least e.start (e ∷ es) j (omega arith, r.1) g in absurd (omega (arith, l, least, later))

        not_null : w ≡ Null → ⊥
        not_null n = let yes : same_value w Null ≡ true = subst (λ x. same_value w x ≡ true) n (value_itself w) in absurd (cc)

    by : (b : Bool) → nat_le e.start t ≡ b
        → (e.start ≤ t → (last_value e.value t es ≡ Null) ⊎ ((s u : ℕ) × IsClosed (e ∷ es) s u (last_value e.value t es) × (s ≤ t) × (t ≤ u)))
        → (last_value (if b then e.value else d.value) t es ≡ Null) ⊎ ((s u : ℕ) × IsClosed (d ∷ e ∷ es) s u (last_value (if b then e.value else d.value) t es) × (s ≤ t) × (t ≤ u))
    by true k rest = more _ (rest (leb-true e.start t k))
    by false k rest =
        let later : t < e.start = leb-false e.start t k in
        first _ (sym (none_yet e.start es d.value t r.1 later)) later _ refl

pub held_before : (cs : List Since) (c : Since) (b t : ℕ) → Rises b cs → last_of cs ≡ Some c → t < c.start
    → (last_value Null t cs ≡ Null) ⊎ ((s e : ℕ) × IsClosed cs s e (last_value Null t cs) × (s ≤ t) × (t ≤ e))
held_before [] c b t r h late = inl refl
held_before (d ∷ ds) c b t r h late = by (nat_le d.start t) refl
  where
    by : (k : Bool) → nat_le d.start t ≡ k → (last_value (if k then d.value else Null) t ds ≡ Null) ⊎ ((s e : ℕ) × IsClosed (d ∷ ds) s e (last_value (if k then d.value else Null) t ds) × (s ≤ t) × (t ≤ e))
    by true k = held d ds c t r.1 h late (leb-true d.start t k)
    by false k = let later : t < d.start = leb-false d.start t k in inl (none_yet d.start ds Null t r.1 later)
