-- There is one list of stretches over a range.
use Rattle.std.proofs.Common.{◌≡◌, ◌⊎◌, inl, inr, ℕ, ◌<◌, ◌≤◌, List, [], ◌∷◌, refl, sym, ap, ◌∙◌, subst, arith}
use Rattle.std.specs.List.{AllByRecursion}
use Rattle.std.proofs.lemmas.Bool.{cases_order}
use Rattle.trace_types.specs.declared.path.Path.{Path as AttributePath}
use Rattle.trace_types.specs.declared.value.Value.{Value}
use Rattle.kernel_provider.specs.declared.step.Step.{Step}
use Rattle.trace_types.specs.declared.value.Value.TheVariants.{Null}
use Rattle.history_core.specs.declared.question.Answer.{Answer}
use Rattle.history_core.specs.declared.question.Answer.TheVariants.{State, NotYet}
use Rattle.history_core.specs.Answers.{answer_after}
use Rattle.range_query.specs.declared.stretch.Stretch.{Stretch}
use Rattle.range_query.specs.Stretches.{Tile, DifferFrom, NeighboursDiffer, AreStretches, AnswerEach, HaveOneAnswer}
use Rattle.range_query.proofs.Putting.{HasValue}
use Rattle.range_query.proofs.Ranging.{tile_le}

abbrev stretch : ℕ → ℕ → Value → Stretch
stretch from to value = record { from = from; to = to; value = value }

same_stretch : (s r : Stretch) → s.from ≡ r.from → s.to ≡ r.to → s.value ≡ r.value → s ≡ r
same_stretch s r a b c = ap (λ f. stretch f s.to s.value) a ∙ (ap (λ t. stretch r.from t s.value) b ∙ ap (λ v. stretch r.from r.to v) c)

-- neighbours that differ end where the value changes
no_earlier : (f : ℕ → Value) (s r : Stretch) (ss : List Stretch) (to : ℕ) → s.value ≡ r.value → Tile s.to ss to → DifferFrom s.value ss → AllByRecursion (HasValue f) ss → HasValue f r → r.from ≤ s.to → r.to ≤ to → s.to < r.to → ⊥
no_earlier f s r [] to v tile d a one low long lt = omega (arith, tile, long, lt)
no_earlier f s r (q ∷ ss) to v tile d a one low long lt = d.0 (v ∙ (sym (one.each s.to low lt) ∙ a.0.each s.to (omega (arith, tile.0)) (omega (arith, tile.0, tile.1))))

pub same_stretches : (f : ℕ → Value) (ss rs : List Stretch) (from to : ℕ) → Tile from ss to → Tile from rs to → NeighboursDiffer ss → NeighboursDiffer rs → AllByRecursion (HasValue f) ss → AllByRecursion (HasValue f) rs → ss ≡ rs
same_stretches f [] [] from to h g d e a b = refl
same_stretches f [] (r ∷ rs) from to h g d e a b = absurd (omega (arith, h, g.0, g.1, tile_le rs r.to to g.2))
same_stretches f (s ∷ ss) [] from to h g d e a b = absurd (omega (arith, g, h.0, h.1, tile_le ss s.to to h.2))
same_stretches f (s ∷ ss) (r ∷ rs) from to h g d e a b = by (cases_order s.to r.to) (λ same. same_stretches f ss rs s.to to h.2 (subst (λ t. Tile t rs to) (sym same) g.2) (tail ss s.value d) (tail rs r.value e) a.1 b.1)
  where
    tail : (qs : List Stretch) (v : Value) → DifferFrom v qs → NeighboursDiffer qs
    tail [] v d = tt
    tail (q ∷ qs) v d = d.1

    value : s.value ≡ r.value
    value = sym (a.0.each from (omega (arith, h.0)) (omega (arith, h.0, h.1))) ∙ b.0.each from (omega (arith, g.0)) (omega (arith, g.0, g.1))

    by : (s.to ≡ r.to) ⊎ ((s.to < r.to) ⊎ (r.to < s.to)) → (s.to ≡ r.to → ss ≡ rs) → s ∷ ss ≡ r ∷ rs
    by (inl same) rest =
        let first = same_stretch s r (h.0 ∙ sym g.0) same value in
        let others = rest same in
        cc
    by (inr (inl lt)) rest = absurd (no_earlier f s r ss to value h.2 d a.1 b.0 (omega (arith, h.0, h.1, g.0)) (tile_le rs r.to to g.2) lt)
    by (inr (inr lt)) rest = absurd (no_earlier f r s rs to (sym value) g.2 e b.1 a.0 (omega (arith, h.0, g.0, g.1)) (tile_le ss s.to to h.2) lt)

-- of one value at each instant there is one list of stretches
pub one_list : (f : ℕ → Value) (from to : ℕ) (ss rs : List Stretch) → AreStretches from to ss → AllByRecursion (HasValue f) ss → AreStretches from to rs → AllByRecursion (HasValue f) rs → ss ≡ rs
one_list f from to ss rs h a g b = by (cases_order from to)
  where
    by : (from ≡ to) ⊎ ((from < to) ⊎ (to < from)) → ss ≡ rs
    by (inl e) = h.none (omega (arith, e)) ∙ sym (g.none (omega (arith, e)))
    by (inr (inl lt)) = same_stretches f ss rs from to (h.tile lt) (g.tile lt) h.differ g.differ a b
    by (inr (inr lt)) = h.none (omega (arith, lt)) ∙ sym (g.none (omega (arith, lt)))

-- the value of an answer
abbrev valued : Answer → Value
valued (State v) = v
valued (NotYet built) = Null

have_values : (steps : List Step) (path : AttributePath) (ss : List Stretch) → AnswerEach steps path ss → AllByRecursion (HasValue (λ t. valued (answer_after steps t path))) ss
have_values steps path [] h = tt
have_values steps path (s ∷ ss) h = (record { each = λ t low high. ap valued (h.0.each t low high) }, have_values steps path ss h.1)

pub one_answer : HaveOneAnswer
one_answer from to steps path ss rs h a g b = one_list (λ t. valued (answer_after steps t path)) from to ss rs h (have_values steps path ss a) g (have_values steps path rs b)
