-- The marks of one more event.
use Rattle.std.proofs.Common.{◌≡◌, ℕ, zero, suc, ◌+◌, ◌<◌, List, [], ◌∷◌, length, get_or, take, None, Some, refl, ap, ◌∙◌, arith, add-one}
use Rattle.trace_types.specs.declared.event.Event.{Event}
use Rattle.report_views.specs.Report.{lost_of, mark_count, mark_sum}

count_suc : (es : List Event) (i : ℕ) (d : Event) → i < length es → mark_count (take (suc i) es) ≡ mark_count (take i es) + mark_count (get_or es i d ∷ [])
count_suc [] i d h = absurd (omega (arith, h))
count_suc (e ∷ es) zero d h = omega arith
count_suc (e ∷ es) (suc i) d h = omega (arith, count_suc es i d (omega (arith, h)))

sum_suc : (es : List Event) (i : ℕ) (d : Event) → i < length es → mark_sum (take (suc i) es) ≡ mark_sum (take i es) + mark_sum (get_or es i d ∷ [])
sum_suc [] i d h = absurd (omega (arith, h))
sum_suc (e ∷ es) zero d h = omega arith
sum_suc (e ∷ es) (suc i) d h = omega (arith, sum_suc es i d (omega (arith, h)))

pub count_more : (es : List Event) (i : ℕ) (d : Event) → i < length es → mark_count (take (i + 1) es) ≡ mark_count (take i es) + mark_count (get_or es i d ∷ [])
count_more es i d h = ap (λ n. mark_count (take n es)) (add-one i) ∙ count_suc es i d h

pub sum_more : (es : List Event) (i : ℕ) (d : Event) → i < length es → mark_sum (take (i + 1) es) ≡ mark_sum (take i es) + mark_sum (get_or es i d ∷ [])
sum_more es i d h = ap (λ n. mark_sum (take n es)) (add-one i) ∙ sum_suc es i d h

-- of one event
pub one_none : (e : Event) → lost_of e.kind ≡ None → (mark_count (e ∷ []) ≡ 0) × (mark_sum (e ∷ []) ≡ 0)
one_none e is = rw is (refl, refl)

pub one_some : (e : Event) (n : ℕ) → lost_of e.kind ≡ Some n → (mark_count (e ∷ []) ≡ 1) × (mark_sum (e ∷ []) ≡ n)
one_some e n is = rw is (refl, (omega arith))
