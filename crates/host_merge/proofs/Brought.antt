-- Lists that are brought to another clock keep their order, and tests on the events themselves.
use Rattle.std.proofs.Common.{◌≡◌, ℕ, Bool, true, false, cond, List, [], ◌∷◌, map, filter, refl, sym, ap₂, subst}
use Rattle.clock_fraction.specs.ClockMap.{IsMapAt}
use Rattle.clock_fraction.specs.declared.pair_map.PairMap.{PairMap}
use Rattle.clock_fraction.proofs.Means.{maps_rise}
use Rattle.stable_sort.proofs.Unique.{InOrder, NoneBelow}
use Rattle.trace_types.specs.declared.event.Event.{Event}
use Rattle.trace_types.specs.declared.event.Merged.{Merged}
use Rattle.host_merge.specs.Merge.{AreBrought}

abbrev pub key_of : Merged → ℕ
key_of m = m.key

abbrev pub event_of : Merged → Event
event_of m = m.event

brought_above : (m : PairMap) (x : Merged) (t : ℕ) (xs ys : List Merged) → IsMapAt m x.key t → NoneBelow key_of x.key xs → AreBrought m xs ys → NoneBelow key_of t ys
brought_above m x t [] [] k a b = tt
brought_above m x t [] (y ∷ ys) k a b = absurd b
brought_above m x t (z ∷ xs) [] k a b = absurd b
brought_above m x t (z ∷ xs) (y ∷ ys) k a b = (maps_rise m x.key z.key t y.key a.0 k b.1, brought_above m x t xs ys k a.1 b.2)

pub brought_order : (m : PairMap) (xs ys : List Merged) → AreBrought m xs ys → InOrder key_of xs → InOrder key_of ys
brought_order m [] [] b a = tt
brought_order m [] (y ∷ ys) b a = absurd b
brought_order m (x ∷ xs) [] b a = absurd b
brought_order m (x ∷ xs) (y ∷ ys) b a = (brought_above m x y.key xs ys b.1 a.0 b.2, brought_order m xs ys b.2 a.1)

pub brought_events : (m : PairMap) (xs ys : List Merged) → AreBrought m xs ys → map event_of ys ≡ map event_of xs
brought_events m [] [] b = refl
brought_events m [] (y ∷ ys) b = absurd b
brought_events m (x ∷ xs) [] b = absurd b
brought_events m (x ∷ xs) (y ∷ ys) b = ap₂ (λ e es. e ∷ es) b.0 (brought_events m xs ys b.2)

pub brought_filter : (q : Event → Bool) (m : PairMap) (xs ys : List Merged) → AreBrought m xs ys → AreBrought m (filter (λ z. q z.event) xs) (filter (λ z. q z.event) ys)
brought_filter q m [] [] b = tt
brought_filter q m [] (y ∷ ys) b = absurd b
brought_filter q m (x ∷ xs) [] b = absurd b
brought_filter q m (x ∷ xs) (y ∷ ys) b =
    subst (λ e. AreBrought m (cond (q x.event) (x ∷ filter (λ z. q z.event) xs) (filter (λ z. q z.event) xs)) (cond (q e) (y ∷ filter (λ z. q z.event) ys) (filter (λ z. q z.event) ys))) (sym b.0)
    (by (q x.event) (brought_filter q m xs ys b.2))
  where
    by : (c : Bool) → AreBrought m (filter (λ z. q z.event) xs) (filter (λ z. q z.event) ys) → AreBrought m (cond c (x ∷ filter (λ z. q z.event) xs) (filter (λ z. q z.event) xs)) (cond c (y ∷ filter (λ z. q z.event) ys) (filter (λ z. q z.event) ys))
    by true rest = (b.0, b.1, rest)
    by false rest = rest

pub none_brought : (m : PairMap) (xs ys : List Merged) → AreBrought m xs ys → xs ≡ [] → ys ≡ []
none_brought m [] [] b e = refl
none_brought m [] (y ∷ ys) b e = absurd b
none_brought m (x ∷ xs) ys b e = absurd (cc)
