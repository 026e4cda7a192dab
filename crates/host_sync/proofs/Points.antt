-- Points are told by their times, and lines between the same points take a time to one other.
use Rattle.std.proofs.Common.{◌≡◌, ℕ, ℤ, pos, ◌<◌, ◌-◌, ◌^◌, List, [], ◌∷◌, map, refl, ap, ap₂, subst, arith}
use Rattle.std.specs.Int.{int_max, int_min}
use Rattle.std.proofs.lemmas.Int.{ints, clamps}
use denote.Struct.Props.{props}
use Rattle.clock_fraction.specs.ClockMap.{IsHalf, IsMapAt}
use Rattle.clock_fraction.specs.Fractions.{IsSame}
use Rattle.clock_fraction.specs.declared.pair_map.PairMap.{PairMap}
use Rattle.hull_lines.specs.declared.point.ClockPoint.{ClockPoint}
use Rattle.hull_lines.specs.Outcomes.{IsMapOf}
use Rattle.hull_lines.proofs.OneLine.{flat_heights, flat_slopes, steep_heights, steep_slopes}
use Rattle.host_tree.specs.Points.{times_of}

made : (x y : ℕ) → x < 2 ^ 62 → y < 2 ^ 62 → ClockPoint
made x y a c = record { x = x; y = y; x_below = a; y_below = c }

same_made : (x y : ℕ) (a b : x < 2 ^ 62) (c d : y < 2 ^ 62) → made x y a c ≡ made x y b d
unfolding made
same_made x y a b c d =
    let x_prop : IsProp (x < 2 ^ 62) = hlevel props in
    let y_prop : IsProp (y < 2 ^ 62) = hlevel props in
    λ i. record { x = x; y = y; x_below = x_prop a b i; y_below = y_prop c d i }

one_made : (x y u v : ℕ) (a : x < 2 ^ 62) (c : y < 2 ^ 62) (b : u < 2 ^ 62) (d : v < 2 ^ 62) → x ≡ u → y ≡ v → made x y a c ≡ made u v b d
one_made x y u v a c b d ex ey =
    subst (λ w. (e : w < 2 ^ 62) → made x y a c ≡ made w v e d) ex (λ e. subst (λ w. (f : w < 2 ^ 62) → made x y a c ≡ made x w e f) ey (λ f. same_made x y a e c f) d) b

one_point : (p q : ClockPoint) → p.x ≡ q.x → p.y ≡ q.y → p ≡ q
unfolding made
one_point p q ex ey = one_made p.x p.y q.x q.y p.x_below p.y_below q.x_below q.y_below ex ey

pub one_list : (ps qs : List ClockPoint) → map times_of ps ≡ map times_of qs → ps ≡ qs
one_list [] [] e = refl
one_list [] (q ∷ qs) e = absurd (cc)
one_list (p ∷ ps) [] e = absurd (cc)
one_list (p ∷ ps) (q ∷ qs) e =
    let first : times_of p ≡ times_of q = cc in
    let rest : map times_of ps ≡ map times_of qs = cc in
    ap₂ (λ z zs. z ∷ zs) (one_point p q (ap (λ t. t.0) first) (ap (λ t. t.1) first)) (one_list ps qs rest)

-- ---- maps that are made of the same points

-- two maps take each time to one other
abbrev pub AgreeOnTimes : PairMap → PairMap → Type 0
AgreeOnTimes m n = (x s t : ℕ) → x < 2 ^ 62 → IsMapAt m x s → IsMapAt n x t → s ≡ t

-- the two maps' lines have equal slopes
abbrev pub HaveSlopes : PairMap → PairMap → Type 0
HaveSlopes m n = IsSame m.steep.slope n.steep.slope × IsSame m.flat.slope n.flat.slope

one_half : (s f g h : ℤ) → IsHalf s f g → IsHalf s f h → g ≡ h
one_half s f g h u v = omega (arith, ints, u.at_or_below, u.greatest, v.at_or_below, v.greatest)

one_drawn : (h : ℤ) (s t : ℕ) → pos s ≡ int_max (pos 0) (int_min h (pos (2 ^ 62 - 1))) → pos t ≡ int_max (pos 0) (int_min h (pos (2 ^ 62 - 1))) → s ≡ t
one_drawn h s t a b = omega (arith, ints, clamps)

module _ (lower upper : List ClockPoint) (drift : ℕ) (m n : PairMap) (a : IsMapOf lower upper drift m) (b : IsMapOf lower upper drift n) where
  pub same_slopes : HaveSlopes m n
  same_slopes = (steep_slopes lower upper drift m.steep n.steep a.steep b.steep, flat_slopes lower upper drift m.flat n.flat a.flat b.flat)

  pub same_times : AgreeOnTimes m n
  same_times x s t below u v =
      let steep : u.steep ≡ v.steep = steep_heights lower upper drift m.steep n.steep x u.steep v.steep below a.steep b.steep u.steep_is v.steep_is in
      let flat : u.flat ≡ v.flat = flat_heights lower upper drift m.flat n.flat x u.flat v.flat below a.flat b.flat u.flat_is v.flat_is in
      let half : u.half ≡ v.half = one_half v.steep v.flat u.half v.half (subst (λ f. IsHalf v.steep f u.half) flat (subst (λ z. IsHalf z u.flat u.half) steep u.half_is)) v.half_is in
      one_drawn v.half s t (subst (λ h. pos s ≡ int_max (pos 0) (int_min h (pos (2 ^ 62 - 1)))) half u.time_is) v.time_is
