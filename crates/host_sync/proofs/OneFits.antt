-- The fits of the same messages: the same pairs have maps, of equal slopes, which take each time to one other.
use Rattle.std.proofs.Common.{◌≡◌, ◌+◌, ◌*◌, ◌∙◌, ℕ, Some, List, slice_get, refl, sym, ap, subst}
use Rattle.clock_fraction.specs.declared.pair_map.PairMap.{PairMap}
use Rattle.hull_lines.specs.declared.outcome.Fit.{Fit}
use Rattle.hull_lines.specs.declared.outcome.Fit.TheVariants.{Map, Absent, Refused}
use Rattle.hull_lines.specs.Outcomes.{IfMap, IsMap, IsMapOf}
use Rattle.hull_lines.specs.Slopes.{IsUsable}
use Rattle.message_match.specs.declared.message.Message.{Message}
use Rattle.host_tree.specs.declared.parent.Parent.{Parent}
use Rattle.host_tree.specs.declared.parent.Parent.TheVariants.{Root, Child}
use Rattle.host_tree.specs.Fits.{AreFits, IsFitOf}
use Rattle.host_tree.specs.Forest.{AreParents, IsUsablePair}
use Rattle.host_tree.specs.Order.{HaveSamePairs, IsSameParent}
use Rattle.host_tree.proofs.Gets.{one_get}
use Rattle.host_tree.proofs.Order.{same_pairs}
use Rattle.host_sync.proofs.Points.{AgreeOnTimes, HaveSlopes, one_list, same_slopes, same_times}

is_map : (fit : Fit) → IsMap fit → (m : PairMap) × (fit ≡ Map m)
is_map (Map m) h = (m, refl)
is_map (Absent n k) h = absurd h
is_map (Refused c) h = absurd h

map_of : (fit : Fit) (m : PairMap) (P : PairMap → Type 0) → fit ≡ Map m → IfMap fit P → P m
map_of fit m P e h = subst (λ f. IfMap f P) e h

module _ (messages : List Message) (drift parent child : ℕ) (fit other : Fit) (a : IsFitOf messages drift parent child fit) (b : IsFitOf messages drift parent child other) where
  lower_same : b.lower ≡ a.lower
  lower_same = one_list b.lower a.lower (b.lower_are ∙ sym a.lower_are)

  upper_same : b.upper ≡ a.upper
  upper_same = one_list b.upper a.upper (b.upper_are ∙ sym a.upper_are)

  mapped : IsMap fit → IsMap other
  mapped h =
      let u : IsUsable a.lower a.upper drift = a.outcome.mapped.0 h in
      b.outcome.mapped.1 (subst (λ l. IsUsable l b.upper drift) (sym lower_same) (subst (λ l. IsUsable a.lower l drift) (sym upper_same) u))

  module _ (m n : PairMap) (is : fit ≡ Map m) (are : other ≡ Map n) where
    first : IsMapOf a.lower a.upper drift m
    first = map_of fit m (IsMapOf a.lower a.upper drift) is a.outcome.map

    second : IsMapOf a.lower a.upper drift n
    second = subst (λ l. IsMapOf l a.upper drift n) lower_same (subst (λ l. IsMapOf b.lower l drift n) upper_same (map_of other n (IsMapOf b.lower b.upper drift) are b.outcome.map))

    agree : HaveSlopes m n × AgreeOnTimes m n
    agree = (same_slopes a.lower a.upper drift m n first second, same_times a.lower a.upper drift m n first second)

module _ (hosts : ℕ) (messages : List Message) (drift : ℕ) (fits others : List Fit) (a : AreFits hosts messages drift fits) (b : AreFits hosts messages drift others) where
  there : (parent child : ℕ) → IsUsablePair hosts fits parent child → IsUsablePair hosts others parent child
  there parent child u =
      let f = a.each parent child u.parent_in u.child_in in
      let g = b.each parent child u.parent_in u.child_in in
      let is : f.0 ≡ Map u.map = one_get fits (parent * hosts + child) f.0 (Map u.map) f.1 u.fit in
      let n = is_map g.0 (mapped messages drift parent child f.0 g.0 f.2 g.2 (subst IsMap (sym is) tt)) in
      record { parent_in = u.parent_in; child_in = u.child_in; map = n.0; fit = g.1 ∙ ap Some n.1 }

  pub maps_agree : (parent child : ℕ) (m n : PairMap) → IsUsablePair hosts fits parent child → slice_get fits (parent * hosts + child) ≡ Some (Map m) → slice_get others (parent * hosts + child) ≡ Some (Map n) → HaveSlopes m n × AgreeOnTimes m n
  maps_agree parent child m n u e h =
      let f = a.each parent child u.parent_in u.child_in in
      let g = b.each parent child u.parent_in u.child_in in
      agree messages drift parent child f.0 g.0 f.2 g.2 m n (one_get fits (parent * hosts + child) f.0 (Map m) f.1 e) (one_get others (parent * hosts + child) g.0 (Map n) g.1 h)

pub have_same_pairs : (hosts : ℕ) (messages : List Message) (drift : ℕ) (fits others : List Fit) → AreFits hosts messages drift fits → AreFits hosts messages drift others → HaveSamePairs hosts fits others
have_same_pairs hosts messages drift fits others a b parent child = (there hosts messages drift fits others a b parent child, there hosts messages drift others fits b a parent child)

-- ---- the parents

-- both are roots, or have one parent, and maps that agree
abbrev pub Agree : Parent → Parent → Type 0
Agree Root Root = Unit {0}
Agree Root (Child q n) = ⊥
Agree (Child p m) Root = ⊥
Agree (Child p m) (Child q n) = (p ≡ q) × HaveSlopes m n × AgreeOnTimes m n

pub parents_agree : (hosts : ℕ) (messages : List Message) (drift : ℕ) (fits others : List Fit) (parents more : List Parent) → AreFits hosts messages drift fits → AreFits hosts messages drift others
    → AreParents hosts fits parents → AreParents hosts others more → (host : ℕ) (p q : Parent) → slice_get parents host ≡ Some p → slice_get more host ≡ Some q → Agree p q
parents_agree hosts messages drift fits others parents more a b c d host p q e f = by p q e f (same_pairs hosts fits others parents more (have_same_pairs hosts messages drift fits others a b) c d host p q e f)
  where
    by : (p q : Parent) → slice_get parents host ≡ Some p → slice_get more host ≡ Some q → IsSameParent p q → Agree p q
    by Root Root e f s = tt
    by Root (Child q n) e f s = absurd s
    by (Child p m) Root e f s = absurd s
    by (Child p m) (Child q n) e f s =
        let x = c.each host (Child p m) e in
        let y = d.each host (Child q n) f in
        let at = y.2.parent_is.3 in
        let g : slice_get others (p * hosts + host) ≡ Some (Map n) = ap (λ r. slice_get others (r * hosts + host)) s ∙ at in
        let w = maps_agree hosts messages drift fits others a b p host m n x.2.parent_is.2.here.1 x.2.parent_is.3 g in
        (s, w.0, w.1)
