-- Which hosts stand above a host.
use Rattle.std.proofs.Common.{◌≡◌, ◌<◌, ◌≤◌, ◌+◌, ℕ, zero, suc, Some, List, length, slice_get, refl, sym, ap, ◌∙◌, subst, arith}
use Rattle.std.proofs.lemmas.Option.{slice_get_within}
use Rattle.clock_fraction.specs.declared.pair_map.PairMap.{PairMap}
use Rattle.host_tree.specs.declared.parent.Parent.{Parent}
use Rattle.host_tree.specs.declared.parent.Parent.TheVariants.{Root, Child}
use Rattle.host_tree.specs.Rooted.{IsAtDepth}
use Rattle.host_merge.proofs.Ways.{above, one_depth}

module _ (parents : List Parent) where
  -- so many levels above a host stands another
  abbrev pub Up : ℕ → ℕ → ℕ → Type 0
  Up host zero top = host ≡ top
  Up host (suc i) top = (below : ℕ) × (map : PairMap) × Up host i below × (slice_get parents below ≡ Some (Child top map))

  -- a host stands below another, or is it
  abbrev pub OnWay : ℕ → ℕ → Type 0
  OnWay host top = (i : ℕ) × Up host i top

  pub up_within : (i host top : ℕ) → Up host i top → top < length parents → host < length parents
  up_within zero host top u h = subst (λ x. x < length parents) (sym u) h
  up_within (suc i) host top u h = up_within i host u.0 u.2 (slice_get_within parents u.0 (Child top u.1) u.3)

  pub joined_up : (a b c i j : ℕ) → Up a i b → Up b j c → OnWay a c
  joined_up a b c i zero p q = (i, subst (Up a i) q p)
  joined_up a b c i (suc j) p q = let r = joined_up a b q.0 i j p q.2 in (suc r.0, (q.0, q.1, r.1, q.3))

  pub up_depth : (i host top d : ℕ) → Up host i top → IsAtDepth parents d host → (e : ℕ) × (d ≡ e + i) × IsAtDepth parents e top
  up_depth zero host top d u a = let same : d ≡ d + 0 = omega arith in (d, same, subst (IsAtDepth parents d) u a)
  up_depth (suc i) host top d u a =
      let below = up_depth i host u.0 d u.2 a in
      let p = above parents below.0 u.0 top u.1 u.3 below.2 in
      let same : d ≡ p.0 + suc i = omega (arith, below.1, p.1) in
      (p.0, same, p.2)

  pub one_above : (i host a b : ℕ) → Up host i a → Up host i b → a ≡ b
  one_above zero host a b u v = sym u ∙ v
  one_above (suc i) host a b u v =
      let below = one_above i host u.0 v.0 u.2 v.2 in
      let e : slice_get parents v.0 ≡ Some (Child a u.1) = ap (slice_get parents) (sym below) ∙ u.3 in
      let f = v.3 in
      let same : a ≡ b = cc in
      same

  -- a host has one host above it at each depth
  pub one_at_depth : (host a b d e : ℕ) → OnWay host a → OnWay host b → IsAtDepth parents d host → IsAtDepth parents e a → IsAtDepth parents e b → a ≡ b
  one_at_depth host a b d e u v at ea eb =
      let x = up_depth u.0 host a d u.1 at in
      let y = up_depth v.0 host b d v.1 at in
      let same : u.0 ≡ v.0 = omega (arith, x.1, y.1, one_depth parents x.0 e a x.2 ea, one_depth parents y.0 e b y.2 eb) in
      one_above v.0 host a b (subst (λ i. Up host i a) same u.1) v.1

  pub no_deeper : (host top d e : ℕ) → OnWay host top → IsAtDepth parents d host → IsAtDepth parents e top → e ≤ d
  no_deeper host top d e u a b = let x = up_depth u.0 host top d u.1 a in omega (arith, x.1, one_depth parents x.0 e top x.2 b)

  -- a root stands above each host
  pub root_above : (d host : ℕ) → IsAtDepth parents d host → (root : ℕ) × OnWay host root × (slice_get parents root ≡ Some Root)
  root_above zero host a = (host, (0, refl), a)
  root_above (suc d) host a =
      let r = root_above d a.0 a.3 in
      (r.0, joined_up host a.0 r.0 1 r.1.0 (host, a.1, refl, a.2) r.1.1, r.2)

  -- what stands below a child stands below its parent
  pub also_above : (host child parent : ℕ) (map : PairMap) → slice_get parents child ≡ Some (Child parent map) → OnWay host child → OnWay host parent
  also_above host child parent map e u = (suc u.0, (child, map, u.1, e))
