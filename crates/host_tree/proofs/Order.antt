-- What follows from the definition of the forest: depths, the order of the trees, and that there is one forest.
use Rattle.std.proofs.Common.{◌≡◌, ◌<◌, ◌≤◌, ◌+◌, ◌*◌, ◌⊎◌, ◌↔◌, inl, inr, ℕ, zero, suc, Some, List, get_or, slice_get, refl, sym, ap, ◌∙◌, subst, arith}
use Rattle.std.proofs.lemmas.Bool.{cases_lt}
use Rattle.std.proofs.lemmas.List.{same_lists}
use Rattle.std.proofs.lemmas.Option.{slice_get_within, slice_get-get_or}
use Rattle.hull_lines.specs.declared.outcome.Fit.{Fit}
use Rattle.hull_lines.specs.declared.outcome.Fit.TheVariants.{Map}
use Rattle.host_tree.specs.declared.parent.Parent.{Parent}
use Rattle.host_tree.specs.declared.parent.Parent.TheVariants.{Root, Child}
use Rattle.host_tree.specs.Forest.{AreParents, IsLeast, IsLevelOf, IsParentAt, IsPlaced, IsRootOf, IsUsablePair, Leads}
use Rattle.host_tree.specs.Order.{AreInOrder, HaveSamePairs, IsFree, IsSameParent, LeadsOver}
use Rattle.host_tree.specs.Rooted.{IsAtDepth, LeadToRoots}
use Rattle.host_tree.proofs.Gets.{within}
use Rattle.host_tree.proofs.Growth.{joined}

one_least : (P : ℕ → Type 0) (a b : ℕ) → IsLeast P a → IsLeast P b → a ≡ b
one_least P a b l m = let x = l.least b m.here in let y = m.least a l.here in omega arith

same_least : (P Q : ℕ → Type 0) (a : ℕ) → ((n : ℕ) → P n ↔ Q n) → IsLeast P a → IsLeast Q a
same_least P Q a e l = record { here = (e a).0 l.here; least = λ n q. l.least n ((e n).1 q) }

-- ---- the ways up

module _ (hosts : ℕ) (fits : List Fit) where
  -- on the way from a root to a host of its tree all hosts are of this tree
  root_between : (root host parent n m : ℕ) → IsRootOf (IsUsablePair hosts fits) root host → Leads (IsUsablePair hosts fits) root n parent → Leads (IsUsablePair hosts fits) parent m host → IsRootOf (IsUsablePair hosts fits) root parent
  root_between root host parent n m r up down = record {
    here = (n, up);
    least = λ start c. let j = joined (IsUsablePair hosts fits) start parent host c.0 m c.1 down in r.least start j;
  }

  -- a root stands at level 0
  root_low : (root level host : ℕ) → IsLevelOf (IsUsablePair hosts fits) root level host → root ≡ host → level ≡ 0
  root_low root level host l e = let low = l.least 0 e in omega arith

  module _ (parents : List Parent) (are : AreParents hosts fits parents) where
    placed : (host : ℕ) → host < hosts → (parent : Parent) × (slice_get parents host ≡ Some parent) × ((root : ℕ) × (level : ℕ) × IsPlaced hosts fits host root level parent)
    placed host h = let w = within parents host (omega (arith, are.count)) in (w.0, w.1, are.each host w.0 w.1)

    depth : (bound host root level : ℕ) (parent : Parent) → level < bound → slice_get parents host ≡ Some parent → IsPlaced hosts fits host root level parent → (n : ℕ) × IsAtDepth parents n host
    depth zero host root level parent low e p = absurd (omega arith)
    depth (suc bound) host root level Root low e p = (0, e)
    depth (suc bound) host root level (Child parent map) low e p =
        let c = p.parent_is in
        let u = c.2.here.1 in
        let above = placed parent u.parent_in in
        let r : IsRootOf (IsUsablePair hosts fits) root parent = root_between root host parent c.0 1 p.root_is c.2.here.0 (parent, refl, u) in
        let same : above.2.0 ≡ root = one_least _ above.2.0 root above.2.2.root_is r in
        let less : above.2.1 ≤ c.0 = above.2.2.level_is.least c.0 (subst (λ s. Leads (IsUsablePair hosts fits) s c.0 parent) (sym same) c.2.here.0) in
        let d = depth bound parent above.2.0 above.2.1 above.0 (omega (arith, c.1)) above.1 above.2.2 in
        (suc d.0, (parent, map, e, d.1))

    pub rooted : LeadToRoots parents
    rooted host h = let p = placed host (omega (arith, are.count)) in depth (suc p.2.1) host p.2.0 p.2.1 p.0 (omega arith) p.1 p.2.2

    -- ---- the order of the trees

    free : (root host : ℕ) → IsRootOf (IsUsablePair hosts fits) root host → IsFree hosts fits root host
    free root host r earlier less e = let same = one_least _ earlier root e r in omega arith

    over : (n root host : ℕ) → IsRootOf (IsUsablePair hosts fits) root host → Leads (IsUsablePair hosts fits) root n host → LeadsOver (IsUsablePair hosts fits) (IsFree hosts fits root) root n host
    over zero root host r c = (c, free root host r)
    over (suc n) root host r c = (c.0, over n root c.0 (root_between root host c.0 n 1 r c.1 (c.0, refl, c.2)) c.1, c.2, free root host r)

    forgotten : (n root host : ℕ) → LeadsOver (IsUsablePair hosts fits) (IsFree hosts fits root) root n host → Leads (IsUsablePair hosts fits) root n host
    forgotten zero root host c = c.0
    forgotten (suc n) root host c = (c.0, forgotten n root c.0 c.1, c.2)

    last_free : (n root host : ℕ) → LeadsOver (IsUsablePair hosts fits) (IsFree hosts fits root) root n host → IsFree hosts fits root host
    last_free zero root host c = c.1
    last_free (suc n) root host c = c.3

    inside : (n root host : ℕ) → root < hosts → Leads (IsUsablePair hosts fits) root n host → host < hosts
    inside zero root host h c = subst (λ x. x < hosts) c h
    inside (suc n) root host h c = c.2.child_in

    own_root : (host root level : ℕ) (parent : Parent) → slice_get parents host ≡ Some parent → IsPlaced hosts fits host root level parent → IsFree hosts fits host host → slice_get parents host ≡ Some Root
    own_root host root level parent e p f = by parent e p (cases_lt root host)
      where
        by : (parent : Parent) → slice_get parents host ≡ Some parent → IsPlaced hosts fits host root level parent → (root < host) ⊎ (host ≤ root) → slice_get parents host ≡ Some Root
        by parent e p (inl less) = absurd (f root less p.root_is)
        by Root e p (inr more) = e
        by (Child q m) e p (inr more) =
            let low = p.root_is.least host (0, refl) in
            let zero_level = root_low root level host p.level_is (omega arith) in
            absurd (omega (arith, p.parent_is.1, zero_level))

    pub in_order : AreInOrder hosts fits parents
    in_order = record {
      roots = λ host h. (
        (λ e. let p = are.each host Root e in free host host (subst (λ r. IsRootOf (IsUsablePair hosts fits) r host) p.2.parent_is p.2.root_is)),
        (λ f. let p = placed host h in own_root host p.2.0 p.2.1 p.0 p.1 p.2.2 f),
      );
      trees = λ root host e. (
        (λ r. (r.here.0, over r.here.0 root host r r.here.1)),
        (λ c.
            let way = forgotten c.0 root host c.1 in
            let p = placed host (inside c.0 root host (omega (arith, slice_get_within parents root Root e, are.count)) way) in
            held root host p.2.0 p.2.2.root_is (p.2.2.root_is.least root (c.0, way)) (last_free c.0 root host c.1) (cases_lt p.2.0 root)),
      );
      levels = λ root host n r. (over n root host r, forgotten n root host);
      next = λ root level parent host l u f none.
          let way : Leads (IsUsablePair hosts fits) root (suc level) host = (parent, l.here, u) in
          let p = placed host u.child_in in (
            held root host p.2.0 p.2.2.root_is (p.2.2.root_is.least root (suc level, way)) f (cases_lt p.2.0 root),
            record { here = way; least = λ n c. later level n (none n) c (cases_lt level n) },
          );
    }
      where
        later : (level n : ℕ) {C : Type 0} → (n ≤ level → ¬ C) → C → (level < n) ⊎ (n ≤ level) → suc level ≤ n
        later level n none c (inl more) = more
        later level n none c (inr less) = absurd (none less c)

        held : (root host r : ℕ) → IsRootOf (IsUsablePair hosts fits) r host → r ≤ root → IsFree hosts fits root host → (r < root) ⊎ (root ≤ r) → IsRootOf (IsUsablePair hosts fits) root host
        held root host r is low f (inl less) = absurd (f r less is)
        held root host r is low f (inr more) = let same : r ≡ root = omega arith in subst (λ x. IsRootOf (IsUsablePair hosts fits) x host) same is

-- ---- one forest

module _ (hosts : ℕ) (fits others : List Fit) (same : HaveSamePairs hosts fits others) where
  there : (start n host : ℕ) → Leads (IsUsablePair hosts fits) start n host → Leads (IsUsablePair hosts others) start n host
  there start zero host c = c
  there start (suc n) host c = (c.0, there start n c.0 c.1, (same c.0 host).0 c.2)

  back : (start n host : ℕ) → Leads (IsUsablePair hosts others) start n host → Leads (IsUsablePair hosts fits) start n host
  back start zero host c = c
  back start (suc n) host c = (c.0, back start n c.0 c.1, (same c.0 host).1 c.2)

  same_roots : (root host : ℕ) → IsRootOf (IsUsablePair hosts fits) root host → IsRootOf (IsUsablePair hosts others) root host
  same_roots root host r = same_least _ _ root (λ start. (λ c. (c.0, there start c.0 host c.1), λ c. (c.0, back start c.0 host c.1))) r

  same_levels : (root level host : ℕ) → IsLevelOf (IsUsablePair hosts fits) root level host → IsLevelOf (IsUsablePair hosts others) root level host
  same_levels root level host l = same_least _ _ level (λ n. (there root n host, back root n host)) l

  pub same_parent : (host root level other_root other_level : ℕ) (p q : Parent) → IsPlaced hosts fits host root level p → IsPlaced hosts others host other_root other_level q → IsSameParent p q
  same_parent host root level other_root other_level p q a b =
      let roots : root ≡ other_root = one_least _ root other_root (same_roots root host a.root_is) b.root_is in
      let levels : level ≡ other_level = one_least _ level other_level (subst (λ r. IsLevelOf (IsUsablePair hosts others) r level host) roots (same_levels root level host a.level_is)) b.level_is in
      by p q roots levels a.level_is b.level_is a.parent_is b.parent_is
    where
      by : (p q : Parent) → root ≡ other_root → level ≡ other_level → IsLevelOf (IsUsablePair hosts fits) root level host → IsLevelOf (IsUsablePair hosts others) other_root other_level host
          → IsParentAt hosts fits root level host p → IsParentAt hosts others other_root other_level host q → IsSameParent p q
      by Root Root r l m n x y = tt
      by Root (Child q k) r l m n x y = let low = root_low hosts fits root level host m x in omega (arith, y.1, low, l)
      by (Child p k) Root r l m n x y = let low = root_low hosts others other_root other_level host n y in omega (arith, x.1, low, l)
      by (Child p k) (Child q j) r l m n x y =
          let above : x.0 ≡ y.0 = omega (arith, x.1, y.1, l) in
          let least : IsLeast (λ h. Leads (IsUsablePair hosts others) root x.0 h × IsUsablePair hosts others h host) p =
          same_least _ _ p (λ h. (λ c. (there root x.0 h c.0, (same h host).0 c.1), λ c. (back root x.0 h c.0, (same h host).1 c.1))) x.2 in
          one_least _ p q (subst (λ s. IsLeast (λ h. Leads (IsUsablePair hosts others) s y.0 h × IsUsablePair hosts others h host) p) r (subst (λ n. IsLeast (λ h. Leads (IsUsablePair hosts others) root n h × IsUsablePair hosts others h host) p) above least)) y.2

pub same_pairs : (hosts : ℕ) (fits others : List Fit) (parents more : List Parent) → HaveSamePairs hosts fits others → AreParents hosts fits parents → AreParents hosts others more
    → (host : ℕ) (p q : Parent) → slice_get parents host ≡ Some p → slice_get more host ≡ Some q → IsSameParent p q
same_pairs hosts fits others parents more same a b host p q e f =
    let x = a.each host p e in
    let y = b.each host q f in
    same_parent hosts fits others same host x.0 x.1 y.0 y.1 p q x.2 y.2

one_parent : (hosts : ℕ) (fits : List Fit) (host root level other_root other_level : ℕ) (p q : Parent) → IsPlaced hosts fits host root level p → IsPlaced hosts fits host other_root other_level q → IsSameParent p q → p ≡ q
one_parent hosts fits host root level other_root other_level Root Root a b s = refl
one_parent hosts fits host root level other_root other_level Root (Child q n) a b s = absurd s
one_parent hosts fits host root level other_root other_level (Child p m) Root a b s = absurd s
one_parent hosts fits host root level other_root other_level (Child p m) (Child q n) a b s =
    let e : slice_get fits (p * hosts + host) ≡ Some (Map m) = a.parent_is.3 in
    let f : slice_get fits (p * hosts + host) ≡ Some (Map n) = ap (λ x. slice_get fits (x * hosts + host)) s ∙ b.parent_is.3 in
    let maps : m ≡ n = cc in
    ap (λ x. Child x m) s ∙ ap (Child q) maps

pub one_forest : (hosts : ℕ) (fits : List Fit) (parents others : List Parent) → AreParents hosts fits parents → AreParents hosts fits others → parents ≡ others
one_forest hosts fits parents others a b = same_lists parents others (a.count ∙ sym b.count) (λ k d h.
    let p = slice_get-get_or parents k d h in
    let q = slice_get-get_or others k d (omega (arith, a.count, b.count)) in
    let x = a.each k (get_or parents k d) p in
    let y = b.each k (get_or others k d) q in
    one_parent hosts fits k x.0 x.1 y.0 y.1 (get_or parents k d) (get_or others k d) x.2 y.2
    (same_parent hosts fits fits (λ u v. (λ c. c, λ c. c)) k x.0 x.1 y.0 y.1 (get_or parents k d) (get_or others k d) x.2 y.2))
