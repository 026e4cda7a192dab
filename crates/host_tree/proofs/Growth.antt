-- How the forest grows: the first tree, the next root, a level and a tree that are done.
use Rattle.std.proofs.Common.{◌≡◌, ◌<◌, ◌≤◌, ◌+◌, ◌⊎◌, inl, inr, ℕ, zero, suc, Option, None, Some, List, length, set, replicate, slice_get, refl, sym, ap, ◌∙◌, subst, arith}
use Rattle.std.proofs.lemmas.Bool.{cases_lt, cases_eq}
use Rattle.std.proofs.lemmas.Option.{slice_get_within}
use Rattle.std.proofs.lemmas.List.{length-set, length-replicate}
use Rattle.hull_lines.specs.declared.outcome.Fit.{Fit}
use Rattle.host_tree.specs.declared.parent.Parent.TheVariants.{Root}
use Rattle.host_tree.specs.declared.place.Place.{Place}
use Rattle.host_tree.specs.Forest.{IsPlaced, IsUsablePair, Leads}
use Rattle.host_tree.specs.Places.{AreGrown, AreScanned, IsBeyond, IsPassed, IsWithin}
use Rattle.host_tree.proofs.Gets.{at_replicate, at_set, beside_set, within}

-- two chains make one
pub joined : (Usable : ℕ → ℕ → Type 0) (a b c m n : ℕ) → Leads Usable a m b → Leads Usable b n c → (l : ℕ) × Leads Usable a l c
joined Usable a b c m zero p q = (m, subst (λ x. Leads Usable a m x) q p)
joined Usable a b c m (suc n) p q = let r = joined Usable a b q.0 m n p q.1 in (suc r.0, (q.0, r.1, q.2))

-- a place holds one of the two
pub place_cases : (o : Option Place) → (o ≡ None) ⊎ ((place : Place) × (o ≡ Some place))
place_cases None = inl refl
place_cases (Some place) = inr (place, refl)

pub cases_at : (places : List (Option Place)) (host : ℕ) → host < length places → (slice_get places host ≡ Some None) ⊎ ((place : Place) × (slice_get places host ≡ Some (Some place)))
cases_at places host h = let w = within places host h in of w.0 w.1 (place_cases w.0)
  where
    of : (o : Option Place) → slice_get places host ≡ Some o → (o ≡ None) ⊎ ((place : Place) × (o ≡ Some place)) → (slice_get places host ≡ Some None) ⊎ ((place : Place) × (slice_get places host ≡ Some (Some place)))
    of o e (inl n) = inl (e ∙ ap Some n)
    of o e (inr s) = inr (s.0, e ∙ ap Some s.1)

module _ (hosts : ℕ) (fits : List Fit) where
  pub none_grown : AreGrown hosts fits 0 0 (replicate hosts None)
  none_grown = record {
    count = length-replicate hosts None;
    known = λ host place e. absurd (grind (arith, at_replicate {X = Option Place} hosts host None (subst (λ n. host < n) (length-replicate hosts None) (slice_get_within _ host (Some place) e))));
    unknown = λ host e. record { earlier = λ start n h. absurd (omega arith); shorter = λ n h. absurd (omega arith) };
  }

  -- a host that an earlier tree holds is no root
  pub root_held : (root : ℕ) (place : Place) (places : List (Option Place)) → slice_get places root ≡ Some (Some place) → AreGrown hosts fits root 0 places → AreGrown hosts fits (root + 1) 0 places
  root_held root place places at grown = record {
    count = grown.count;
    known = λ host p e. let k = grown.known host p e in (k.0, wider p k.1);
    unknown = λ host e. record { earlier = λ start n h. none host (grown.unknown host e) start n (cases_lt start root) h; shorter = λ n h. absurd (omega arith) };
  }
    where
      wider : (p : Place) → IsWithin hosts fits root 0 p → IsWithin hosts fits (root + 1) 0 p
      wider p (inl h) = inl (omega arith)
      wider p (inr h) = absurd (omega (arith, h.1))

      none : (host : ℕ) → IsBeyond hosts fits root 0 host → (start n : ℕ) → (start < root) ⊎ (root ≤ start) → start < root + 1 → ¬ Leads (IsUsablePair hosts fits) start n host
      none host b start n (inl less) h chain = b.earlier start n less chain
      none host b start n (inr more) h chain =
          let same : start ≡ root = omega arith in
          let k = grown.known root place at in
          let w : IsWithin hosts fits root 0 place = k.1 in
          through (subst (λ s. Leads (IsUsablePair hosts fits) s n host) same chain) w
        where
          through : Leads (IsUsablePair hosts fits) root n host → IsWithin hosts fits root 0 place → ⊥
          through c (inl less) = let r = joined (IsUsablePair hosts fits) place.root root host place.level n (grown.known root place at).0.level_is.here c in b.earlier place.root r.0 less r.1
          through c (inr never) = omega (arith, never.1)

  -- a host without a place, at its turn, is the root of the next tree
  pub tree_begun : (root : ℕ) (place : Place) (places : List (Option Place)) → slice_get places root ≡ Some None → place.root ≡ root → place.level ≡ 0 → place.parent ≡ Root → AreGrown hosts fits root 0 places → AreGrown hosts fits root 1 (set places root (Some place))
  tree_begun root place places at root_is level_is parent_is grown = record {
    count = length-set places root (Some place) ∙ grown.count;
    known = λ host p e. here host p e (cases_eq host root);
    unknown = λ host e. beyond host e (cases_eq host root);
  }
    where
      inside : root < length places
      inside = slice_get_within places root None at

      is_placed : IsPlaced hosts fits root root 0 Root
      is_placed = record {
        root_is = record { here = (0, refl); least = λ start c. not_before start c (cases_lt start root) };
        level_is = record { here = refl; least = λ n c. omega arith };
        parent_is = refl;
      }
        where
          not_before : (start : ℕ) → ((n : ℕ) × Leads (IsUsablePair hosts fits) start n root) → (start < root) ⊎ (root ≤ start) → root ≤ start
          not_before start c (inl less) = absurd ((grown.unknown root at).earlier start c.0 less c.1)
          not_before start c (inr more) = more

      here : (host : ℕ) (p : Place) → slice_get (set places root (Some place)) host ≡ Some (Some p) → (host ≡ root) ⊎ (host ≡ root → ⊥) → IsPlaced hosts fits host p.root p.level p.parent × IsWithin hosts fits root 1 p
      here host p e (inl same) =
          let q : place ≡ p = grind (arith, at_set places root (Some place) inside) in
          subst (λ (x : Place). IsPlaced hosts fits host x.root x.level x.parent × IsWithin hosts fits root 1 x) q
          (rw (same, root_is, level_is, parent_is) (is_placed, inr (refl, omega arith)))
      here host p e (inr ne) = let k = grown.known host p (sym (beside_set places root host (Some place) ne) ∙ e) in (k.0, wider p k.1)
        where
          wider : (p : Place) → IsWithin hosts fits root 0 p → IsWithin hosts fits root 1 p
          wider p (inl h) = inl h
          wider p (inr h) = absurd (omega (arith, h.1))

      beyond : (host : ℕ) → slice_get (set places root (Some place)) host ≡ Some None → (host ≡ root) ⊎ (host ≡ root → ⊥) → IsBeyond hosts fits root 1 host
      beyond host e (inl same) = absurd (grind (arith, at_set places root (Some place) inside))
      beyond host e (inr ne) = let b = grown.unknown host (sym (beside_set places root host (Some place) ne) ∙ e) in record { earlier = b.earlier; shorter = short }
        where
          short : (n : ℕ) → n < 1 → ¬ Leads (IsUsablePair hosts fits) root n host
          short zero h c = ne (sym c)
          short (suc n) h c = omega arith

  pub level_begun : (root level : ℕ) (places : List (Option Place)) → AreGrown hosts fits root (level + 1) places → AreScanned hosts fits root level 0 places
  level_begun root level places grown = record {
    count = grown.count;
    known = λ host p e. let k = grown.known host p e in (k.0, wider p k.1);
    unknown = λ host e. (grown.unknown host e, λ p h. absurd (omega arith));
  }
    where
      wider : (p : Place) → IsWithin hosts fits root (level + 1) p → IsWithin hosts fits root (level + 2) p
      wider p (inl h) = inl h
      wider p (inr h) = inr (h.0, omega (arith, h.1))

  -- a level is done when all hosts were looked at as parents
  pub level_done : (root level : ℕ) (places : List (Option Place)) → AreScanned hosts fits root level hosts places → AreGrown hosts fits root (level + 2) places
  level_done root level places scanned = record {
    count = scanned.count;
    known = scanned.known;
    unknown = λ host e. let u = scanned.unknown host e in record { earlier = u.0.earlier; shorter = λ n h. short host u.0 u.1 n (cases_lt n (level + 1)) h };
  }
    where
      last : (host : ℕ) → IsPassed hosts fits root level hosts host → ¬ Leads (IsUsablePair hosts fits) root (suc level) host
      last host passed c = passed c.0 c.2.parent_in c.1 c.2

      short : (host : ℕ) → IsBeyond hosts fits root (level + 1) host → IsPassed hosts fits root level hosts host → (n : ℕ) → (n < level + 1) ⊎ (level + 1 ≤ n) → n < level + 2 → ¬ Leads (IsUsablePair hosts fits) root n host
      short host b passed n (inl less) h c = b.shorter n less c
      short host b passed n (inr more) h c = let same : n ≡ suc level = omega arith in last host passed (subst (λ m. Leads (IsUsablePair hosts fits) root m host) same c)

  -- a tree is done when a level brought no host into it
  pub tree_done : (root level : ℕ) (places : List (Option Place)) → AreGrown hosts fits root (level + 1) places → AreGrown hosts fits root (level + 2) places → AreGrown hosts fits (root + 1) 0 places
  tree_done root level places grown more = record {
    count = grown.count;
    known = λ host p e. let k = grown.known host p e in (k.0, wider p k.1);
    unknown = λ host e. record { earlier = λ start n h. none host e start n (cases_lt start root) h; shorter = λ n h. absurd (omega arith) };
  }
    where
      wider : (p : Place) → IsWithin hosts fits root (level + 1) p → IsWithin hosts fits (root + 1) 0 p
      wider p (inl h) = inl (omega arith)
      wider p (inr h) = inl (omega (arith, h.0))

      from_known : (host parent : ℕ) (p : Place) → IsBeyond hosts fits root (level + 2) host → IsUsablePair hosts fits parent host → Leads (IsUsablePair hosts fits) p.root p.level parent → IsWithin hosts fits root (level + 1) p → ⊥
      from_known host parent p b u c (inl less) = b.earlier p.root (suc p.level) less (parent, c, u)
      from_known host parent p b u c (inr h) = b.shorter (suc p.level) (omega (arith, h.1)) (parent, subst (λ r. Leads (IsUsablePair hosts fits) r p.level parent) h.0 c, u)

      never : (n host : ℕ) → slice_get places host ≡ Some None → ¬ Leads (IsUsablePair hosts fits) root n host
      never zero host e c = (more.unknown host e).shorter 0 (omega arith) c
      never (suc n) host e c = by (cases_at places c.0 (omega (arith, c.2.parent_in, grown.count))) (λ e. never n c.0 e c.1)
        where
          by : (slice_get places c.0 ≡ Some None) ⊎ ((p : Place) × (slice_get places c.0 ≡ Some (Some p))) → (slice_get places c.0 ≡ Some None → ⊥) → ⊥
          by (inl e) not = not e
          by (inr p) not = let k = grown.known c.0 p.0 p.1 in from_known host c.0 p.0 (more.unknown host e) c.2 k.0.level_is.here k.1

      none : (host : ℕ) → slice_get places host ≡ Some None → (start n : ℕ) → (start < root) ⊎ (root ≤ start) → start < root + 1 → ¬ Leads (IsUsablePair hosts fits) start n host
      none host e start n (inl less) h c = (grown.unknown host e).earlier start n less c
      none host e start n (inr least) h c = let same : start ≡ root = omega arith in never n host e (subst (λ s. Leads (IsUsablePair hosts fits) s n host) same c)

  -- in the end each host has its place
  pub all_placed : (places : List (Option Place)) → AreGrown hosts fits hosts 0 places → (host : ℕ) → host < hosts → (p : Place) × (slice_get places host ≡ Some (Some p))
  all_placed places grown host h = by (cases_at places host (omega (arith, grown.count)))
    where
      by : (slice_get places host ≡ Some None) ⊎ ((p : Place) × (slice_get places host ≡ Some (Some p))) → (p : Place) × (slice_get places host ≡ Some (Some p))
      by (inl e) = absurd ((grown.unknown host e).earlier host 0 h refl)
      by (inr p) = p
