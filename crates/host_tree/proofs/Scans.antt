-- A level while its hosts are looked at as parents, one by one.
use Rattle.std.proofs.Common.{◌≡◌, ◌≢◌, ◌<◌, ◌≤◌, ◌+◌, ◌*◌, ◌⊎◌, inl, inr, ℕ, zero, suc, Option, None, Some, IsSomeAnd, List, [], ◌∷◌, length, slice_get, refl, sym, ap, ◌∙◌, subst, arith}
use Rattle.std.specs.List.{filter_map}
use Rattle.std.specs.Option.{option_map}
use Rattle.std.proofs.lemmas.Bool.{cases_lt}
use Rattle.std.proofs.lemmas.Option.{slice_get_within}
use Rattle.clock_fraction.specs.declared.pair_map.PairMap.{PairMap}
use Rattle.hull_lines.specs.declared.outcome.Fit.{Fit}
use Rattle.hull_lines.specs.declared.outcome.Fit.TheVariants.{Map, Absent, Refused}
use Rattle.host_tree.specs.declared.parent.Parent.{Parent}
use Rattle.host_tree.specs.declared.parent.Parent.TheVariants.{Child}
use Rattle.host_tree.specs.declared.place.Place.{Place}
use Rattle.host_tree.specs.Forest.{AreParents, IsPlaced, IsUsablePair, Leads}
use Rattle.host_tree.specs.Places.{AreGrown, AreScanned, AreUnder, IsBeyond, IsPassed, IsWithin}
use Rattle.host_tree.proofs.Gets.{one_get, within}
use Rattle.host_tree.proofs.Growth.{all_placed, cases_at}

-- the fit is a map or not
pub fit_cases : (fit : Fit) → ((map : PairMap) × (fit ≡ Map map)) ⊎ ((map : PairMap) → fit ≢ Map map)
fit_cases (Map map) = inl (map, refl)
fit_cases (Absent n m) = inr (λ map e. cc)
fit_cases (Refused c) = inr (λ map e. cc)

module _ (hosts : ℕ) (fits : List Fit) where
  -- a pair is usable or not
  pub usable_cases : length fits ≡ hosts * hosts → (parent child place : ℕ) → parent < hosts → child < hosts → place ≡ parent * hosts + child → place < hosts * hosts
      → ((map : PairMap) × (slice_get fits place ≡ Some (Map map))) ⊎ (¬ IsUsablePair hosts fits parent child)
  usable_cases square parent child place pin cin place_is pl = let w = within fits place (omega (arith, square)) in by w.0 w.1 (fit_cases w.0)
    where
      by : (fit : Fit) → slice_get fits place ≡ Some fit → ((map : PairMap) × (fit ≡ Map map)) ⊎ ((map : PairMap) → fit ≢ Map map) → ((map : PairMap) × (slice_get fits place ≡ Some (Map map))) ⊎ (¬ IsUsablePair hosts fits parent child)
      by fit e (inl m) = inl (m.0, e ∙ ap Some m.1)
      by fit e (inr n) = inr (λ u. n u.map (one_get fits place fit (Map u.map) e (ap (slice_get fits) place_is ∙ u.fit)))

  -- a host that does not stand at the level leads to none that has no place
  pub scan_other : (root level parent : ℕ) (places : List (Option Place)) → parent < hosts → ((p : Place) → slice_get places parent ≡ Some (Some p) → p.root ≡ root → p.level ≡ level → ⊥) → AreScanned hosts fits root level parent places → AreScanned hosts fits root level (parent + 1) places
  scan_other root level parent places inside other scanned = record {
    count = scanned.count;
    known = scanned.known;
    unknown = λ host e. let u = scanned.unknown host e in (u.0, λ p h. passed host e u.0 u.1 p (cases_lt p parent) h);
  }
    where
      not_from : (host : ℕ) (p : Place) → IsBeyond hosts fits root (level + 1) host → slice_get places parent ≡ Some (Some p) → IsUsablePair hosts fits parent host → IsPlaced hosts fits parent p.root p.level p.parent → Leads (IsUsablePair hosts fits) root level parent → (p.root < root) ⊎ (root ≤ p.root) → (p.level < level) ⊎ (level ≤ p.level) → ⊥
      not_from host p b e u k c (inl less) l = b.earlier p.root (suc p.level) less (parent, k.level_is.here, u)
      not_from host p b e u k c (inr more) l =
          let least : p.root ≤ root = k.root_is.least root (level, c) in
          let same : p.root ≡ root = omega arith in
          let low : p.level ≤ level = k.level_is.least level (subst (λ r. Leads (IsUsablePair hosts fits) r level parent) (sym same) c) in
          by same low l
        where
          by : p.root ≡ root → p.level ≤ level → (p.level < level) ⊎ (level ≤ p.level) → ⊥
          by same low (inl less) = b.shorter (suc p.level) (omega arith) (parent, subst (λ r. Leads (IsUsablePair hosts fits) r p.level parent) same k.level_is.here, u)
          by same low (inr more) = other p e same (omega arith)

      passed : (host : ℕ) → slice_get places host ≡ Some None → IsBeyond hosts fits root (level + 1) host → IsPassed hosts fits root level parent host → (p : ℕ) → (p < parent) ⊎ (parent ≤ p) → p < parent + 1 → Leads (IsUsablePair hosts fits) root level p → ¬ IsUsablePair hosts fits p host
      passed host e b before p (inl less) h c u = before p less c u
      passed host e b before p (inr more) h c u =
          let same : p ≡ parent = omega arith in
          from (subst (λ q. Leads (IsUsablePair hosts fits) root level q) same c) (subst (λ q. IsUsablePair hosts fits q host) same u) (cases_at places parent (omega (arith, scanned.count)))
        where
          from : Leads (IsUsablePair hosts fits) root level parent → IsUsablePair hosts fits parent host → (slice_get places parent ≡ Some None) ⊎ ((q : Place) × (slice_get places parent ≡ Some (Some q))) → ⊥
          from c u (inl none) = (scanned.unknown parent none).0.shorter level (omega arith) c
          from c u (inr q) = not_from host q.0 b q.1 u (scanned.known parent q.0 q.1).0 c (cases_lt q.0.root root) (cases_lt q.0.level level)

  -- the hosts that are usable from a host of the level stand at the next one, under it
  pub scan_children : (root level next parent : ℕ) (p : Place) (old new : List (Option Place)) → length fits ≡ hosts * hosts → next ≡ suc level → parent < hosts
      → ((child : ℕ) → child < hosts → parent * hosts + child < hosts * hosts)
      → slice_get old parent ≡ Some (Some p) → p.root ≡ root → p.level ≡ level → AreUnder hosts fits root next parent old new → AreScanned hosts fits root level parent old → AreScanned hosts fits root level (parent + 1) new
  scan_children root level next parent p old new square next_is inside room at root_is level_is under scanned = record {
    count = under.count ∙ scanned.count;
    known = λ host q e. known host q e (cases_at old host (omega (arith, slice_get_within new host (Some q) e, under.count)));
    unknown = λ host e. unknown host e (cases_at old host (omega (arith, slice_get_within new host None e, under.count)));
  }
    where
      chain : Leads (IsUsablePair hosts fits) root level parent
      chain = subst (λ r. Leads (IsUsablePair hosts fits) r level parent) root_is (subst (λ l. Leads (IsUsablePair hosts fits) p.root l parent) level_is (scanned.known parent p at).0.level_is.here)

      short : (host : ℕ) → slice_get old host ≡ Some None → host < hosts
      short host e = omega (arith, slice_get_within old host None e, scanned.count)

      new_place : (host : ℕ) (map : PairMap) → slice_get old host ≡ Some None → slice_get fits (parent * hosts + host) ≡ Some (Map map) → IsPlaced hosts fits host root next (Child parent map)
      new_place host map e fit =
          let b = scanned.unknown host e in
          let u : IsUsablePair hosts fits parent host = record { parent_in = inside; child_in = short host e; map = map; fit = fit } in
          let leads : Leads (IsUsablePair hosts fits) root (suc level) host = (parent, chain, u) in
          subst (λ n. IsPlaced hosts fits host root n (Child parent map)) (sym next_is) (record {
            root_is = record { here = (suc level, leads); least = λ start c. not_before host b.0 start c (cases_lt start root) };
            level_is = record { here = leads; least = λ n c. not_shorter host b.0 n c (cases_lt n (suc level)) };
            parent_is = (level, refl, record { here = (chain, u); least = λ q c. not_less host b.1 q c (cases_lt q parent) }, fit);
          })
        where
          not_before : (host : ℕ) → IsBeyond hosts fits root (level + 1) host → (start : ℕ) → ((n : ℕ) × Leads (IsUsablePair hosts fits) start n host) → (start < root) ⊎ (root ≤ start) → root ≤ start
          not_before host b start c (inl less) = absurd (b.earlier start c.0 less c.1)
          not_before host b start c (inr more) = more

          not_shorter : (host : ℕ) → IsBeyond hosts fits root (level + 1) host → (n : ℕ) → Leads (IsUsablePair hosts fits) root n host → (n < suc level) ⊎ (suc level ≤ n) → suc level ≤ n
          not_shorter host b n c (inl less) = absurd (b.shorter n (omega arith) c)
          not_shorter host b n c (inr more) = more

          not_less : (host : ℕ) → IsPassed hosts fits root level parent host → (q : ℕ) → Leads (IsUsablePair hosts fits) root level q × IsUsablePair hosts fits q host → (q < parent) ⊎ (parent ≤ q) → parent ≤ q
          not_less host b q c (inl less) = absurd (b q less c.0 c.1)
          not_less host b q c (inr more) = more

      known : (host : ℕ) (q : Place) → slice_get new host ≡ Some (Some q) → (slice_get old host ≡ Some None) ⊎ ((r : Place) × (slice_get old host ≡ Some (Some r))) → IsPlaced hosts fits host q.root q.level q.parent × IsWithin hosts fits root (level + 2) q
      known host q e (inl none) = by (usable_cases square parent host (parent * hosts + host) inside (short host none) refl (room host (short host none)))
        where
          by : ((map : PairMap) × (slice_get fits (parent * hosts + host) ≡ Some (Map map))) ⊎ (¬ IsUsablePair hosts fits parent host) → IsPlaced hosts fits host q.root q.level q.parent × IsWithin hosts fits root (level + 2) q
          by (inl m) =
              let same : record { root = root; level = next; parent = Child parent m.0 } ≡ q = cc (under.added host m.0 (short host none) none m.1) in
              subst (λ (x : Place). IsPlaced hosts fits host x.root x.level x.parent × IsWithin hosts fits root (level + 2) x) same (new_place host m.0 none m.1, inr (refl, omega arith))
          by (inr n) = let left : slice_get new host ≡ Some None = under.left host none n in absurd (cc)
      known host q e (inr r) =
          let same : r.0 ≡ q = cc (under.kept host r.0 r.1) in
          subst (λ (x : Place). IsPlaced hosts fits host x.root x.level x.parent × IsWithin hosts fits root (level + 2) x) same (scanned.known host r.0 r.1)

      unknown : (host : ℕ) → slice_get new host ≡ Some None → (slice_get old host ≡ Some None) ⊎ ((r : Place) × (slice_get old host ≡ Some (Some r))) → IsBeyond hosts fits root (level + 1) host × IsPassed hosts fits root level (parent + 1) host
      unknown host e (inl none) = let u = scanned.unknown host none in (u.0, λ q h. passed q (cases_lt q parent) h)
        where
          passed : (q : ℕ) → (q < parent) ⊎ (parent ≤ q) → q < parent + 1 → Leads (IsUsablePair hosts fits) root level q → ¬ IsUsablePair hosts fits q host
          passed q (inl less) h c u = (scanned.unknown host none).1 q less c u
          passed q (inr more) h c u =
              let same : q ≡ parent = omega arith in
              let v : IsUsablePair hosts fits parent host = subst (λ x. IsUsablePair hosts fits x host) same u in
              let added = under.added host v.map (short host none) none v.fit in cc
      unknown host e (inr r) = let kept = under.kept host r.0 r.1 in absurd (cc)

-- what the test says of a place that holds
pub at_level : (o : Option Place) (root level : ℕ) → IsSomeAnd o (λ p. (p.root ≡ root) × (p.level ≡ level)) → (p : Place) × (o ≡ Some p) × (p.root ≡ root) × (p.level ≡ level)
at_level None root level h = absurd h
at_level (Some p) root level h = (p, refl, h.0, h.1)

-- what a list that has something at each place gives
all_kept : {X Y : Type 0} (f : X → Y) (xs : List (Option X)) → ((k : ℕ) → k < length xs → (x : X) × (slice_get xs k ≡ Some (Some x))) → (length (filter_map (option_map f) xs) ≡ length xs) × ((k : ℕ) (x : X) → slice_get xs k ≡ Some (Some x) → slice_get (filter_map (option_map f) xs) k ≡ Some (f x))
all_kept f [] all = (refl, λ k x e. absurd (cc))
all_kept f (None ∷ xs) all = let h = all 0 (omega arith) in absurd (cc h.1)
all_kept {X} {Y} f (Some y ∷ xs) all =
    let r = all_kept f xs (λ k h. all (suc k) (omega arith)) in (ap suc r.0, each r.1)
  where
    each : ((k : ℕ) (x : X) → slice_get xs k ≡ Some (Some x) → slice_get (filter_map (option_map f) xs) k ≡ Some (f x)) → (k : ℕ) (x : X) → slice_get (Some y ∷ xs) k ≡ Some (Some x) → slice_get (f y ∷ filter_map (option_map f) xs) k ≡ Some (f x)
    each r zero x e = let same : y ≡ x = cc in ap (λ z. Some (f z)) same
    each r (suc k) x e = r k x e

-- the parents of a forest that is grown
pub are_parents : (hosts : ℕ) (fits : List Fit) (places : List (Option Place)) (parents : List Parent) → AreGrown hosts fits hosts 0 places → parents ≡ filter_map (option_map (λ (p : Place). p.parent)) places → AreParents hosts fits parents
are_parents hosts fits places parents grown is =
    let all : (k : ℕ) → k < length places → (p : Place) × (slice_get places k ≡ Some (Some p)) = λ k h. all_placed hosts fits places grown k (omega (arith, grown.count)) in
    let kept = all_kept (λ (p : Place). p.parent) places all in
    subst (AreParents hosts fits) (sym is) (record {
      count = kept.0 ∙ grown.count;
      each = λ host parent e.
          let p = all_placed hosts fits places grown host (omega (arith, slice_get_within _ host parent e, kept.0, grown.count)) in
          let same : p.0.parent ≡ parent = one_get (filter_map (option_map (λ (q : Place). q.parent)) places) host p.0.parent parent (kept.1 host p.0 p.1) e in
          (p.0.root, p.0.level, subst (IsPlaced hosts fits host p.0.root p.0.level) same (grown.known host p.0 p.1).0);
    })
