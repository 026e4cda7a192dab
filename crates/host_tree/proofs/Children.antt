-- A host's children while they get their places, one by one.
use Rattle.std.proofs.Common.{◌≡◌, ◌≢◌, ◌<◌, ◌≤◌, ◌+◌, ◌*◌, ◌⊎◌, inl, inr, ℕ, cond, Option, None, Some, is_none, List, length, set, get_or, slice_get, count_by, refl, sym, ap, ◌∙◌, subst, arith}
use Rattle.std.proofs.lemmas.Bool.{cases_lt}
use Rattle.std.proofs.lemmas.List.{length-set}
use Rattle.std.proofs.lemmas.List.Sums.{sum_by-set}
use Rattle.std.proofs.lemmas.Option.{slice_get_within, get_or_from_slice_get}
use Rattle.clock_fraction.specs.declared.pair_map.PairMap.{PairMap}
use Rattle.hull_lines.specs.declared.outcome.Fit.{Fit}
use Rattle.hull_lines.specs.declared.outcome.Fit.TheVariants.{Map}
use Rattle.host_tree.specs.declared.parent.Parent.TheVariants.{Child}
use Rattle.host_tree.specs.declared.place.Place.{Place}
use Rattle.host_tree.specs.Forest.{IsUsablePair}
use Rattle.host_tree.specs.Places.{AreUnder}
use Rattle.host_tree.proofs.Gets.{at_set, beside_set}

-- a place less is empty
pub one_less : (places : List (Option Place)) (i : ℕ) (place : Place) → slice_get places i ≡ Some None → count_by is_none (set places i (Some place)) + 1 ≡ count_by is_none places
one_less places i place e =
    let s = sum_by-set (λ (o : Option Place). cond (is_none o) 1 0) places i (Some place) None (slice_get_within places i None e) in
    let at : get_or places i None ≡ None = get_or_from_slice_get places i None None e in
    let f : ◌≡◌ {A = ℕ} (cond (is_none (get_or places i None)) 1 0) 1 = ap (λ (o : Option Place). cond (is_none o) 1 0) at in
    omega (arith, s, f)

-- of the hosts below `child`, those that are usable from the parent have their places; `added` of them had none before
pub record AreUnderBelow (hosts : ℕ) (fits : List Fit) (root level parent child added : ℕ) (old new : List (Option Place)) : Type 0 where
  pub count : length new ≡ length old
  pub kept : (host : ℕ) (place : Place) → slice_get old host ≡ Some (Some place) → slice_get new host ≡ Some (Some place)
  pub placed : (host : ℕ) (map : PairMap) → host < child → slice_get old host ≡ Some None → slice_get fits (parent * hosts + host) ≡ Some (Map map) → slice_get new host ≡ Some (Some (record { root = root; level = level; parent = Child parent map }))
  pub left : (host : ℕ) → slice_get old host ≡ Some None → ¬ IsUsablePair hosts fits parent host → slice_get new host ≡ Some None
  pub rest : (host : ℕ) → child ≤ host → slice_get new host ≡ slice_get old host
  pub counted : count_by is_none new + added ≡ count_by is_none old
  pub idle : added ≡ 0 → new ≡ old
  pub few : added ≤ child

module _ (hosts : ℕ) (fits : List Fit) (root level parent : ℕ) where
  pub none_under : (old : List (Option Place)) → AreUnderBelow hosts fits root level parent 0 0 old old
  none_under old = record {
    count = refl;
    kept = λ host place e. e;
    placed = λ host map h. absurd (omega arith);
    left = λ host e _. e;
    rest = λ host _. refl;
    counted = omega arith;
    idle = λ _. refl;
    few = omega arith;
  }

  -- a host that isn't usable, or has its place, is passed over
  pub passed_over : (child added : ℕ) (old new : List (Option Place)) → ((map : PairMap) → slice_get old child ≡ Some None → slice_get fits (parent * hosts + child) ≡ Some (Map map) → ⊥) → AreUnderBelow hosts fits root level parent child added old new → AreUnderBelow hosts fits root level parent (child + 1) added old new
  passed_over child added old new over u = record {
    count = u.count;
    kept = u.kept;
    placed = λ host map h e f. placed host map e f (cases_lt host child) h;
    left = u.left;
    rest = λ host h. u.rest host (omega arith);
    counted = u.counted;
    idle = u.idle;
    few = omega (arith, u.few);
  }
    where
      placed : (host : ℕ) (map : PairMap) → slice_get old host ≡ Some None → slice_get fits (parent * hosts + host) ≡ Some (Map map) → (host < child) ⊎ (child ≤ host) → host < child + 1 → slice_get new host ≡ Some (Some (record { root = root; level = level; parent = Child parent map }))
      placed host map e f (inl less) h = u.placed host map less e f
      placed host map e f (inr more) h = let same : host ≡ child = omega arith in absurd (over map (ap (slice_get old) (sym same) ∙ e) (ap (λ x. slice_get fits (parent * hosts + x)) (sym same) ∙ f))

  -- a host that is usable, and has no place, gets one
  pub one_placed : (child added : ℕ) (map : PairMap) (old new : List (Option Place)) → child < hosts → parent < hosts → slice_get new child ≡ Some None → slice_get fits (parent * hosts + child) ≡ Some (Map map)
      → AreUnderBelow hosts fits root level parent child added old new → AreUnderBelow hosts fits root level parent (child + 1) (added + 1) old (set new child (Some (record { root = root; level = level; parent = Child parent map })))
  one_placed child added map old new ch ph none fit u = record {
    count = length-set new child (Some place) ∙ u.count;
    kept = λ host q e. beside_set new child host (Some place) (not_here host q e) ∙ u.kept host q e;
    placed = λ host m h e f. placed host m e f (cases_lt host child) h;
    left = λ host e n. beside_set new child host (Some place) (λ same. n (subst (IsUsablePair hosts fits parent) (sym same) usable)) ∙ u.left host e n;
    rest = λ host h. beside_set new child host (Some place) (λ same. omega (arith, same)) ∙ u.rest host (omega arith);
    counted = omega (arith, u.counted, one_less new child place none);
    idle = λ e. absurd (omega arith);
    few = omega (arith, u.few);
  }
    where
      place : Place
      place = record { root = root; level = level; parent = Child parent map }

      usable : IsUsablePair hosts fits parent child
      usable = record { parent_in = ph; child_in = ch; map = map; fit = fit }

      not_here : (host : ℕ) (q : Place) → slice_get old host ≡ Some (Some q) → host ≢ child
      not_here host q e same = let k : slice_get new child ≡ Some (Some q) = ap (slice_get new) (sym same) ∙ u.kept host q e in cc

      placed : (host : ℕ) (m : PairMap) → slice_get old host ≡ Some None → slice_get fits (parent * hosts + host) ≡ Some (Map m) → (host < child) ⊎ (child ≤ host) → host < child + 1
          → slice_get (set new child (Some place)) host ≡ Some (Some (record { root = root; level = level; parent = Child parent m }))
      placed host m e f (inl less) h = beside_set new child host (Some place) (λ same. omega (arith, same)) ∙ u.placed host m less e f
      placed host m e f (inr more) h =
          let same : host ≡ child = omega arith in
          let here : slice_get fits (parent * hosts + child) ≡ Some (Map m) = ap (λ x. slice_get fits (parent * hosts + x)) (sym same) ∙ f in
          let maps : map ≡ m = cc in
          ap (slice_get (set new child (Some place))) same ∙ (at_set new child (Some place) (slice_get_within new child None none) ∙ ap (λ x. Some (Some (record { root = root; level = level; parent = Child parent x }))) maps)

  -- all hosts were looked at
  pub all_under : (added : ℕ) (old new : List (Option Place)) → AreUnderBelow hosts fits root level parent hosts added old new → AreUnder hosts fits root level parent old new
  all_under added old new u = record { count = u.count; kept = u.kept; added = u.placed; left = u.left }
