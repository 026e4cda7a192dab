-- The text of a report hangs on no point of a line or of a contradiction.
use Rattle.std.proofs.Common.{◌≡◌, ℕ, ℤ, pos, ◌+◌, ◌*◌, ◌/◌, ◌-◌, ◌-ℤ◌, ◌<◌, Bool, true, false, if◌then◌else◌, None, Some, List, [], ◌∷◌, ◌++◌, codes, length, refl, sym, ap, ap₂, ◌∙◌, arith}
use Rattle.std.specs.Prelude.{Option, flat_map, slice_get, ◌==◌}
use Rattle.std.specs.List.{range_with_len}
use Rattle.std.specs.Fmt.{decimal, signed_decimal}
use Rattle.std.proofs.Math.Nat.{mul-div-mul_left}
use Rattle.std.proofs.lemmas.Option.{slice_get-get_or}
use Rattle.std.specs.Prelude.{get_or}
use Rattle.clock_fraction.specs.Fractions.{IsSame}
use Rattle.clock_fraction.specs.declared.pair_map.PairMap.{PairMap}
use Rattle.clock_fraction.specs.declared.slope.Slope.{Slope}
use Rattle.hull_lines.specs.declared.outcome.Fit.{Fit}
use Rattle.hull_lines.specs.declared.outcome.Fit.TheVariants.{Map, Absent, Refused}
use Rattle.host_tree.specs.Forest.{IsUsablePair}
use Rattle.host_tree.specs.Order.{HaveSamePairs}
use Rattle.host_tree.specs.declared.parent.Parent.{Parent}
use Rattle.host_tree.specs.declared.parent.Parent.TheVariants.{Root, Child}
use Rattle.report_views.specs.CallLines.{call_lines}
use Rattle.report_views.specs.TimeLines.{time_lines}
use Rattle.report_views.specs.Report.{count_from, deviation, hosts_part, is_map, merge_part, messages_line, pair_line, pair_lines, pair_lines_of, tree_line, tree_lines, yes_or_no}
use Rattle.report_views.specs.SameReport.{AreSameTrees, HaveOneReport, HaveSameSlopes}
use Rattle.report_views.proofs.ReportLines.{same_lines}

-- ---- equal fractions deviate by equal parts
same_part : (p q r s : ℕ) → 0 < q → 0 < s → p * s ≡ r * q → p * 1_000_000_000 / q ≡ r * 1_000_000_000 / s
same_part p q r s q_above s_above same =
    let up : s * (p * 1_000_000_000) ≡ q * (r * 1_000_000_000) = omega (arith, same) in
    let down : s * q ≡ q * s = omega arith in
    sym (mul-div-mul_left (p * 1_000_000_000) q s_above) ∙ (ap₂ (λ a b. a / b) up down ∙ mul-div-mul_left (r * 1_000_000_000) s q_above)

same_deviation : (a b : Slope) → IsSame a b → deviation a ≡ deviation b
same_deviation a b same = ap (λ n. pos n -ℤ pos 1_000_000_000) (same_part a.p a.q b.p b.q a.q_above b.q_above same)

-- ---- pairs
map_of : (fit : Option Fit) → is_map fit ≡ true → (map : PairMap) × (fit ≡ Some (Map map))
map_of None is = absurd (cc)
map_of (Some (Map map)) is = (map, refl)
map_of (Some (Absent n m)) is = absurd (cc)
map_of (Some (Refused c)) is = absurd (cc)

is_map_at : (hosts : ℕ) (fits : List Fit) (u v : ℕ) → IsUsablePair hosts fits u v → is_map (slice_get fits (u * hosts + v)) ≡ true
is_map_at hosts fits u v usable = ap is_map usable.fit

usable_at : (hosts : ℕ) (fits : List Fit) (u v : ℕ) → u < hosts → v < hosts → is_map (slice_get fits (u * hosts + v)) ≡ true → IsUsablePair hosts fits u v
usable_at hosts fits u v u_in v_in is = let found = map_of (slice_get fits (u * hosts + v)) is in record { parent_in = u_in; child_in = v_in; map = found.0; fit = found.1 }

same_bool : (a b : Bool) → (a ≡ true → b ≡ true) → (b ≡ true → a ≡ true) → a ≡ b
same_bool true true there back = refl
same_bool true false there back = sym (there refl)
same_bool false true there back = back refl
same_bool false false there back = refl

same_map : (hosts : ℕ) (fits others : List Fit) (u v : ℕ) → u < hosts → v < hosts → HaveSamePairs hosts fits others → is_map (slice_get fits (u * hosts + v)) ≡ is_map (slice_get others (u * hosts + v))
same_map hosts fits others u v u_in v_in same =
    same_bool _ _ (λ is. is_map_at hosts others u v ((same u v).0 (usable_at hosts fits u v u_in v_in is))) (λ is. is_map_at hosts fits u v ((same u v).1 (usable_at hosts others u v u_in v_in is)))

same_pair : (hosts : ℕ) (count : ℕ → ℕ → ℕ) (fits others : List Fit) (u v : ℕ) → u < hosts → v < hosts → HaveSamePairs hosts fits others → pair_line hosts count fits u v ≡ pair_line hosts count others u v
same_pair hosts count fits others u v u_in v_in same =
    ap₂ (λ (a b : Bool). if count u v + count v u == 0 then [] else codes "pair " ++ decimal u ++ 32 ∷ decimal v ++ 32 ∷ decimal (count u v) ++ 32 ∷ decimal (count v u) ++ 32 ∷ yes_or_no a ++ 32 ∷ yes_or_no b ++ 10 ∷ [])
    (same_map hosts fits others u v u_in v_in same) (same_map hosts fits others v u v_in u_in same)

same_pairs : (hosts : ℕ) (count : ℕ → ℕ → ℕ) (fits others : List Fit) → HaveSamePairs hosts fits others → pair_lines hosts count fits ≡ pair_lines hosts count others
same_pairs hosts count fits others same =
    same_lines (pair_lines_of hosts count fits) (pair_lines_of hosts count others) 0 hosts (λ u low high.
    same_lines (pair_line hosts count fits u) (pair_line hosts count others u) (u + 1) (hosts - (u + 1)) (λ v after within.
    same_pair hosts count fits others u v (omega (arith, high)) (omega (arith, high, within)) same))

-- ---- trees
child_line : ℕ → ℕ → ℤ → ℤ → List ℕ
child_line host parent steep flat = codes "tree " ++ decimal host ++ codes " parent " ++ decimal parent ++ codes " steep " ++ signed_decimal steep ++ codes " flat " ++ signed_decimal flat ++ 10 ∷ []

same_tree : (host : ℕ) (p q : Parent) → HaveSameSlopes p q → tree_line host (Some p) ≡ tree_line host (Some q)
unfolding child_line
same_tree host Root Root same = refl
same_tree host Root (Child q n) same = absurd same
same_tree host (Child p m) Root same = absurd same
same_tree host (Child p m) (Child q n) same =
    ap (λ k. child_line host k (deviation m.steep.slope) (deviation m.flat.slope)) same.0
    ∙ ap₂ (child_line host q) (same_deviation m.steep.slope n.steep.slope same.1) (same_deviation m.flat.slope n.flat.slope same.2)

pub same_trees : (parents others : List Parent) → AreSameTrees parents others → tree_lines parents ≡ tree_lines others
same_trees parents others same =
    let count = same.count in
    same_lines (λ host. tree_line host (slice_get parents host)) (λ host. tree_line host (slice_get others host)) 0 (length parents) (λ host low high.
    let here = slice_get-get_or parents host Root (omega (arith, high)) in
    let there = slice_get-get_or others host Root (omega (arith, high, count)) in
    ap (tree_line host) here ∙ (same_tree host (get_or parents host Root) (get_or others host Root) (same.each host (get_or parents host Root) (get_or others host Root) here there) ∙ ap (tree_line host) (sym there)))
    ∙ ap (λ n. flat_map (λ host. tree_line host (slice_get others host)) (range_with_len 0 n)) count

-- ---- the whole
pub one_report : HaveOneReport
one_report hosts matched ambiguous fits others parents more merged placed drift pairs trees =
    ap₂ (λ a b. hosts_part hosts drift ++ (messages_line matched ambiguous ++ a ++ b) ++ merge_part matched merged placed ++ time_lines merged ++ flat_map call_lines hosts ++ codes "end\n") (same_pairs (length hosts) (count_from matched) fits others pairs) (same_trees parents more trees)
