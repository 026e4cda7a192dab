use Rattle.std.proofs.Common.{rules, ◌≡◌, ◌+◌, ◌<◌, suc, length, Some, cond, slice_get, slice_set, sym, ap, ap₂, subst, ◌∙◌, refl, arith}
use Rattle.indexmap.specs.IndexMap.{get, values, index_of_by, with_value_at}
use Rattle.indexmap.proofs.CallerLemmas.{keys-with_value_at}
use Rattle.attribute_tree.specs.declared.owner.Owner.{Owner}
use Rattle.attribute_tree.specs.declared.rows.Row.{Row}
use Rattle.attribute_tree.specs.Rows.{same_owner, leaf_of, number_in, node_in, owner_of}
use Rattle.attribute_tree.proofs.Placed.{number_set}
use Rattle.attribute_tree.proofs.Found.{owner_at, row_at, row_set, same_nodes}
use Rattle.attribute_tree.proofs.Places.{place_path}
use Rattle.attribute_tree.proofs.rows.note_number.Goals as goal

found : (c : goal.After-rows-1) → index_of_by (same_owner (owner_of c.args.path)) c.args.rows.now ≡ Some c.in_ok-index.index
found c = subst (λ o. index_of_by (same_owner o) c.args.rows.now ≡ Some c.in_ok-index.index) c.split_leaf-owner.ensures.owner (sym c.in_ok-index.ensures.index)

had : (c : goal.After-rows-1) → get same_owner c.args.rows.now (owner_of c.args.path) ≡ Some c.pair_mut-row.result.1.now
had c = row_at c.args.rows.now (owner_of c.args.path) _ c.in_ok-index.index _ (found c) c.pair_mut-row.ensures.value
    (subst (λ o. slice_get (values c.args.rows.now) c.in_ok-index.index ≡ get same_owner c.args.rows.now o) c.split_leaf-owner.ensures.owner c.in_ok-index.ensures.value)

abbrev put : (c : goal.After-rows-1) → Row
put c = record { node = c.pair_mut-row.result.1.now.node; numbers = slice_set c.pair_mut-row.result.1.now.numbers c.split_leaf-owner.result.1 (c.args.number + 1) }

set : (c : goal.After-rows-1) (a : Owner) → get same_owner (with_value_at c.args.rows.now c.in_ok-index.index (put c)) a ≡ cond (same_owner (owner_of c.args.path) a) (Some (put c)) (get same_owner c.args.rows.now a)
set c = (row_set c.args.rows.now (owner_of c.args.path) _ c.in_ok-index.index _ (found c) c.pair_mut-row.ensures.value c.pair_mut-row.ensures.unique (put c)).0

pub returns-clause-node : goal.returns-clause-node
returns-clause-node c = ap node_in (had c)

pub returns-clause-nodes : goal.returns-clause-nodes
returns-clause-nodes c = same_nodes (get same_owner c.args.rows.now) _ (owner_of c.args.path) c.pair_mut-row.result.1.now (put c) (had c) refl (set c)

pub returns-clause-numbers : goal.returns-clause-numbers
returns-clause-numbers c =
    let old = c.pair_mut-row.result.1.now in
    let split = c.split_leaf-owner.ensures in
    let long : length old.numbers ≡ 6 = search rules in
    let within : leaf_of c.args.path < length old.numbers = omega (arith, long, split.leaf, split.within) in
    let one : c.args.number + 1 ≡ suc c.args.number = omega arith in
    number_set (get same_owner c.args.rows.now) _ old.numbers (put c) c.args.path c.args.number (λ leaf. sym (ap (λ o. number_in o leaf) (had c))) within (ap₂ (λ i n. slice_set old.numbers i n) split.leaf one) (set c)

pub returns-clause-owners : goal.returns-clause-owners
returns-clause-owners c = keys-with_value_at c.args.rows.now c.in_ok-index.index (put c)

pub returns-clause-place : goal.returns-clause-place
returns-clause-place c =
    let at = owner_at c.args.rows.now (owner_of c.args.path) _ c.in_ok-index.index _ (found c) c.pair_mut-row.ensures.value in
    let place = c.place_of-place.ensures in
    place_path _ c.args.path c.in_ok-index.index c.place_of-place.result (ap (λ l. slice_get l c.in_ok-index.index) (keys-with_value_at c.args.rows.now c.in_ok-index.index (put c)) ∙ at) place.row (place.leaf ∙ c.split_leaf-owner.ensures.leaf)
