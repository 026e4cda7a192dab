use Rattle.std.proofs.Common.{rules, ◌≡◌, ◌+◌, ◌<◌, ◌∷◌, ◌++◌, [], ℕ, suc, List, length, Some, None, cond, slice_get, slice_set, sym, ap, subst, ◌∙◌, refl, arith}
use Rattle.std.specs.Map.{keys_of}
use Rattle.std.proofs.lemmas.List.{map-append}
use Rattle.std.proofs.lemmas.Map.Entries.{length-keys_of}
use Rattle.indexmap.specs.IndexMap.{get, keys, insert_entry}
use Rattle.indexmap.proofs.CallerLemmas.{insert_entry-new}
use Rattle.attribute_tree.specs.declared.owner.Owner.{Owner}
use Rattle.attribute_tree.specs.declared.rows.Row.{Row}
use Rattle.attribute_tree.specs.Rows.{same_owner, owner_of, leaf_of, number_said}
use Rattle.attribute_tree.proofs.Placed.{blank, no_row, number_set}
use Rattle.attribute_tree.proofs.Found.{rowless}
use Rattle.attribute_tree.proofs.Places.{place_path, last_owner}
use Rattle.attribute_tree.proofs.rows.put_row.Goals as goal

pub returns-clause-owners : goal.returns-clause-owners
returns-clause-owners c =
    let rows = c.args.rows.now in
    let zeros : List ℕ = 0 ∷ 0 ∷ 0 ∷ 0 ∷ 0 ∷ 0 ∷ [] in
    let owner = c.split_leaf-owner.result.0 in
    let split = c.split_leaf-owner.ensures in
    let put : Row = record { node = c.args.node; numbers = slice_set zeros c.split_leaf-owner.result.1 (c.args.number + 1) } in
    let absent : get same_owner rows owner ≡ None = subst (λ o. get same_owner rows o ≡ None) (sym split.owner) (rowless (get same_owner rows (owner_of c.args.path)) c.requires.absent) in
    let entries : c.insert.new.self.entries ≡ insert_entry same_owner rows.entries owner put = search rules in
    ap keys_of (entries ∙ insert_entry-new same_owner rows owner put absent) ∙ (map-append (λ e. e.0) rows.entries ((owner, put) ∷ []) ∙ ap (λ o. keys rows ++ o ∷ []) split.owner)

pub returns-clause-place : goal.returns-clause-place
returns-clause-place c =
    let before = keys c.args.rows.now in
    let place = c.place_of-place.ensures in
    let last = ap (λ l. slice_get l (length before)) (returns-clause-owners c) ∙ last_owner before (owner_of c.args.path) in
    place_path _ c.args.path (length before) c.place_of-place.result last (place.row ∙ (c.len.ensures.len ∙ sym (length-keys_of c.args.rows.now.entries))) (place.leaf ∙ c.split_leaf-owner.ensures.leaf)

pub returns-clause-numbers : goal.returns-clause-numbers
returns-clause-numbers c =
    let rows = get same_owner c.args.rows.now in
    let zeros : List ℕ = 0 ∷ 0 ∷ 0 ∷ 0 ∷ 0 ∷ 0 ∷ [] in
    let split = c.split_leaf-owner.ensures in
    let put : Row = record { node = c.args.node; numbers = slice_set zeros c.split_leaf-owner.result.1 (c.args.number + 1) } in
    let long : length zeros ≡ 6 = refl in
    let within : leaf_of c.args.path < length zeros = omega (arith, long, split.leaf, split.within) in
    let raw : (a : Owner) → get same_owner c.insert.new.self a ≡ cond (same_owner c.split_leaf-owner.result.0 a) (Some put) (rows a) = search rules in
    let one : c.args.number + 1 ≡ suc c.args.number = omega arith in
    let none = λ (leaf : ℕ). ap number_said (blank zeros (refl, (refl, (refl, (refl, (refl, (refl, tt)))))) leaf) ∙ sym (no_row (rows (owner_of c.args.path)) leaf c.requires.absent) in
    number_set rows (get same_owner c.insert.new.self) zeros put c.args.path c.args.number none within (rw (split.leaf, one) refl) (λ a. rw (sym split.owner) (raw a))
