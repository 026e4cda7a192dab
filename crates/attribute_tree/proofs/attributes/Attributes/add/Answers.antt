use Rattle.std.proofs.Common.{◌≡◌, ◌∷◌, [], ◌++◌, ℕ, List, Some, None, cond, length, sym, ap, ◌∙◌, subst, rules}
use Rattle.indexmap.specs.IndexMap.{get, keys}
use Rattle.trace_types.specs.declared.path.Path.{Path as AttributePath}
use Rattle.trace_types.specs.Same.{same_path}
use Rattle.attribute_tree.specs.Numbered.{Numbered, number_among}
use Rattle.attribute_tree.specs.Nodes.{same_prefix, rooted, with_nodes, kept_nodes}
use Rattle.attribute_tree.specs.Rows.{same_owner, owner_of, number_by}
use Rattle.attribute_tree.specs.Fronts.{fronts_of, prefix_of, AreKept}
use Rattle.attribute_tree.specs.Places.{paths_at, AreStored}
use Rattle.attribute_tree.proofs.Linked.{prefix_is}
use Rattle.attribute_tree.proofs.Numbers.{position_stands}
use Rattle.attribute_tree.proofs.Rooted.{root_is}
use Rattle.attribute_tree.proofs.Fronts.{tree_within}
use Rattle.attribute_tree.proofs.Kept.{kept_more}
use Rattle.attribute_tree.proofs.Places.{paths_length, paths_more, told_more}
use Rattle.attribute_tree.proofs.attributes.Attributes.add.Goals as goal

pub owner_node-spot-requires-clause-tree : goal.owner_node-spot-requires-clause-tree
owner_node-spot-requires-clause-tree c =
    let paths = paths_at (keys c.self.inside.rows) c.self.inside.places.items in
    let kept = c.self.invariant.kept in
    (kept_nodes paths, kept.tree, kept.owners, root_is paths)

pub add-requires-clause-parent : goal.add-requires-clause-parent
add-requires-clause-parent c =
    let paths = paths_at (keys c.self.inside.rows) c.self.inside.places.items in
    let kept = c.self.invariant.kept in
    let o = owner_of c.args.path in
    let node = c.owner_node-spot.result.node in
    let above = with_nodes (rooted (kept_nodes paths)) (fronts_of o) in
    let made = c.owner_node-spot.ensures.made (kept_nodes paths) kept.tree kept.owners (root_is paths) in
    tree_within above _ c.owner_node-spot.new.links c.owner_node-spot.new.links made.tree node (prefix_of o) (position_stands same_prefix prefix_is above (prefix_of o) node made.number)

pub invariant_of-self : goal.invariant_of-self
invariant_of-self c =
    let owners = keys c.self.inside.rows in
    let all = keys c.owner_node-spot.new.rows in
    let places = c.self.inside.places.items in
    let paths = paths_at owners places in
    let spot = c.owner_node-spot.result in
    let stored = c.self.invariant in
    let kept = stored.kept in
    let items : c.push_reserved.new.self.items ≡ places ++ spot.place ∷ [] = search rules in
    let count : c.len-number.result ≡ length places = search rules in
    let number : c.len-number.result ≡ length paths = count ∙ sym (paths_length owners places stored.told) in
    let new : number_among paths c.args.path ≡ None = ap (λ (n : Numbered). number_among n.paths c.args.path) c.self.view_is ∙ (ap (λ l. number_among l c.args.path) c.reserve.ensures.paths ∙ c.requires) in
    let made = c.owner_node-spot.ensures.made (kept_nodes paths) kept.tree kept.owners (root_is paths) in
    let begins = c.owner_node-spot.ensures.owners in
    let tells = c.owner_node-spot.ensures.place in
    let more = kept_more paths c.args.path (get same_owner c.self.inside.rows) (get same_owner c.owner_node-spot.new.rows) (get same_prefix c.self.inside.groups) (get same_prefix c.owner_node-spot.new.groups) c.self.inside.links c.owner_node-spot.new.links c.add.new.self
    spot.node new kept made c.add.ensures.links (λ q. c.owner_node-spot.ensures.numbers q ∙ ap (λ (n : ℕ). cond (same_path c.args.path q) (Some n) (number_by (get same_owner c.self.inside.rows) q)) number) c.owner_node-spot.ensures.nodes in
    subst (λ (l : List ℕ). AreStored all l (get same_owner c.owner_node-spot.new.rows) (get same_prefix c.owner_node-spot.new.groups) c.add.new.self) (sym items) (record {
      told = told_more owners all begins places spot.place c.args.path stored.told tells;
      kept = subst (λ (l : List AttributePath). AreKept l (get same_owner c.owner_node-spot.new.rows) (get same_prefix c.owner_node-spot.new.groups) c.add.new.self) (sym (paths_more owners all begins places spot.place c.args.path stored.told tells)) more;
    })

pub returns-clause-number : goal.returns-clause-number
returns-clause-number c =
    let places = c.self.inside.places.items in
    let count : c.len-number.result ≡ length places = search rules in
    count ∙ (sym (paths_length (keys c.self.inside.rows) places c.self.invariant.told) ∙ (ap (λ (n : Numbered). length n.paths) c.self.view_is ∙ ap (λ (l : List AttributePath). length l) c.reserve.ensures.paths))

pub returns-clause-paths : goal.returns-clause-paths
returns-clause-paths c =
    let owners = keys c.self.inside.rows in
    let all = keys c.owner_node-spot.new.rows in
    let places = c.self.inside.places.items in
    let spot = c.owner_node-spot.result in
    let items : c.push_reserved.new.self.items ≡ places ++ spot.place ∷ [] = search rules in
    let before : paths_at owners places ≡ c.args.self.now.paths = ap (λ (n : Numbered). n.paths) c.self.view_is ∙ c.reserve.ensures.paths in
    ap (paths_at all) items ∙ (paths_more owners all c.owner_node-spot.ensures.owners places spot.place c.args.path c.self.invariant.told c.owner_node-spot.ensures.place ∙ ap (λ l. l ++ c.args.path ∷ []) before)
