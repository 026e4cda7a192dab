use Rattle.std.proofs.Common.{◌≡◌, ◌++◌, ◌<◌, ℕ, List, length, take, drop, get_or, flat_map, ap, ◌∙◌, subst, arith}
use Rattle.std.specs.List.Sorted.{IsPermutation}
use Rattle.std.proofs.lemmas.Grind.{common_steps}
use Rattle.std.proofs.lemmas.List.Elements.{Contains-get_or}
use Rattle.std.proofs.lemmas.List.Sorted.{length_permutation}
use Rattle.history_nodes.specs.declared.interval.Interval.{Interval}
use Rattle.history_tree.specs.declared.over.Sought.{Sought}
use Rattle.history_tree.specs.Tree.{tree_of}
use Rattle.history_tree.specs.Over.{sought_in}
use Rattle.history_tree.proofs.Overlooking.{nodes_there, are_over}
use Rattle.history_tree.proofs.tree.Tree.over.Goals as goal

pub read_nodes-requires-clause-there : goal.read_nodes-requires-clause-there
read_nodes-requires-clause-there c =
    let nodes = c.self.inside.nodes.nodes in
    let numbers = c.in_ok-numbers.numbers.items in
    let there = λ (k d : ℕ) (lt : k < length numbers). nodes_there nodes c.self.inside.places c.args.number c.args.from c.args.to (get_or numbers k d) c.over.result.now c.self.invariant.indexed c.over.ensures ((c.in_ok-numbers.ensures.each (get_or numbers k d)).0 (Contains-get_or numbers k d lt)) in
    rw c.deref.ensures.value there

pub returns-clause-over : goal.returns-clause-over
returns-clause-over c =
    let t = tree_of c.self.inside.nodes.nodes c.self.inside.root c.self.inside.leaf c.self.inside.greatest in
    let sought : Sought = record { number = c.args.number; from = c.args.from; to = c.args.to } in
    let numbers = c.in_ok-numbers.numbers.items in
    let sorted = c.sort_by_start.new.intervals in
    let long : length sorted ≡ length c.deref_mut.result.now = length_permutation _ _ c.sort_by_start.ensures.permutation in
    let whole : take c.in_ok-found.found.len (sorted ++ drop (length sorted) c.in_ok-found.found.items) ≡ sorted = grind (arith, common_steps) in
    let given : c.deref_mut.result.now ≡ flat_map (sought_in sought t.nodes) numbers = c.deref_mut.ensures.value ∙ (c.in_ok-found.ensures.found ∙ ap (flat_map (sought_in sought t.nodes)) c.deref.ensures.value) in
    let moved : IsPermutation (flat_map (sought_in sought t.nodes) numbers) sorted = subst (λ (l : List Interval). IsPermutation l sorted) given c.sort_by_start.ensures.permutation in
    rw (whole, ← c.self.view_is) (are_over t c.self.inside.places sought c.over.result.now numbers sorted c.self.invariant.tree c.self.invariant.indexed c.requires.order c.over.ensures c.in_ok-numbers.ensures.rising c.in_ok-numbers.ensures.each moved c.sort_by_start.ensures.sorted)
