use Rattle.std.proofs.Common.{length, arith}
use Rattle.std.proofs.lemmas.List.Sorted.{length_permutation}
use Rattle.wait_graph.proofs.Whole.{sorted_wakes, sorted_fit}
use Rattle.wait_graph.proofs.ordered.ordered_wakes.Goals as goal

pub returns-clause-wakes : goal.returns-clause-wakes
returns-clause-wakes c = sorted_wakes c.args.vertices.now (length c.args.vertices.now) c.in_ok-wakes.wakes.items c.sort_all_wakes.new.wakes.items c.sort_all_wakes.ensures.permutation c.in_ok-wakes.ensures.wakes

pub returns-clause-fit : goal.returns-clause-fit
returns-clause-fit c = sorted_fit c.in_ok-wakes.wakes.items c.sort_all_wakes.new.wakes.items c.sort_all_wakes.ensures.permutation c.in_ok-wakes.ensures.fit

pub returns-clause-few : goal.returns-clause-few
returns-clause-few c =
    let f = c.requires.few in
    let g = c.in_ok-wakes.ensures.few in
    let l = length_permutation c.in_ok-wakes.wakes.items c.sort_all_wakes.new.wakes.items c.sort_all_wakes.ensures.permutation in omega (arith, f, g, l)
