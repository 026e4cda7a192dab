use Rattle.std.proofs.Common.{◌<◌, ◌^◌, length, arith}
use Rattle.std.proofs.lemmas.List.Sorted.{length_permutation}
use Rattle.wait_graph.proofs.Whole.{sorted_changes, changes_rise}
use Rattle.wait_graph.proofs.ordered.ordered_changes.Goals as goal

pub returns-clause-changes : goal.returns-clause-changes
returns-clause-changes c = sorted_changes c.args.merged.now (let f = c.requires.few in omega (arith, f)) c.in_ok-changes.changes.items c.sort_all_changes.new.changes.items c.sort_all_changes.ensures.permutation c.in_ok-changes.ensures.changes

pub returns-clause-rise : goal.returns-clause-rise
returns-clause-rise c =
    let small : length c.args.merged.now < 2 ^ 32 = let f = c.requires.few in omega (arith, f) in
    changes_rise c.args.merged.now small c.sort_all_changes.new.changes.items
    (sorted_changes c.args.merged.now small c.in_ok-changes.changes.items c.sort_all_changes.new.changes.items c.sort_all_changes.ensures.permutation c.in_ok-changes.ensures.changes)
    c.sort_all_changes.ensures.sorted

pub returns-clause-few : goal.returns-clause-few
returns-clause-few c =
    let f = c.requires.few in
    let g = c.in_ok-changes.ensures.few in
    let l = length_permutation c.in_ok-changes.changes.items c.sort_all_changes.new.changes.items c.sort_all_changes.ensures.permutation in omega (arith, f, g, l)
