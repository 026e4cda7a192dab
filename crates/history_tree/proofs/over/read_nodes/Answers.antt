use Rattle.std.proofs.Common.{◌≡◌, ◌+◌, ◌<◌, ◌≤◌, length, filter, take, get_or, true, rules, arith}
use Rattle.std.proofs.lemmas.List.{length-take}
use Rattle.std.proofs.lemmas.List.Elements.{recursion_from_All}
use Rattle.std.proofs.lemmas.List.Filters.{length-filter_more}
use Rattle.history_tree.specs.Over.{may_hold}
use Rattle.history_tree.proofs.Gathering.{rises, rises_few, counted, kept_all, kept_few}
use Rattle.history_tree.proofs.over.read_nodes.Goals as goal

pub node-node-requires-clause-few : goal.node-node-requires-clause-few
node-node-requires-clause-few c =
    let numbers = c.args.numbers.now in
    let test = may_hold c.args.sought.now c.args.nodes.now.nodes in
    let there = recursion_from_All (λ n. n < length c.args.nodes.now.nodes) numbers c.requires.there in
    let up = rises numbers 0 c.requires.rising (λ n ms e. omega arith) in
    let few : length numbers + 0 ≤ length c.args.nodes.now.nodes = rises_few numbers 0 (length c.args.nodes.now.nodes) up there (omega arith) in
    let kept : length (filter test (take c.loop-number.number-index numbers)) ≤ length (take c.loop-number.number-index numbers) = kept_few test (take c.loop-number.number-index numbers) in
    let reads = c.loop-number.invariant.reads in
    omega (arith, few, kept, reads, length-take c.loop-number.number-index numbers, c.requires.few)

pub returns-in_err-gather-clause-few_reads : goal.returns-in_err-gather-clause-few_reads
returns-in_err-gather-clause-few_reads c =
    let numbers = c.args.numbers.now in
    let test = may_hold c.args.sought.now c.args.nodes.now.nodes in
    let there = recursion_from_All (λ n. n < length c.args.nodes.now.nodes) numbers c.requires.there in
    let up = rises numbers 0 c.requires.rising (λ n ms e. omega arith) in
    let all = counted c.args.sought.now c.args.nodes.now.nodes numbers up there in
    let more = length-filter_more test numbers c.loop-number.number-index 0 c.loop-number-test.true in
    let some = kept_all test numbers (c.loop-number.number-index + 1) in
    let reads = c.loop-number.invariant.reads in
    let read = c.node-node.ensures.reads in
    let may : test (get_or numbers c.loop-number.number-index 0) ≡ true = search rules in
    let one : length (filter test (take (c.loop-number.number-index + 1) numbers)) ≡ length (filter test (take c.loop-number.number-index numbers)) + 1 = rw may at more in
    omega (arith, all, some, reads, read, one)

pub returns-clause-few_reads : goal.returns-clause-few_reads
returns-clause-few_reads c =
    let numbers = c.args.numbers.now in
    let test = may_hold c.args.sought.now c.args.nodes.now.nodes in
    let there = recursion_from_All (λ n. n < length c.args.nodes.now.nodes) numbers c.requires.there in
    let up = rises numbers 0 c.requires.rising (λ n ms e. omega arith) in
    let all = counted c.args.sought.now c.args.nodes.now.nodes numbers up there in
    let some = kept_all test numbers c.loop-number.number-index in
    let reads = c.loop-number.invariant.reads in
    omega (arith, all, some, reads)
