use Rattle.std.proofs.Common.{◌≡◌, to_z, of_z, rules, arith, subst}
use mir.Syntax.{w128}
use Rattle.type_table.specs.Labels.{EndBelow}
use Rattle.type_table.proofs.Halves.{only_one, none_left}
use Rattle.type_table.proofs.labels.nearest.Goals as goal

pub returns-then-passed-labels-clause-all : goal.returns-then-passed-labels-clause-all
returns-then-passed-labels-clause-all c =
    let same : to_z w128 (of_z w128 c.args.value) ≡ c.args.value = search rules in
    let below = subst (λ v. EndBelow v c.args.labels.now c.count_below-passed.result) same c.count_below-passed.ensures.below in
    only_one c.args.value c.args.labels.now c.count_below-passed.result c.requires below

pub returns-else-passed-labels-clause-all : goal.returns-else-passed-labels-clause-all
returns-else-passed-labels-clause-all c =
    let same : to_z w128 (of_z w128 c.args.value) ≡ c.args.value = search rules in
    let below = subst (λ v. EndBelow v c.args.labels.now c.count_below-passed.result) same c.count_below-passed.ensures.below in
    none_left c.args.value c.args.labels.now c.count_below-passed.result c.requires (omega arith) below
