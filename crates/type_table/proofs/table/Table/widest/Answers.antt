use Rattle.std.proofs.Common.{rules, arith}
use Rattle.std.proofs.lemmas.Grind.{common_steps}
use Rattle.type_table.proofs.Tables.{fields_known, parts_sum, widest_sum}
use Rattle.type_table.proofs.Aligned.{widest_aligns}
use Rattle.type_table.proofs.table.Table.widest.Goals as goal

pub sum_of-requires : goal.sum_of-requires
sum_of-requires c =
    let known = fields_known c.self.inside.names.keys c.self.inside.types c.self.inside.type_sizes c.args.fields.now c.self.invariant (search rules) in
    search rules

pub returns-in_err-sum_of-clause-none : goal.returns-in_err-sum_of-clause-none
returns-in_err-sum_of-clause-none c =
    let nodes = parts_sum c.self.inside.names.keys c.self.inside.types c.self.inside.type_sizes c.args.fields.now c.self.invariant (search rules) in
    first_of (search rules, grind (arith, common_steps))

pub returns-clause-found : goal.returns-clause-found
returns-clause-found c =
    let widest = widest_sum c.self.inside.names.keys c.self.inside.types c.self.inside.type_sizes c.args.fields.now c.self.invariant (search rules) in
    search rules

pub returns-clause-aligns : goal.returns-clause-aligns
returns-clause-aligns c =
    let widest = widest_sum c.self.inside.names.keys c.self.inside.types c.self.inside.type_sizes c.args.fields.now c.self.invariant (search rules) in
    let aligns = widest_aligns c.self.inside.names.keys c.self.inside.types c.args.fields.now c.self.invariant.sound in
    search rules
