use Rattle.std.proofs.Common.{rules}
use Rattle.type_table.proofs.Tables.{limited}
use Rattle.type_table.proofs.table.Table.limits.Goals as goal

pub returns-clause-depth : goal.returns-clause-depth
returns-clause-depth c =
    let small = limited c.self.inside.names.keys c.self.inside.types c.self.inside.type_sizes c.args.index c.self.invariant (search rules) in
    search rules

pub returns-clause-nodes : goal.returns-clause-nodes
returns-clause-nodes c =
    let small = limited c.self.inside.names.keys c.self.inside.types c.self.inside.type_sizes c.args.index c.self.invariant (search rules) in
    search rules
