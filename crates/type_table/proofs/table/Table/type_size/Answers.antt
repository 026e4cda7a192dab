use Rattle.std.proofs.Common.{rules}
use Rattle.type_table.proofs.Aligned.{tree_aligns}
use Rattle.type_table.proofs.Tables.{facts_count, facts_stand}
use Rattle.type_table.proofs.table.Table.type_size.Goals as goal

pub type_size_at-requires : goal.type_size_at-requires
type_size_at-requires c =
    let count = facts_count c.self.inside.names.keys c.self.inside.types c.self.inside.type_sizes c.args.index c.self.invariant (search rules) in
    search rules

pub returns-clause-known : goal.returns-clause-known
returns-clause-known c =
    let stands = facts_stand c.self.inside.names.keys c.self.inside.types c.self.inside.type_sizes c.args.index c.self.invariant (search rules) in
    search rules

pub returns-clause-aligns : goal.returns-clause-aligns
returns-clause-aligns c =
    let stands = facts_stand c.self.inside.names.keys c.self.inside.types c.self.inside.type_sizes c.args.index c.self.invariant (search rules) in
    let aligns = tree_aligns c.self.inside.names.keys c.self.inside.types c.args.index c.self.invariant.sound in
    search rules
