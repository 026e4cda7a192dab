use Rattle.std.proofs.Common.{rules, nat_eq}
use Rattle.indexmap.proofs.CallerLemmas.{insert_entry-new}
use Rattle.type_table.proofs.declared.Declared.add_stream.Goals as goal

pub returns-clause-ok : goal.returns-clause-ok
returns-clause-ok c =
    let new = insert_entry-new nat_eq c.self.inside.streams c.args.id c.args.scopes (search rules) in
    search rules
