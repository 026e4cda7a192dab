use Rattle.std.proofs.Common.{rules}
use Rattle.indexmap.proofs.CallerLemmas.{insert_entry-new}
use Rattle.type_table.specs.TraceMetas.{same_event}
use Rattle.type_table.proofs.declared.Declared.add_event.Goals as goal

pub returns-clause-ok : goal.returns-clause-ok
returns-clause-ok c =
    let new = insert_entry-new same_event c.self.inside.events c.args.event c.args.parts (search rules) in
    search rules
