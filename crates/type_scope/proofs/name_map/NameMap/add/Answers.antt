use Rattle.std.proofs.Common.{rules, nat_eq}
use Rattle.std.specs.Cmp.Lexicographic.{pointwise}
use Rattle.indexmap.proofs.CallerLemmas.{insert_entry-new}
use Rattle.type_scope.proofs.name_map.NameMap.add.Goals as goal

pub returns-clause-ok : goal.returns-clause-ok
returns-clause-ok c =
    let new = insert_entry-new (pointwise nat_eq) c.self.inside.indices c.in_ok-name.name c.args.index (search rules) in
    search rules
