use Rattle.std.proofs.Common.{rules}
use Rattle.type_scope.proofs.Named.{type_there}
use Rattle.type_scope.proofs.scope.TypeScope.name_leads.Goals as goal

pub leads_from-requires-clause-index : goal.leads_from-requires-clause-index
leads_from-requires-clause-index c =
    let there = type_there c.args.self.now c.in-Some.index c.in-Some.ensures.found.1 in
    search rules
