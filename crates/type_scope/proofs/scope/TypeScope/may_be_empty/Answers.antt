use Rattle.std.proofs.Common.{rules}
use Rattle.type_scope.proofs.Named.{type_there}
use Rattle.type_scope.proofs.scope.TypeScope.may_be_empty.Goals as goal

pub type_size-requires : goal.type_size-requires
type_size-requires c =
    let there = type_there c.args.self.now c.args.index c.requires in
    search rules
