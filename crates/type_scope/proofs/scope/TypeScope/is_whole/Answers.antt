use Rattle.std.proofs.Common.{rules}
use Rattle.type_scope.proofs.Named.{type_there}
use Rattle.type_scope.proofs.scope.TypeScope.is_whole.Goals as goal

pub get-requires : goal.get-requires
get-requires c =
    let there = type_there c.args.self.now c.args.index c.requires in
    search rules
