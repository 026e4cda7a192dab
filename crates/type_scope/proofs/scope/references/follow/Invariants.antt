use Rattle.std.proofs.Common.{◌≡◌, ◌<◌, IfSome, length, drop, map, option_map}
use Rattle.type_scope.specs.Following.{follow}
use Rattle.type_table.specs.Table.{AreBelow, name_at, tree}
use Rattle.type_scope.proofs.scope.references.follow.Given as goal

abbrev pub invariant-loop-name : goal.invariant-loop-name
invariant-loop-name l = (follow (option_map (tree l.table) l.at) (map (name_at l.table.names) (drop l.name-index l.names)) ≡ follow (option_map (tree l.table) l.fn.index) (map (name_at l.table.names) l.names))
    × IfSome l.at (λ p. p < length l.table.types)
    × AreBelow (length l.table.names) (drop l.name-index l.names)
