use Rattle.std.proofs.Common.{◌≡◌, length, map, take}
use Rattle.type_table.specs.Table.{AreBelow, name_at}
use Rattle.type_scope.specs.View.{state, with_table}
use Rattle.type_scope.proofs.scope.TypeScope.intern_all.Given as goal

abbrev pub invariant-loop-word : goal.invariant-loop-word
invariant-loop-word l = (state l.self ≡ state l.fn.self) × (l.self ≡ with_table l.self.table l.fn.self) × AreBelow (length l.self.table.names) l.numbers × (map (name_at l.self.table.names) l.numbers ≡ take l.word-index l.words)
