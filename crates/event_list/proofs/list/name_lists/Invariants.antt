use Rattle.std.proofs.Common.{◌≡◌, take}
use Rattle.event_list.proofs.list.name_lists.Given as goal

abbrev pub invariant-loop-table : goal.invariant-loop-table
invariant-loop-table l = l.names.items ≡ take l.table-index (take l.fn.hosts l.fn.tables)
