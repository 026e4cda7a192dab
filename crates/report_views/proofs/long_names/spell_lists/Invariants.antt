use Rattle.std.proofs.Common.{take}
use Rattle.report_views.specs.LongNames.{AreSpelled}
use Rattle.report_views.proofs.long_names.spell_lists.Given as goal

abbrev pub invariant-loop-list : goal.invariant-loop-list
invariant-loop-list l = AreSpelled (take l.list-index l.names) l.words.items
