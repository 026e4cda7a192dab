use Rattle.std.proofs.Common.{◌≡◌, List, Some, slice_get, subst}
use Rattle.wait_graph.specs.declared.change.Change.{Change}
use Rattle.wait_graph.proofs.ordered.all_stretches.Goals as goal

pub stretches-requires-clause-within : goal.stretches-requires-clause-within
stretches-requires-clause-within c = λ k d at. (c.in_ok-changes.ensures.changes.sound k d (subst (λ (l : List Change). slice_get l k ≡ Some d) c.deref.ensures.value at)).1
