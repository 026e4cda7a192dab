use Rattle.host_merge.specs.PlaceLists.{ArePlaceLists}
use Rattle.host_merge.proofs.place_lists.add_places.Given as goal

abbrev pub invariant-loop-place : goal.invariant-loop-place
invariant-loop-place l = ArePlaceLists l.merged l.place l.lists.items
