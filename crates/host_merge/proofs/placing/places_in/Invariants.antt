use Rattle.std.proofs.Common.{take}
use Rattle.host_merge.specs.Placed.{ArePlaced}
use Rattle.host_merge.proofs.placing.places_in.Given as goal

abbrev pub invariant-loop-message : goal.invariant-loop-message
invariant-loop-message l = ArePlaced l.fn.merged (take l.message-index l.messages) l.placed.items
