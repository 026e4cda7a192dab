use Rattle.wait_graph.specs.Moments.{AreSendsSoFar}
use Rattle.wait_graph.proofs.moments.note_sends.Given as goal

abbrev pub invariant-loop-message : goal.invariant-loop-message
invariant-loop-message l = AreSendsSoFar l.merged l.placed l.message-index l.sends
