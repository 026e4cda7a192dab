use Rattle.message_match.proofs.SoFar.{ReceivedSoFar}
use Rattle.message_match.proofs.matching.note_receives.Given as goal

abbrev pub invariant-loop-place : goal.invariant-loop-place
invariant-loop-place l = ReceivedSoFar l.hosts l.host-index l.place l.segments.entries

abbrev pub invariant-loop-host : goal.invariant-loop-host
invariant-loop-host l = ReceivedSoFar l.hosts l.host-index 0 l.segments.entries
