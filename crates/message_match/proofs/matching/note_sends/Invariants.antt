use Rattle.message_match.proofs.SoFar.{SentSoFar}
use Rattle.message_match.proofs.matching.note_sends.Given as goal

abbrev pub invariant-loop-place : goal.invariant-loop-place
invariant-loop-place l = SentSoFar l.hosts l.host-index l.place l.segments.entries

abbrev pub invariant-loop-host : goal.invariant-loop-host
invariant-loop-host l = SentSoFar l.hosts l.host-index 0 l.segments.entries
