-- What the table notes before a place of a host's list.
use Rattle.std.proofs.Common.{ℕ, List}
use Rattle.trace_types.specs.declared.host.HostEvents.{HostEvents}
use Rattle.trace_types.specs.declared.segment.SegKey.{SegKey}
use Rattle.message_match.specs.declared.standing.Standing.{Standing}
use Rattle.message_match.specs.Standings.{Notes, no_events, receives, sends, so_far}

-- the sends before it
abbrev pub SentSoFar : List HostEvents → ℕ → ℕ → List (SegKey × Standing) → Type 0
SentSoFar hosts host place es = Notes (λ key. so_far host place (sends hosts key)) no_events es

-- all sends, and the receives before it
abbrev pub ReceivedSoFar : List HostEvents → ℕ → ℕ → List (SegKey × Standing) → Type 0
ReceivedSoFar hosts host place es = Notes (sends hosts) (λ key. so_far host place (receives hosts key)) es
