use Rattle.std.proofs.Common.{◌≡◌, drop}
use Rattle.range_query.specs.Cover.{filled}
use Rattle.range_query.proofs.cover.Cover.fill.Given as goal

abbrev pub invariant-loop-interval : goal.invariant-loop-interval
invariant-loop-interval l = filled l.end (drop l.interval-index l.intervals) l.self ≡ filled l.fn.end l.fn.intervals l.fn.self
