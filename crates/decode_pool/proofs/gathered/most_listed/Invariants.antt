use Rattle.std.proofs.Common.{◌≡◌, ◌+◌, drop, length}
use Rattle.decode_pool.specs.Excess.{events_in}
use Rattle.decode_pool.proofs.gathered.most_listed.Given as goal

abbrev pub invariant-loop-part : goal.invariant-loop-part
invariant-loop-part l = l.events + events_in (drop l.part-index l.parts) ≡ events_in l.parts + length l.parts
