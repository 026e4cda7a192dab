use Rattle.std.proofs.Common.{◌≡◌, ◌++◌, drop}
use Rattle.decode_pool.specs.Marks.{file_events, accepted_in, listed}
use Rattle.decode_pool.proofs.listing.add_file_events.Given as goal

abbrev pub invariant-loop-part : goal.invariant-loop-part
invariant-loop-part l = l.events.items ++ listed l.before l.lost (accepted_in (drop l.part-index l.parts)) ≡ l.initial.events.items ++ file_events l.parts
