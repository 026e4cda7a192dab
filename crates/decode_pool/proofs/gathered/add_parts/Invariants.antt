use Rattle.std.proofs.Common.{◌≡◌, ◌+◌, ◌++◌, drop, length}
use Rattle.decode_pool.specs.Hosts.{incomplete_in, refused_in}
use Rattle.decode_pool.specs.Marks.{accepted_in}
use Rattle.decode_pool.proofs.gathered.add_parts.Given as goal

abbrev pub invariant-loop-part : goal.invariant-loop-part
invariant-loop-part l = (l.gathered.events.items ≡ l.initial.gathered.events.items)
    × (l.gathered.refused.items ++ refused_in l.name (drop l.part-index l.parts) ≡ l.initial.gathered.refused.items ++ refused_in l.name l.parts)
    × (l.gathered.packets + length (accepted_in (drop l.part-index l.parts)) ≡ l.initial.gathered.packets + length (accepted_in l.parts))
    × (l.gathered.incomplete + incomplete_in (accepted_in (drop l.part-index l.parts)) ≡ l.initial.gathered.incomplete + incomplete_in (accepted_in l.parts))
    × (l.gathered.host ≡ l.initial.gathered.host) × (l.gathered.hostname ≡ l.initial.gathered.hostname) × (l.gathered.names ≡ l.initial.gathered.names)
