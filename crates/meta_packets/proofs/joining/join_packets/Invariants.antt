use Rattle.std.proofs.Common.{◌≡◌, ◌≤◌, ℕ, List, length}
use Rattle.meta_packets.specs.Packets.{Leads, joined, uuid_of}
use Rattle.meta_packets.proofs.joining.join_packets.Given as goal

abbrev pub invariant-loop-uuid : goal.invariant-loop-uuid
invariant-loop-uuid l = (l.uuid ≡ uuid_of l.bytes) × ((contents : List (List ℕ)) × Leads l.order l.uuid l.bytes contents l.rest × (l.text.items ≡ joined contents)) × (length l.rest ≤ length l.bytes)

abbrev pub decreases-loop-uuid : goal.decreases-loop-uuid
decreases-loop-uuid l = length l.rest
