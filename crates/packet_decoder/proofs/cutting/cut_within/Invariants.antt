use Rattle.std.proofs.Common.{length, drop, ◌-◌, ◌≡◌, ◌≤◌, ◌++◌}
use Rattle.packet_decoder.specs.Packets.{packets_in}
use Rattle.packet_decoder.specs.Pieces.{AllLieIn, pieces, pieces_from}
use Rattle.packet_decoder.proofs.cutting.cut_within.Given as goal

abbrev pub invariant-loop-offset : goal.invariant-loop-offset
invariant-loop-offset l = (l.found ++ pieces_from (length l.file - length l.found) l.meta l.offset (drop l.offset l.file) ≡ pieces l.meta l.file)
    × (length l.found ≤ l.offset) × (l.offset ≤ length l.file)
    × AllLieIn l.file l.found
    × (packets_in l.found ≡ length l.found)
    × (length l.found ≤ l.most)

abbrev pub decreases-loop-offset : goal.decreases-loop-offset
decreases-loop-offset l = length l.file - l.offset
