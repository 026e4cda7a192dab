use Rattle.std.proofs.Common.{◌≡◌, ◌++◌, All, drop, map}
use Rattle.packet_decoder.specs.Pieces.{AllLieIn}
use Rattle.decode_pool.specs.Jobs.{Allows, CanDecode, job_part}
use Rattle.decode_pool.specs.Parts.{part_of}
use Rattle.decode_pool.proofs.pieces.add_jobs.Given as goal

abbrev pub invariant-loop-piece : goal.invariant-loop-piece
invariant-loop-piece l = All CanDecode l.jobs.items
    × All (Allows l.most) l.jobs.items
    × (map job_part l.jobs.items ++ map (part_of l.host.host l.host.meta l.file) (drop l.piece-index l.pieces) ≡ map job_part l.initial.jobs.items ++ map (part_of l.host.host l.host.meta l.file) l.pieces)
    × AllLieIn l.file (drop l.piece-index l.pieces)
