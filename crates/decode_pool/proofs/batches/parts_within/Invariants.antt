use Rattle.std.proofs.Common.{◌≡◌, ◌≤◌, ◌+◌, ◌-◌, ◌++◌, drop, length, map}
use Rattle.decode_pool.specs.Excess.{events_in}
use Rattle.decode_pool.specs.Jobs.{job_part}
use Rattle.decode_pool.proofs.batches.parts_within.Given as goal

abbrev pub invariant-loop-done : goal.invariant-loop-done
invariant-loop-done g l = (l.parts.items ++ map job_part (drop l.done l.jobs) ≡ map job_part l.jobs)
    × (l.room + events_in (map job_part l.jobs) ≡ l.most + events_in (map job_part (drop l.done l.jobs)))
    × (l.room ≤ l.most)
    × (l.done ≤ length l.jobs)

abbrev pub decreases-loop-done : goal.decreases-loop-done
decreases-loop-done g l = length l.jobs - l.done
