use Rattle.std.proofs.Common.{◌≡◌, ◌≤◌, ◌+◌, ◌-◌, ◌*◌, ◌^◌, ◌++◌, drop, length}
use Rattle.trace_gen.specs.Events.{made, start}
use Rattle.trace_gen.proofs.events.made.Given as goal

abbrev pub invariant-loop-act : goal.invariant-loop-act
invariant-loop-act l = (l.events.items ++ made l.run (drop l.act-index l.acts) ≡ made (start l.number) l.acts)
    × (length l.events.items ≡ l.act-index)
    × (l.run.time + 2000 * (length l.acts - l.act-index) ≤ 2 ^ 60)
