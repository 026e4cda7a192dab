use Rattle.std.proofs.Common.{◌+◌, ◌*◌, ◌<◌, ◌^◌, length, rules, sym, subst}
use Rattle.history_lock.specs.Turn.{IsPlan}
use Rattle.history_lock.proofs.Plans.{merge_plan}
use Rattle.history_lock.proofs.shared.open_with.Goals as goal

pub begin-requires : goal.begin-requires
begin-requires g c =
    let small : length c.args.events.now * 17 + 1 < 2 ^ 64 = search rules in
    record { short = subst (λ l. length l < 2 ^ 64) (sym c.requires.plan) (merge_plan c.args.events.now c.requires.merge small).short }

pub invariant_of-builder : goal.invariant_of-builder
invariant_of-builder g c =
    let small : length c.args.events.now * 17 + 1 < 2 ^ 64 = search rules in
    let is : IsPlan g.J.Planned.plan = subst IsPlan (sym c.requires.plan) (merge_plan c.args.events.now c.requires.merge small) in
    search rules
