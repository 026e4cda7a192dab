use Rattle.std.proofs.Common.{◌+◌, List, take, subst, sym, refl}
use Rattle.std.proofs.lemmas.List.{take_all}
use Rattle.trace_types.specs.declared.event.Merged.{Merged}
use Rattle.host_merge.specs.Lists.{IsJoined}
use Rattle.host_merge.proofs.Joins.{joined_more, none_joined}
use Rattle.host_merge.proofs.lists.put_at_end.Goals as goal

pub loop-other-init : goal.loop-other-init
loop-other-init c = none_joined c.args.map.now c.args.heads.now.items c.args.heads.now.items refl

pub loop-other-preserved : goal.loop-other-preserved
loop-other-preserved c =
    subst (IsJoined c.args.map.now (take (c.loop-other.other-index + 1) c.args.others.now) c.args.heads.now.items) (sym {A = List Merged} c.in_ok-push.ensures.items)
    (joined_more c.args.map.now c.args.others.now c.args.heads.now.items c.loop-other.heads.items c.loop-other.other-index c.other-item.result c.brought.result c.loop-other-test.true c.other-item.is c.brought.ensures.event
    c.brought.ensures.key c.brought.ensures.range c.loop-other.invariant)

pub returns : goal.returns
returns c = subst (λ xs. IsJoined c.args.map.now xs c.args.heads.now.items c.loop-other.heads.items) (take_all c.loop-other.other-index c.args.others.now c.loop-other-test.false) c.loop-other.invariant
