use Rattle.std.proofs.Common.{◌<◌, ◌+◌, ◌*◌, [], set, take, refl, subst, sym}
use Rattle.std.proofs.lemmas.Nat.{mul-add-lt}
use Rattle.host_tree.specs.Gathered.{AreGathered}
use Rattle.host_tree.proofs.Gathering.{gathered_more, none_gathered}
use Rattle.host_tree.proofs.points.add_points.Goals as goal

pub loop-message-init : goal.loop-message-init
loop-message-init c = subst (AreGathered c.args.side c.args.hosts []) (sym c.requires.empty) (none_gathered c.args.side c.args.hosts (λ parent child p q. mul-add-lt parent c.args.hosts child c.args.hosts p q))

pub loop-message-preserved : goal.loop-message-preserved
loop-message-preserved c =
    let p = c.point_of-parent.result in
    let hosts = c.args.hosts in
    let place = p.parent * hosts + p.child in
    let room : place < hosts * hosts = mul-add-lt p.parent hosts p.child hosts c.point_of-parent.ensures.parent c.point_of-parent.ensures.child in
    subst (λ points. AreGathered c.args.side hosts (take (c.loop-message.message-index + 1) c.args.messages.now) (set c.loop-message.lists.items place points)) (sym (c.in_ok-push.ensures))
    (gathered_more c.args.side hosts c.args.messages.now c.loop-message.message-index _ p c.loop-message.lists.items place c.index_mut.result.now
    c.point_of-parent.ensures.parent c.point_of-parent.ensures.child refl room c.index_mut.ensures.value c.loop-message-test.true c.point_of-parent.ensures.point c.loop-message.invariant)
