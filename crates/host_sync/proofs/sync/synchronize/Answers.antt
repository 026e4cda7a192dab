use Rattle.std.proofs.Common.{length, sym, ap, subst, arith}
use Rattle.host_merge.specs.Placed.{IsAmong}
use Rattle.host_merge.proofs.Theirs.{among, between}
use Rattle.host_sync.proofs.Totals.{each_small, few_merged, few_messages}
use Rattle.std.proofs.Common.{All}
use Rattle.host_sync.proofs.sync.synchronize.Goals as goal

pub matches-requires-clause-small : goal.matches-requires-clause-small
matches-requires-clause-small c = λ k host e. let small = each_small c.args.hosts.now k host e in omega (arith, small, c.requires.hosts.few_events)

pub fits-requires-clause-between : goal.fits-requires-clause-between
fits-requires-clause-between c = between c.args.hosts.now c.in_ok-messages.messages.matched.items c.in_ok-messages.messages.ambiguous c.in_ok-messages.ensures.exact c.requires.hosts.times c.requires.hosts.from_one

pub fits-requires-clause-count : goal.fits-requires-clause-count
fits-requires-clause-count c = let few = few_messages c.args.hosts.now c.in_ok-messages.messages.matched.items c.in_ok-messages.messages.ambiguous c.requires.hosts c.in_ok-messages.ensures.exact in omega (arith, few)

pub place-requires-clause-small : goal.place-requires-clause-small
place-requires-clause-small c =
    let few = few_merged c.args.hosts.now c.in_ok-merged.merged.items (c.in_ok-merged.ensures.kept c.requires.hosts.own c.requires.hosts.in_time) in
    let same = ap length c.deref-2.ensures.value in
    omega (arith, few, same, c.requires.hosts.few_events)

pub place-requires-clause-among : goal.place-requires-clause-among
place-requires-clause-among c =
    subst (λ merged. All (IsAmong merged) c.in_ok-messages.messages.matched.items) (sym c.deref-2.ensures.value)
    (among c.args.hosts.now c.in_ok-messages.messages.matched.items c.in_ok-messages.messages.ambiguous c.in_ok-messages.ensures.exact c.in_ok-merged.merged.items (c.in_ok-merged.ensures.kept c.requires.hosts.own c.requires.hosts.in_time))

pub returns-clause-few : goal.returns-clause-few
returns-clause-few c =
    let few = few_merged c.args.hosts.now c.in_ok-merged.merged.items (c.in_ok-merged.ensures.kept c.requires.hosts.own c.requires.hosts.in_time) in
    omega (arith, few, c.requires.hosts.few_events)
