use Rattle.std.proofs.Common.{rules, ◌≡◌, ◌<◌, ◌≤◌, ap, arith, map, subst}
use Rattle.decode_pool.specs.Excess.{events_in}
use Rattle.decode_pool.specs.Jobs.{host_of, job_part, owner}
use Rattle.decode_pool.specs.Limits.{AreHosts, list_events}
use Rattle.decode_pool.proofs.HostLists.{lists_counted, lists_more}
use Rattle.decode_pool.proofs.host_lists.lists_within.Goals as goal

pub returns-in_default-clause-more : goal.returns-in_default-clause-more
returns-in_default-clause-more g c =
    let many : c.args.most < events_in (map job_part c.args.cut.now.jobs.items) = search rules in
    omega (arith, many, ap events_in c.requires.parts, lists_more (map host_of c.args.cut.now.hosts.items))

pub returns-then-are_within-clause-within : goal.returns-then-are_within-clause-within
returns-then-are_within-clause-within g c =
    let lists = c.in_ok-found.found.items in
    let made : AreHosts (map owner c.in_ok-split.split.items) lists = search rules in
    let same : map owner c.in_ok-split.split.items ≡ map host_of c.args.cut.now.hosts.items = search rules in
    let few : list_events lists ≤ c.args.most = search rules in
    omega (arith, few, lists_counted (map host_of c.args.cut.now.hosts.items) lists (subst (λ hs. AreHosts hs lists) same made))

pub returns-else-are_within-clause-more : goal.returns-else-are_within-clause-more
returns-else-are_within-clause-more g c =
    let lists = c.in_ok-found.found.items in
    let made : AreHosts (map owner c.in_ok-split.split.items) lists = search rules in
    let same : map owner c.in_ok-split.split.items ≡ map host_of c.args.cut.now.hosts.items = search rules in
    let many : c.args.most < list_events lists = search rules in
    omega (arith, many, lists_counted (map host_of c.args.cut.now.hosts.items) lists (subst (λ hs. AreHosts hs lists) same made))
