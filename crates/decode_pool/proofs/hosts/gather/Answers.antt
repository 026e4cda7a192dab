use Rattle.std.proofs.Common.{rules, ◌≤◌, get_or, length, ap, sym, subst}
use Rattle.decode_pool.proofs.Cutting.{own_left}
use Rattle.decode_pool.proofs.hosts.gather.Goals as goal

pub split_at-requires : goal.split_at-requires
split_at-requires c =
    let n = get_or c.args.counts.now c.loop-at.at 0 in
    subst (λ l. n ≤ length l) (sym c.loop-at.invariant.4)
    (own_left c.args.host.now.host c.args.host.now.meta c.args.host.now.files.items c.loop-at.at n (search rules) (ap (λ l. get_or l c.loop-at.at 0) c.requires.counts))
