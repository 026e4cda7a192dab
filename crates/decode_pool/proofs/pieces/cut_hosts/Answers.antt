use Rattle.std.proofs.Common.{rules, ◌≡◌, ◌<◌, ◌≤◌, ◌++◌, ◌∷◌, [], All, arith, get_or, length, map, subst, sym}
use Rattle.std.proofs.lemmas.List.Elements.{All-push}
use Rattle.decode_pool.specs.Hosts.{all_parts}
use Rattle.decode_pool.specs.Jobs.{Allows, CanDecode, IsCounted, host_of, job_part}
use Rattle.decode_pool.specs.Limits.{host_packets}
use Rattle.decode_pool.specs.declared.hosts.HostFiles.{HostFiles}
use Rattle.decode_pool.proofs.Counted.{hosts_next, more_small, packets_more}
use Rattle.decode_pool.proofs.HostLists.{pool_next}
use Rattle.decode_pool.proofs.pieces.cut_hosts.Goals as goal

pub loop-at-preserved : goal.loop-at-preserved
loop-at-preserved c =
    let h : HostFiles = c.index-hosts-at.result in
    let is : h ≡ get_or c.args.hosts.now c.loop-at.at h = c.index-hosts-at.is in
    let below : c.loop-at.at < length c.args.hosts.now = search rules in
    let pushed : c.push.new.self.items ≡ c.loop-at.cut.items ++ c.in-Some.pieces ∷ [] = search rules in
    let can : All CanDecode c.cut_host.new.jobs.items = search rules in
    let allowed : All (Allows c.args.limits.events) c.cut_host.new.jobs.items = search rules in
    let parts : map job_part c.cut_host.new.jobs.items ≡ map job_part c.loop-at.jobs.items ++ all_parts h.host h.meta h.files.items = search rules in
    let counted : IsCounted c.in-Some.pieces = search rules in
    let of : host_of c.in-Some.pieces ≡ h = search rules in
    let packets : c.in-Some.pieces.packets ≡ host_packets h.meta h.files.items = search rules in
    let within : c.in-Some.pieces.packets ≤ c.loop-at.left.packets = search rules in (
      can,
      allowed,
      pool_next c.args.hosts.now c.loop-at.at h (map job_part c.loop-at.jobs.items) (map job_part c.cut_host.new.jobs.items) below is parts c.loop-at.invariant.2,
      subst (All IsCounted) (sym pushed) (All-push IsCounted c.loop-at.cut.items c.in-Some.pieces c.loop-at.invariant.3 counted),
      hosts_next c.args.hosts.now c.loop-at.cut.items c.push.new.self.items c.loop-at.at c.in-Some.pieces h below is of pushed c.loop-at.invariant.4,
      (more_small c.args.hosts.now c.loop-at.at h below c.loop-at.invariant.5 is).1,
      omega (arith, packets_more c.args.hosts.now c.loop-at.at h below is, packets, within, c.loop-at.invariant.6),
      omega (arith, c.loop-at.invariant.7),
      c.loop-at.invariant.8,
    )
