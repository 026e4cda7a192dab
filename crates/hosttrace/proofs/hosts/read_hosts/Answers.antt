use Rattle.std.proofs.Common.{◌≡◌, ◌∷◌, [], ◌++◌, ◌+◌, map, drop, sym, subst, rules}
use Rattle.std.proofs.lemmas.List.{drop_all, drop_more, map-append}
use Rattle.type_scope.specs.Traces.{trace}
use Rattle.hosttrace.proofs.Left.{HostsLeft, as_many_metas, next_host, no_host}
use Rattle.hosttrace.proofs.hosts.read_hosts.Goals as goal

pub loop-at-preserved : goal.loop-at-preserved
loop-at-preserved c =
    let here : drop c.loop-at.at c.args.files.now ≡ c.as_slice.result.now ∷ drop (c.loop-at.at + 1) c.args.files.now = search (rules, drop_more) in
    let more : map trace c.push.new.self.items ≡ map trace c.loop-at.metas.items ++ trace c.in_ok-read_host.field-0 ∷ [] = search (rules, map-append) in
    subst (HostsLeft c.args.files.now (c.loop-at.at + 1)) (sym more) (next_host c.args.files.now c.loop-at.at (map trace c.loop-at.metas.items) c.as_slice.result.now _ c.loop-at.invariant here c.in_ok-read_host.ensures.trace)

pub returns-clause-traces : goal.returns-clause-traces
returns-clause-traces c = no_host c.args.files.now c.loop-at.at (map trace c.loop-at.metas.items) c.loop-at.invariant (drop_all c.loop-at.at c.args.files.now c.loop-at-test.false)

pub returns-clause-each : goal.returns-clause-each
returns-clause-each c = as_many_metas c.args.files.now c.loop-at.metas.items (no_host c.args.files.now c.loop-at.at (map trace c.loop-at.metas.items) c.loop-at.invariant (drop_all c.loop-at.at c.args.files.now c.loop-at-test.false))
