use Rattle.std.proofs.Common.{◌≡◌, [], ◌∷◌, rules, arith}
use Rattle.std.proofs.lemmas.List.{take_more, length-append}
use Rattle.event_list.proofs.Splitting.{host_behind}
use Rattle.event_list.proofs.split.empty_hosts.Goals as goal

pub loop-number-preserved : goal.loop-number-preserved
loop-number-preserved c =
    rw (take_more _ c.loop-number.number c.index-lists-number.result c.loop-number-test.true, ← c.index-lists-number.is, c.in_ok-push.ensures.items)
    (host_behind [] 0 _ _ _ _ c.loop-number.invariant.0 c.narrow.result (let h : c.narrow.result ≡ c.loop-number.number = search rules in omega (arith, h, c.loop-number.invariant.1)) c.in_ok-empty_host.ensures, rw (length-append c.loop-number.hosts.items (c.in_ok-empty_host.field-0 ∷ [])) (omega (arith, c.loop-number.invariant.1)))
