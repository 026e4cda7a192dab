use Rattle.std.proofs.Common.{◌≡◌, ◌<◌, ◌^◌, All, Some, length, slice_get, refl, subst}
use Rattle.std.proofs.lemmas.Option.{slice_get_read}
use Rattle.merge_tests.proofs.Times.{all_hosts, one_more}
use Rattle.merge_tests.proofs.hosts.have_times.Goals as goal

pub loop-host-preserved : goal.loop-host-preserved
loop-host-preserved c =
    let hosts = c.args.hosts.now in
    let at : slice_get hosts c.loop-host.host-index ≡ Some c.host-item.result = slice_get_read hosts (length hosts) c.loop-host.host-index c.host-item.result refl c.loop-host-test.true c.host-item.is in
    one_more c.loop-host.host-index hosts c.host-item.result at (subst (λ es. All (λ e. e.time < 2 ^ 62) es) c.as_slice.ensures.value (c.times_below.ensures c.if-not-times_below.false)) c.loop-host.invariant

pub returns : goal.returns
returns c = λ _. all_hosts c.loop-host.host-index c.args.hosts.now c.loop-host-test.false c.loop-host.invariant
