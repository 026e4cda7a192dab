use Rattle.std.proofs.Common.{ap}
use Rattle.ht_outside.specs.Stored.{files_of}
use Rattle.trace_gen.proofs.Steps.{one_more_host}
use Rattle.trace_gen.proofs.folders.make.Goals as goal

pub loop-host-init : goal.loop-host-init
loop-host-init c = λ dir name. ap (λ files. files dir name) c.new-store.ensures

pub loop-host-preserved : goal.loop-host-preserved
loop-host-preserved c = one_more_host c.loop-host.host c.in_ok-events.events.items c.deref-in-loop-host.result.now (files_of c.loop-host.store) (files_of c.put_host.new.store) c.deref-in-loop-host.ensures.value c.loop-host.invariant c.in_ok-put_host.ensures
