use Rattle.std.proofs.Common.{rules}
use Rattle.hosttrace.proofs.MadeTraces.{folders_next}
use Rattle.hosttrace.proofs.making.made_folders.Goals as goal

pub loop-host-preserved : goal.loop-host-preserved
loop-host-preserved c =
    let next = folders_next c.loop-host.host in
    search rules
