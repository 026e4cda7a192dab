use Rattle.std.proofs.Common.{rules, subst}
use Rattle.disk_requests.specs.Devices.{AreDevices}
use Rattle.hosttrace.proofs.Texts.{disks_output}
use Rattle.hosttrace.proofs.disks.text_of_disks.Goals as goal

pub returns-clause-text : goal.returns-clause-text
returns-clause-text g c =
    let devices = c.in_ok-table.table.devices.items in
    let are = subst (λ es. AreDevices es devices) c.deref.ensures.value c.in_ok-table.ensures in
    disks_output (g.S.Store.holds c.args.store.now) c.args.input.now c.in_ok-trace.trace devices c.disks_text.new.out.items c.in_ok-trace.ensures.trace are (search rules)
