use Rattle.std.proofs.Common.{◌/◌, ◌<◌, get_or, refl, rules}
use Rattle.kernel_layout.proofs.PlannedNames.{byte_there}
use Rattle.kernel_layout.proofs.planned.byte_at.Goals as goal

pub returns-then-integer-eq8 : goal.returns-then-integer-eq8
returns-then-integer-eq8 c =
    let small : get_or c.args.bits.bytes.now (c.args.at / 8) 0 < 256 = search rules in
    byte_there c.args.bits.bytes.now c.args.bits.end c.args.integer c.args.at (get_or c.args.bits.bytes.now (c.args.at / 8) 0) c.requires.byte c.if-integer-eq8.true c.if-at-eq0.true c.requires.there refl small
