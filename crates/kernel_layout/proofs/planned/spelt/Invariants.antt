use Rattle.std.proofs.Common.{◌≡◌, length, map, take}
use Rattle.kernel_layout.specs.Needed.{byte_of}
use Rattle.kernel_layout.specs.Plans.{numbers_from}
use Rattle.kernel_layout.proofs.planned.spelt.Given as goal

abbrev pub invariant-loop-index : goal.invariant-loop-index
invariant-loop-index l = (take l.index l.bytes ≡ take l.index (map byte_of (numbers_from l.bits.bytes.now l.bits.end 0 l.integer l.at l.count))) × (length l.bytes ≡ 15)
