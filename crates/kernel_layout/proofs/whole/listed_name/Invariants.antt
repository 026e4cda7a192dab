use Rattle.std.proofs.Common.{◌≡◌, length, map, take}
use Rattle.kernel_layout.specs.Needed.{byte_of}
use Rattle.kernel_layout.proofs.whole.listed_name.Given as goal

abbrev pub invariant-loop-index : goal.invariant-loop-index
invariant-loop-index l = (take l.index l.bytes ≡ take l.index (map byte_of l.fields)) × (length l.bytes ≡ 15)
