use Rattle.std.proofs.Common.{◌≡◌}
use Rattle.hosttrace.specs.Making.{made_folders}
use Rattle.hosttrace.proofs.making.made_folders.Given as goal

abbrev pub invariant-loop-host : goal.invariant-loop-host
invariant-loop-host l = l.dirs.items ≡ made_folders l.host
