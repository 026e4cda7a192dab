use Rattle.std.proofs.Common.{◌≡◌, ◌+◌, count_by, is_none}
use Rattle.host_tree.specs.Places.{AreScanned}
use Rattle.host_tree.proofs.trees.grow_level.Given as goal

abbrev pub invariant-loop-parent : goal.invariant-loop-parent
invariant-loop-parent l = record {
  scanned : AreScanned l.hosts l.fits l.root l.level l.parent l.places;
  count : count_by is_none l.places + l.grown ≡ count_by is_none l.fn.places;
  idle : l.grown ≡ 0 → l.places ≡ l.fn.places;
}
