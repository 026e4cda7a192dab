use Rattle.std.proofs.Common.{◌≡◌, length}
use Rattle.host_tree.specs.Fits.{AreOutcomes}
use Rattle.host_tree.proofs.pair_fits.outcomes.Given as goal

abbrev pub invariant-loop-place : goal.invariant-loop-place
invariant-loop-place l = (length l.fits.items ≡ l.place) × AreOutcomes l.lower l.upper l.drift l.fits.items
