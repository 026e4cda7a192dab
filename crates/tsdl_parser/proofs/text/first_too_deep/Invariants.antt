use Rattle.std.proofs.Common.{◌≡◌, ◌≤◌, ◌-◌, ℕ, length, take}
use Rattle.tsdl_parser.specs.Reading.{MAX_BRACES}
use Rattle.tsdl_parser.specs.Depth.{opened}
use Rattle.tsdl_parser.proofs.text.first_too_deep.Given as goal

abbrev pub invariant-loop-place : goal.invariant-loop-place
invariant-loop-place l = (l.place ≤ length l.tokens) × (l.depth ≡ opened (take l.place l.tokens)) × ((n : ℕ) → n ≤ l.place → opened (take n l.tokens) ≤ MAX_BRACES)

abbrev pub decreases-loop-place : goal.decreases-loop-place
decreases-loop-place l = length l.tokens - l.place
