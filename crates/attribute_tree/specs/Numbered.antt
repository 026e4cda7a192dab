-- Paths that are numbered in the order in which they were added (after Trace Compass's quarks).
use Rattle.std.specs.Prelude.{◌≡◌, ℕ, Bool, List, Option, None, position}
use Rattle.trace_types.specs.declared.path.Path.{Path as AttributePath}
use Rattle.trace_types.specs.Same.{same_path}

-- the paths, a path's place being its number, and whether one more can be added without memory
pub record Numbered : Type 0 where
  pub paths : List AttributePath
  pub has_room : Bool

-- a path's number: none where it isn't among the paths
abbrev pub number_among : List AttributePath → AttributePath → Option ℕ
number_among paths p = position (same_path p) paths

abbrev pub IsNew : List AttributePath → AttributePath → Type 0
IsNew paths p = number_among paths p ≡ None
