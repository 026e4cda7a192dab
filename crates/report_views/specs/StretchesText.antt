-- The text of how an attribute's value changed: a line for each stretch (this project's own format).
use Rattle.std.specs.Prelude.{◌≡◌, ℕ, ◌<◌, ◌≤◌, List, [], ◌∷◌, ◌++◌, codes, flat_map}
use Rattle.std.specs.List.{AllByRecursion}
use Rattle.std.specs.Fmt.{decimal}
use Rattle.trace_types.specs.Paths.{path_text}
use Rattle.trace_types.specs.declared.path.Path.{Path as AttributePath}
use Rattle.kernel_provider.specs.Rules.{Values}
use Rattle.range_query.specs.declared.stretch.Stretch.{Stretch}
use Rattle.range_query.specs.Stretches.{AreStretches}
use Rattle.report_views.specs.Values.{value_text}

-- a line: the word, where the stretch begins, the instant after it, the path, the value and a line feed (this project's own)
abbrev pub stretch_text : (ℕ → List (List ℕ)) → AttributePath → Stretch → List ℕ
stretch_text names p s = codes "stretch " ++ decimal s.from ++ 32 ∷ decimal s.to ++ 32 ∷ path_text p ++ 32 ∷ (value_text names p s.value ++ 10 ∷ [])

-- at each instant of the stretch the attribute has its value
pub record IsStretchOf (values : ℕ → Values) (p : AttributePath) (s : Stretch) : Type 0 where
  pub each : (t : ℕ) → s.from ≤ t → t < s.to → values t p ≡ s.value

-- a line for each of the stretches from one instant up to another: those of the values at each instant, as long as can be
pub record IsRangeText (names : ℕ → List (List ℕ)) (values : ℕ → Values) (from to : ℕ) (p : AttributePath) (text : List ℕ) : Type 0 where
  pub stretches : List Stretch
  pub are : AreStretches from to stretches
  pub each : AllByRecursion (IsStretchOf values p) stretches
  pub is_text : text ≡ flat_map (stretch_text names p) stretches
