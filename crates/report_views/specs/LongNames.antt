-- Names that are long, and the words that stand for names in lines (this project's own).
use Rattle.std.specs.Prelude.{◌≡◌, ℕ, List, map}
use Rattle.trace_types.specs.ByteTexts.{byte_text}

-- the words are those that stand for all names of each host
abbrev pub AreSpelled : List (List (List ℕ)) → List (List (List ℕ)) → Type 0
AreSpelled names words = words ≡ map (map byte_text) names
