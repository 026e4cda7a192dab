-- Names of fields and labels, and field paths to fields (CTF 1.8, section 7.3.2; that one underscore is left out is LTTng's use).
use Rattle.std.specs.Prelude.{ℕ, Bool, false, List, [], ◌∷◌, ◌++◌, Option, Some, None, codes, ◌&&◌, if◌then◌else◌, option_map, option_and_then, position}
use Rattle.std.specs.List.{IsDistinct}
use Rattle.std.specs.Option.{option_map_or}
use Rattle.trace_types.specs.Texts.{is_text}
use Rattle.type_table.specs.declared.meta.ScopeName.{ScopeName}
use Rattle.type_table.specs.declared.meta.ScopeName.TheVariants.{PacketHeader, PacketContext, EventHeader, StreamContext, EventContext, EventFields}
use Rattle.type_table.specs.Table.{name_at}
use Rattle.type_table.specs.Types.{Text}

-- the name without one leading underscore
abbrev pub bare : Text → Text
bare [] = []
bare (c ∷ name) = if is_text (c ∷ []) (codes "_") then name else c ∷ name

-- names count as one where they differ in a leading underscore alone
abbrev pub same_name : Text → Text → Bool
same_name a b = is_text (bare a) (bare b)

-- a name begins with an underscore
abbrev pub is_underscored : Text → Bool
is_underscored [] = false
is_underscored (c ∷ name) = is_text (c ∷ []) (codes "_")

-- the one other name that counts as this one: without its leading underscore, unless one more is behind that, and else with one before it
abbrev pub other_spelling : Text → Option Text
other_spelling name = if is_underscored name then (if is_underscored (bare name) then None else Some (bare name)) else Some (codes "_" ++ name)

-- the number of the other spelling of a name, if it has one that is among the names (this project's own)
abbrev pub other_number : List Text → ℕ → Option ℕ
other_number names n = option_and_then (λ other. position (is_text other) names) (other_spelling (name_at names n))

-- all names are different ones (this project's own)
abbrev pub AreDistinct : List Text → Type 0
AreDistinct names = IsDistinct is_text names

-- the words begin with these, and then come those
abbrev pub behind_two : Text → Text → List Text → Option (List Text)
behind_two a b (x ∷ y ∷ rest) = if is_text x a && is_text y b then Some rest else None
behind_two a b _ = None

abbrev pub behind_three : Text → Text → Text → List Text → Option (List Text)
behind_three a b c (x ∷ y ∷ z ∷ rest) = if is_text x a && is_text y b && is_text z c then Some rest else None
behind_three a b c _ = None

-- the scope whose words a field path begins with, and the words after it
abbrev pub scope_of : List Text → Option (ScopeName × List Text)
scope_of words =
    within PacketHeader (behind_three (codes "trace") (codes "packet") (codes "header") words)
    (within PacketContext (behind_three (codes "stream") (codes "packet") (codes "context") words)
    (within EventHeader (behind_three (codes "stream") (codes "event") (codes "header") words)
    (within StreamContext (behind_three (codes "stream") (codes "event") (codes "context") words)
    (within EventContext (behind_two (codes "event") (codes "context") words)
    (within EventFields (behind_two (codes "event") (codes "fields") words) None)))))
  where
    within : ScopeName → Option (List Text) → Option (ScopeName × List Text) → Option (ScopeName × List Text)
    within scope (Some rest) other = Some (scope, rest)
    within scope None other = other

-- the scope that words begin with, if any, and the words after it
abbrev pub scope_said : List Text → Option ScopeName
scope_said words = option_map (λ r. r.0) (scope_of words)

abbrev pub names_said : List Text → List Text
names_said words = option_map_or (λ r. r.1) (scope_of words) words

-- words with a space between them, as an alias is known by
abbrev pub spaced_on : List Text → Text
spaced_on [] = []
spaced_on (w ∷ ws) = codes " " ++ (w ++ spaced_on ws)

abbrev pub spaced : List Text → Text
spaced [] = []
spaced (w ∷ ws) = w ++ spaced_on ws
