-- Where the names of a field path lead (CTF 1.8, section 7.3.2): from a structure on, and among those that are being read. The walk is the same over types and over fields that were read.
use Rattle.std.specs.Prelude.{Bool, List, [], ◌∷◌, Option, Some, None, if◌then◌else◌}

-- what names are looked for among. A value has members, none where it is no structure; a member is called by names, and has a value. What is being
-- read is a structure or a variant, has members so far, and what is being read inside it may be its member of a name
pub record Walk (Name Member Value Open : Type 0) : Type 0 where
  pub members : Value → List Member
  pub is_called : Name → Member → Bool
  pub value : Member → Value
  pub is_struct : Open → Bool
  pub read : Open → List Member
  pub is_entered : Name → Open → List Open → Bool

-- the first that there is
abbrev pub or_else : {A : Type 0} → Option A → Option A → Option A
or_else (Some a) b = Some a
or_else None b = b

-- the nearest member of a name, which is the last
abbrev pub nearest : {N M V O : Type 0} → Walk N M V O → N → List M → Option V
nearest w name [] = None
nearest w name (m ∷ ms) = or_else (nearest w name ms) (if w.is_called name m then Some (w.value m) else None)

-- the member of a name of a structure
abbrev pub member : {N M V O : Type 0} → Walk N M V O → N → Option V → Option V
member w name None = None
member w name (Some v) = nearest w name (w.members v)

-- each further name is that of a member of the structure before
abbrev pub follow : {N M V O : Type 0} → Walk N M V O → Option V → List N → Option V
follow w v [] = v
follow w v (name ∷ names) = follow w (member w name v) names

-- the member of a name of a structure that is being read
abbrev pub in_open : {N M V O : Type 0} → Walk N M V O → N → O → Option V
in_open w name o = if w.is_struct o then nearest w name (w.read o) else None

-- the member of a name of the innermost structure that has one
abbrev pub from_inside : {N M V O : Type 0} → Walk N M V O → N → List O → Option V
from_inside w name [] = None
from_inside w name (o ∷ around) = or_else (in_open w name o) (from_inside w name around)

-- from the innermost structure outward
abbrev pub from_here : {N M V O : Type 0} → Walk N M V O → List O → List N → Option V
from_here w opens [] = None
from_here w opens (name ∷ names) = follow w (from_inside w name opens) names

-- from the outermost structure inward, through those that are being read
abbrev pub from_outside : {N M V O : Type 0} → Walk N M V O → List O → List N → Option V
from_outside w [] names = None
from_outside w (o ∷ inside) [] = None
from_outside w (o ∷ inside) (name ∷ names) =
    if w.is_struct o then (if w.is_entered name o inside then from_outside w inside names else follow w (nearest w name (w.read o)) names)
    else None
