-- The fields of a variant, and the first of them that has a name, where names are numbers (this project's own).
use Rattle.std.specs.Prelude.{◌≡◌, ◌<◌, ℕ, nat_eq, List, length, Option, position}
use Rattle.indexmap.specs.IndexMap.{IndexMap, get}
use Rattle.type_table.specs.declared.meta.FieldMeta.{FieldMeta}
use Rattle.type_table.specs.declared.variant_fields.TheConstants.{FEW_FIELDS}

-- the index of the first field whose name has this number (this project's own)
abbrev pub first_of : ℕ → List FieldMeta → Option ℕ
first_of name fs = position (λ f. nat_eq f.name name) fs

-- a map has the index of the first field of each name, and no other name (this project's own)
abbrev pub AreFirsts : {S : Type 0} → IndexMap ℕ ℕ S → List FieldMeta → Type 0
AreFirsts firsts fs = (name : ℕ) → get nat_eq firsts name ≡ first_of name fs

-- where there are more than a few fields, a map has the first of each name (this project's own)
abbrev pub AreNoted : {S : Type 0} → IndexMap ℕ ℕ S → List FieldMeta → Type 0
AreNoted firsts fs = FEW_FIELDS < length fs → AreFirsts firsts fs
