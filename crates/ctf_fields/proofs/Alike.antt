-- Fields that are read by two tables and stand for the same: the same values, names and types, each at indices of its own table.
use Rattle.std.proofs.Common.{◌≡◌, ℕ, ℤ, ◌<◌, List, [], ◌∷◌, Option, Some, None, length}
use Rattle.type_table.specs.Table.{Table, tree, name_at}
use Rattle.type_table.proofs.EachScope.{BothScopes}
use Rattle.ctf_fields.specs.declared.open_struct.OpenStruct.{OpenStruct}
use Rattle.ctf_fields.specs.declared.field.Field.{Field, out-Field}
use Rattle.ctf_fields.specs.declared.field.Field.TheOpen.{Field-F}
use Rattle.ctf_fields.specs.declared.field.Member.{Member}
use Rattle.ctf_fields.specs.Reading.{Reads, Got, Fails}
use Rattle.ctf_fields.specs.Fields.{Scopes}

-- indices of one type
pub record SameType (t u : Table) (a b : ℕ) : Type 0 where
  pub left : a < length t.types
  pub right : b < length u.types
  pub same : tree t a ≡ tree u b

-- numbers of one name
abbrev pub SameName : Table → Table → ℕ → ℕ → Type 0
SameName t u a b = name_at t.names a ≡ name_at u.names b

module _ (t u : Table) where
  mutual
    pub data Alike : Field → Field → Type 0 where
      ints : (f g : Field) (a b : ℕ) (z : ℤ) → SameType t u a b → out-Field f ≡ Field-F.Int a z → out-Field g ≡ Field-F.Int b z → Alike f g
      texts : (f g : Field) (text : List ℕ) → out-Field f ≡ Field-F.Text text → out-Field g ≡ Field-F.Text text → Alike f g
      structs : (f g : Field) (ms ns : List Member) → AlikeMembers ms ns → out-Field f ≡ Field-F.Struct ms → out-Field g ≡ Field-F.Struct ns → Alike f g
      choices : (f g : Field) (a b : ℕ) (x y : Field) → SameName t u a b → Alike x y → out-Field f ≡ Field-F.Choice a x → out-Field g ≡ Field-F.Choice b y → Alike f g
      lists : (f g : Field) (a b : ℕ) (xs ys : List Field) → SameType t u a b → AlikeItems xs ys → out-Field f ≡ Field-F.List a xs → out-Field g ≡ Field-F.List b ys → Alike f g

    pub data AlikeMembers : List Member → List Member → Type 0 where
      no_members : AlikeMembers [] []
      and_member : (m n : Member) (ms ns : List Member) → SameName t u m.name n.name → Alike m.field n.field → AlikeMembers ms ns → AlikeMembers (m ∷ ms) (n ∷ ns)

    pub data AlikeItems : List Field → List Field → Type 0 where
      no_items : AlikeItems [] []
      and_item : (x y : Field) (xs ys : List Field) → Alike x y → AlikeItems xs ys → AlikeItems (x ∷ xs) (y ∷ ys)

-- of fields that may be there
abbrev pub AlikeIf : Table → Table → Option Field → Option Field → Type 0
AlikeIf t u None None = Unit {0}
AlikeIf t u (Some f) (Some g) = Alike t u f g
AlikeIf t u _ _ = ⊥

-- of numbers with the indices of their types
abbrev pub AlikeNumbers : Table → Table → Option (ℤ × ℕ) → Option (ℤ × ℕ) → Type 0
AlikeNumbers t u None None = Unit {0}
AlikeNumbers t u (Some n) (Some m) = (n.0 ≡ m.0) × SameType t u n.1 m.1
AlikeNumbers t u _ _ = ⊥

abbrev pub AlikeNames : Table → Table → Option ℕ → Option ℕ → Type 0
AlikeNames t u None None = Unit {0}
AlikeNames t u (Some a) (Some b) = SameName t u a b
AlikeNames t u _ _ = ⊥

-- of the structures that are being read
abbrev pub AlikeOpenStructs : Table → Table → List OpenStruct → List OpenStruct → Type 0
AlikeOpenStructs t u [] [] = Unit {0}
AlikeOpenStructs t u (a ∷ more) (b ∷ others) = (AlikeNames t u a.name b.name × AlikeMembers t u a.fields b.fields) × AlikeOpenStructs t u more others
AlikeOpenStructs t u _ _ = ⊥

-- of the scopes that were read before
abbrev pub AlikeScopes : Table → Table → Scopes → Scopes → Type 0
AlikeScopes t u s r = BothScopes (AlikeIf t u) s r

-- two readings end at one bit with values of which this holds, or fail for one cause
abbrev pub ReadBoth : {A B : Type 0} → (A → B → Type 0) → Reads A → Reads B → Type 0
ReadBoth P (Got a at) (Got b to) = P a b × (at ≡ to)
ReadBoth P (Fails c) (Fails d) = c ≡ d
ReadBoth P _ _ = ⊥
