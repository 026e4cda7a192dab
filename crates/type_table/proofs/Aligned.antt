-- What each type of a table is aligned to.
use Rattle.std.proofs.Common.{◌≡◌, ℕ, zero, suc, ◌≤◌, ◌%◌, ◌++◌, List, [], ◌∷◌, max, Bool, true, false, nat_le, refl, subst, arith}
use Rattle.std.proofs.lemmas.Bool.{leb-true, leb-false}
use Rattle.type_table.specs.declared.meta.TypeMeta.{TypeMeta}
use Rattle.type_table.specs.declared.meta.TypeMeta.TheVariants as meta
use Rattle.type_table.specs.declared.meta.FieldMeta.{FieldMeta}
use Rattle.type_table.specs.Types.{Text, Ty, Whole, Named, Str, Struct, Variant, Array, Sequence, alignment, widest}
use Rattle.type_table.specs.Table.{trees, trees_from, tree, tree_at, grown, shape, fields_at, integer_in, IsSound, AreSound}

abbrev pub Aligns : ℕ → Type 0
Aligns align = (1 ≤ align) × (65536 % align ≡ 0)

abbrev AllAlign : List Ty → Type 0
AllAlign [] = Unit {0}
AllAlign (t ∷ ts) = Aligns (alignment t) × AllAlign ts

aligned_at : (ts : List Ty) (n : ℕ) → AllAlign ts → Aligns (alignment (tree_at ts n))
aligned_at [] n h = (omega arith, refl)
aligned_at (t ∷ ts) zero h = h.0
aligned_at (t ∷ ts) (suc n) h = aligned_at ts n h.1

aligned_based : (t : Ty) → Aligns (alignment t) → Aligns (integer_in t).align
aligned_based (Whole i) h = h
aligned_based (Named i labels) h = h
aligned_based Str h = (omega arith, refl)
aligned_based (Struct align fields) h = (omega arith, refl)
aligned_based (Variant tag fields) h = (omega arith, refl)
aligned_based (Array length item) h = (omega arith, refl)
aligned_based (Sequence length item) h = (omega arith, refl)

aligned_shape : (names : List Text) (ts : List Ty) (t : TypeMeta) → AllAlign ts → IsSound t → Aligns (alignment (shape names ts t))
aligned_shape names ts (meta.Integer integer) all sound = (sound.2, sound.3)
aligned_shape names ts (meta.Enum base labels) all sound = aligned_based (tree_at ts base) (aligned_at ts base all)
aligned_shape names ts meta.Str all sound = (omega arith, refl)
aligned_shape names ts (meta.Struct align fields) all sound = sound
aligned_shape names ts (meta.Variant tag fields) all sound = (omega arith, refl)
aligned_shape names ts (meta.Array n item) all sound = aligned_at ts item all
aligned_shape names ts (meta.Sequence n item) all sound = aligned_at ts item all

aligned_push : (ts : List Ty) (t : Ty) → AllAlign ts → Aligns (alignment t) → AllAlign (ts ++ t ∷ [])
aligned_push [] t all h = (h, tt)
aligned_push (u ∷ ts) t all h = (all.0, aligned_push ts t all.1 h)

aligned_from : (names : List Text) (done : List Ty) (types : List TypeMeta) → AllAlign done → AreSound types → AllAlign (trees_from names done types)
aligned_from names done [] all sound = all
aligned_from names done (t ∷ types) all sound = aligned_from names (grown names done t) types (aligned_push done (shape names done t) all (aligned_shape names done t all sound.0)) sound.1

pub tree_aligns : (names : List Text) (types : List TypeMeta) (n : ℕ) → AreSound types → Aligns (alignment (tree (record { names = names; types = types }) n))
tree_aligns names types n sound = aligned_at (trees_from names [] types) n (aligned_from names [] types tt sound)

pub aligned_max : (a b : ℕ) → Aligns a → Aligns b → Aligns (max a b)
aligned_max a b ha hb = by (nat_le a b) refl
  where
    by : (c : Bool) → nat_le a b ≡ c → Aligns (max a b)
    by true e = let le = leb-true a b e in let same : b ≡ max a b = omega (arith, le) in subst Aligns same hb
    by false e = let lt = leb-false a b e in let same : a ≡ max a b = omega (arith, lt) in subst Aligns same ha

pub widest_aligns : (names : List Text) (types : List TypeMeta) (fs : List FieldMeta) → AreSound types → Aligns (widest (fields_at names (trees (record { names = names; types = types })) fs))
widest_aligns names types [] sound = (omega arith, refl)
widest_aligns names types (f ∷ fs) sound = aligned_max _ _ (tree_aligns names types f.ty sound) (widest_aligns names types fs sound)
