-- The trees of a table's types, as it grows.
use Rattle.std.proofs.Common.{◌≡◌, ℕ, ◌+◌, ◌<◌, ◌≤◌, List, [], ◌∷◌, ◌++◌, length, map, refl, ap, ◌∙◌, arith, subst}
use Rattle.std.proofs.lemmas.List.{get_or_append_left, length-append}
use Rattle.type_table.specs.declared.meta.TypeMeta.{TypeMeta}
use Rattle.type_table.specs.declared.meta.TypeMeta.TheVariants as meta
use Rattle.type_table.specs.declared.meta.FieldMeta.{FieldMeta}
use Rattle.type_table.specs.declared.meta.LabelMeta.{LabelMeta}
use Rattle.type_table.specs.declared.meta.Reference.{Reference}
use Rattle.type_table.specs.Types.{Text, Ty, Field, Struct, Variant, Named, Sequence}
use Rattle.type_table.specs.Table.{name_at, tree_at, field_path_by, field_path_of, field_path_or_here, fields_at, labels_at, integer_in, shape, grown, trees_from, AreBelow, RefersIn, FieldNamesIn, LabelNamesIn, NamesIn, AreRanked}

along : {A B : Type 0} (f : A → B) (x y : A) → x ≡ y → f x ≡ f y
along f x y h = ap f h

-- ---- more types

pub trees_push : (names : List Text) (done : List Ty) (ts : List TypeMeta) (t : TypeMeta) → trees_from names done (ts ++ t ∷ []) ≡ grown names (trees_from names done ts) t
trees_push names done [] t = refl
trees_push names done (u ∷ ts) t = trees_push names (grown names done u) ts t

pub trees_len : (names : List Text) (done : List Ty) (ts : List TypeMeta) → length (trees_from names done ts) ≡ length done + length ts
trees_len names done [] = omega arith
trees_len names done (t ∷ ts) = omega (arith, trees_len names (grown names done t) ts, length-append done (shape names done t ∷ []))

pub ranked_push : (n k : ℕ) (ts : List TypeMeta) (t : TypeMeta) → AreRanked n k ts → NamesIn n t → RefersIn (k + length ts) t → AreRanked n k (ts ++ t ∷ [])
ranked_push n k [] t r names refers = (names, subst (λ m. RefersIn m t) (omega arith) refers, tt)
ranked_push n k (u ∷ ts) t r names refers = (r.0, r.1, ranked_push n (k + 1) ts t r.2 names (subst (λ m. RefersIn m t) (omega arith) refers))

-- ---- more names

name_more : (names more : List Text) (n : ℕ) → n < length names → name_at (names ++ more) n ≡ name_at names n
name_more names more n h = get_or_append_left names more [] n h

words_more : (names more : List Text) (ws : List ℕ) → AreBelow (length names) ws → map (name_at (names ++ more)) ws ≡ map (name_at names) ws
words_more names more [] h = refl
words_more names more (w ∷ ws) h = along (λ a. a ∷ map (name_at (names ++ more)) ws) _ _ (name_more names more w h.0) ∙ along (λ l. name_at names w ∷ l) _ _ (words_more names more ws h.1)

way_more : (names more : List Text) (r : Reference) → AreBelow (length names) r.words → field_path_of (names ++ more) r ≡ field_path_of names r
way_more names more r h = along (λ ws. field_path_by r.scope ws) _ _ (words_more names more r.words h)

pub fields_more : (names more : List Text) (trees : List Ty) (fs : List FieldMeta) → FieldNamesIn (length names) fs → fields_at (names ++ more) trees fs ≡ fields_at names trees fs
fields_more names more trees [] h = refl
fields_more names more trees (f ∷ fs) h = along (λ a. Field a (tree_at trees f.ty) (fields_at (names ++ more) trees fs)) _ _ (name_more names more f.name h.0) ∙ along (λ l. Field (name_at names f.name) (tree_at trees f.ty) l) _ _ (fields_more names more trees fs h.1)

labels_more : (names more : List Text) (ls : List LabelMeta) → LabelNamesIn (length names) ls → labels_at (names ++ more) ls ≡ labels_at names ls
labels_more names more [] h = refl
labels_more names more (l ∷ ls) h = along (λ a. record { name = a; low = l.low; high = l.high } ∷ labels_at (names ++ more) ls) _ _ (name_more names more l.name h.0) ∙ along (λ rest. record { name = name_at names l.name; low = l.low; high = l.high } ∷ rest) _ _ (labels_more names more ls h.1)

shape_more : (names more : List Text) (trees : List Ty) (t : TypeMeta) → NamesIn (length names) t → shape (names ++ more) trees t ≡ shape names trees t
shape_more names more trees (meta.Integer integer) h = refl
shape_more names more trees (meta.Enum base labels) h = along (λ ls. Named (integer_in (tree_at trees base)) ls) _ _ (labels_more names more labels h)
shape_more names more trees meta.Str h = refl
shape_more names more trees (meta.Struct align fields) h = along (λ fs. Struct align fs) _ _ (fields_more names more trees fields h)
shape_more names more trees (meta.Variant tag fields) h = along (λ w. Variant w (fields_at (names ++ more) trees fields)) _ _ (way_more names more tag h.0) ∙ along (λ fs. Variant (field_path_of names tag) fs) _ _ (fields_more names more trees fields h.1)
shape_more names more trees (meta.Array n item) h = refl
shape_more names more trees (meta.Sequence n item) h = along (λ w. Sequence (field_path_or_here w) (tree_at trees item)) _ _ (way_more names more n h)

pub trees_more : (names more : List Text) (k : ℕ) (done : List Ty) (ts : List TypeMeta) → AreRanked (length names) k ts → trees_from (names ++ more) done ts ≡ trees_from names done ts
trees_more names more k done [] r = refl
trees_more names more k done (t ∷ ts) r = along (λ u. trees_from (names ++ more) (done ++ u ∷ []) ts) _ _ (shape_more names more done t r.0) ∙ trees_more names more (k + 1) (grown names done t) ts r.2

-- ---- ranks of more names

below_more : (n m : ℕ) (ws : List ℕ) → n ≤ m → AreBelow n ws → AreBelow m ws
below_more n m [] le h = tt
below_more n m (w ∷ ws) le h = (omega (arith, le, h.0), below_more n m ws le h.1)

pub field_names_more : (n m : ℕ) (fs : List FieldMeta) → n ≤ m → FieldNamesIn n fs → FieldNamesIn m fs
field_names_more n m [] le h = tt
field_names_more n m (f ∷ fs) le h = (omega (arith, le, h.0), field_names_more n m fs le h.1)

label_names_more : (n m : ℕ) (ls : List LabelMeta) → n ≤ m → LabelNamesIn n ls → LabelNamesIn m ls
label_names_more n m [] le h = tt
label_names_more n m (l ∷ ls) le h = (omega (arith, le, h.0), label_names_more n m ls le h.1)

names_more : (n m : ℕ) (t : TypeMeta) → n ≤ m → NamesIn n t → NamesIn m t
names_more n m (meta.Integer integer) le h = tt
names_more n m (meta.Enum base labels) le h = label_names_more n m labels le h
names_more n m meta.Str le h = tt
names_more n m (meta.Struct align fields) le h = field_names_more n m fields le h
names_more n m (meta.Variant tag fields) le h = (below_more n m tag.words le h.0, field_names_more n m fields le h.1)
names_more n m (meta.Array count item) le h = tt
names_more n m (meta.Sequence count item) le h = below_more n m count.words le h

pub ranked_more : (n m k : ℕ) (ts : List TypeMeta) → n ≤ m → AreRanked n k ts → AreRanked m k ts
ranked_more n m k [] le r = tt
ranked_more n m k (t ∷ ts) le r = (names_more n m t le r.0, r.1, ranked_more n m (k + 1) ts le r.2)
