-- What two indices of equal trees give, where both tables are sound: types of one kind, whose parts are equal or indices of equal trees.
use Rattle.std.proofs.Common.{◌≡◌, ◌∙◌, ℕ, zero, suc, ◌<◌, List, [], ◌∷◌, Option, Some, None, if◌then◌else◌, get_or, length, map, slice_get, ap, refl, sym, subst, subst₂, lt-ltb}
use Rattle.std.proofs.lemmas.Option.{slice_get-get_or}
use Rattle.type_table.specs.Table.{AreBased, FieldsIn, IsBased, IsSoundTable, IsWhole, RefersIn, Table, fields_at, integer_in, labels_at, name_at, shape, tree, trees, field_path_by, field_path_of, field_path_or_here}
use Rattle.type_table.specs.Types.{Label, Text, Ty, FieldPath, alignment}
use Rattle.type_table.specs.declared.integer.Integer.{Integer}
use Rattle.type_table.specs.declared.meta.FieldMeta.{FieldMeta}
use Rattle.type_table.specs.declared.meta.LabelMeta.{LabelMeta}
use Rattle.type_table.specs.declared.meta.Reference.{Reference}
use Rattle.type_table.specs.declared.meta.ScopeName.{ScopeName}
use Rattle.type_table.specs.declared.meta.TypeMeta.{TypeMeta}
use Rattle.type_table.specs.declared.meta.TypeMeta.TheVariants as meta
use Rattle.type_table.proofs.Tables.{index_refers, tree_is}
use Rattle.ctf_fields.specs.Choice.{labels_in}
use Rattle.ctf_fields.specs.Reading.{align_at, integer_of, integer_type}
use Rattle.ctf_fields.proofs.Alike.{SameName, SameType}
use Rattle.ctf_fields.proofs.Integers.{same_type, type_number}

-- ---- the parts of types

-- words of the same names, one by one
pub data SameWords (t u : Table) : List ℕ → List ℕ → Type 0 where
  no_words : SameWords t u [] []
  and_word : (w v : ℕ) (ws vs : List ℕ) → SameName t u w v → SameWords t u ws vs → SameWords t u (w ∷ ws) (v ∷ vs)

-- field paths from one scope by the same names
pub record SameReference (t u : Table) (r s : Reference) : Type 0 where
  pub scope : r.scope ≡ s.scope
  pub words : SameWords t u r.words s.words

-- fields of the same names and types, one by one
pub data SameFields (t u : Table) : List FieldMeta → List FieldMeta → Type 0 where
  no_fields : SameFields t u [] []
  and_field : (f g : FieldMeta) (fs gs : List FieldMeta) → SameName t u f.name g.name → SameType t u f.ty g.ty → SameFields t u fs gs → SameFields t u (f ∷ fs) (g ∷ gs)

-- labels of the same names and ranges, one by one
pub data SameLabels (t u : Table) : List LabelMeta → List LabelMeta → Type 0 where
  no_labels : SameLabels t u [] []
  and_label : (l m : LabelMeta) (ls ms : List LabelMeta) → SameName t u l.name m.name → l.low ≡ m.low → l.high ≡ m.high → SameLabels t u ls ms → SameLabels t u (l ∷ ls) (m ∷ ms)

-- two indices have types that are one integer
pub record SameBase (t u : Table) (a b : ℕ) : Type 0 where
  pub number : Integer
  pub left : integer_of (slice_get t.types a) ≡ Some number
  pub right : integer_of (slice_get u.types b) ≡ Some number

-- types of one kind, with the same parts
pub data SameMeta (t u : Table) : TypeMeta → TypeMeta → Type 0 where
  integers : (i j : Integer) → i ≡ j → SameMeta t u (meta.Integer i) (meta.Integer j)
  enums : (a b : ℕ) (ls ms : List LabelMeta) → SameBase t u a b → SameLabels t u ls ms → SameMeta t u (meta.Enum a ls) (meta.Enum b ms)
  strings : SameMeta t u meta.Str meta.Str
  structs : (align align' : ℕ) (fs gs : List FieldMeta) → align ≡ align' → SameFields t u fs gs → SameMeta t u (meta.Struct align fs) (meta.Struct align' gs)
  variants : (r s : Reference) (fs gs : List FieldMeta) → SameReference t u r s → SameFields t u fs gs → SameMeta t u (meta.Variant r fs) (meta.Variant s gs)
  arrays : (n m a b : ℕ) → n ≡ m → SameType t u a b → SameMeta t u (meta.Array n a) (meta.Array m b)
  sequences : (r s : Reference) (a b : ℕ) → SameReference t u r s → SameType t u a b → SameMeta t u (meta.Sequence r a) (meta.Sequence s b)

-- ---- equal parts of trees

-- equal lists begin with the same
head_of : {A : Type 0} (x y : A) (xs ys : List A) → x ∷ xs ≡ y ∷ ys → x ≡ y
head_of x y xs ys e = cc

-- equal lists go on with the same
tail_of : {A : Type 0} (x y : A) (xs ys : List A) → x ∷ xs ≡ y ∷ ys → xs ≡ ys
tail_of x y xs ys e = cc

-- words of equal texts are of the same names
same_words : (t u : Table) (ws vs : List ℕ) → map (name_at t.names) ws ≡ map (name_at u.names) vs → SameWords t u ws vs
same_words t u [] [] e = no_words
same_words t u [] (v ∷ vs) e = absurd (cc)
same_words t u (w ∷ ws) [] e = absurd (cc)
same_words t u (w ∷ ws) (v ∷ vs) e = and_word w v ws vs (head_of _ _ _ _ e) (same_words t u ws vs (tail_of _ _ _ _ e))

-- each field path is one of a scope, or none, and of words, where the empty one counts as one from here
way_is : (scope : Option ScopeName) (ws : List Text) → field_path_or_here (field_path_by scope ws) ≡ record { scope = scope; names = ws }
way_is None [] = refl
way_is None (w ∷ ws) = refl
way_is (Some scope) ws = refl

-- references that are one field path are from one scope by the same names
same_reference : (t u : Table) (r s : Reference) → field_path_or_here (field_path_of t.names r) ≡ field_path_or_here (field_path_of u.names s) → SameReference t u r s
same_reference t u r s e =
    let same : Path FieldPath (record { scope = r.scope; names = map (name_at t.names) r.words }) (record { scope = s.scope; names = map (name_at u.names) s.words })
    = sym (way_is r.scope (map (name_at t.names) r.words)) ∙ e ∙ way_is s.scope (map (name_at u.names) s.words) in
    record { scope = ap (λ w. w.scope) same; words = same_words t u r.words s.words (ap (λ w. w.names) same) }

-- fields of equal trees have the same names and types
same_fields : (t u : Table) (fs gs : List FieldMeta) → FieldsIn (length t.types) fs → FieldsIn (length u.types) gs → fields_at t.names (trees t) fs ≡ fields_at u.names (trees u) gs → SameFields t u fs gs
same_fields t u [] [] left right e = no_fields
same_fields t u [] (g ∷ gs) left right e = absurd (cc)
same_fields t u (f ∷ fs) [] left right e = absurd (cc)
same_fields t u (f ∷ fs) (g ∷ gs) left right e =
    let name : name_at t.names f.name ≡ name_at u.names g.name = cc in
    let ty : tree t f.ty ≡ tree u g.ty = cc in
    let rest : fields_at t.names (trees t) fs ≡ fields_at u.names (trees u) gs = cc in
    and_field f g fs gs name (record { left = left.0; right = right.0; same = ty }) (same_fields t u fs gs left.1 right.1 rest)

-- labels of equal texts and ranges are the same
labels_same : (t u : Table) (ls ms : List LabelMeta) → labels_at t.names ls ≡ labels_at u.names ms → SameLabels t u ls ms
labels_same t u [] [] e = no_labels
labels_same t u [] (m ∷ ms) e = absurd (cc)
labels_same t u (l ∷ ls) [] e = absurd (cc)
labels_same t u (l ∷ ls) (m ∷ ms) e =
    let first : Path Label (record { name = name_at t.names l.name; low = l.low; high = l.high }) (record { name = name_at u.names m.name; low = m.low; high = m.high }) = head_of _ _ _ _ e in
    and_label l m ls ms (ap (λ x. x.name) first) (ap (λ x. x.low) first) (ap (λ x. x.high) first) (labels_same t u ls ms (tail_of _ _ _ _ e))

-- ---- the integer of an enumeration

-- each type of a table is based as all are
based_at : (ts : List Ty) (types : List TypeMeta) (i : ℕ) (k : TypeMeta) → AreBased ts types → slice_get types i ≡ Some k → IsBased ts k
based_at ts [] i k based e = absurd (cc)
based_at ts (l ∷ types) zero k based e = let same : l ≡ k = cc in subst (IsBased ts) same based.0
based_at ts (l ∷ types) (suc i) k based e = based_at ts types i k based.1 e

-- a type whose tree is an integer is that integer
whole_integer : (names : List Text) (ts : List Ty) (k : TypeMeta) → IsWhole (shape names ts k) → integer_of (Some k) ≡ Some (integer_in (shape names ts k))
whole_integer names ts (meta.Integer integer) whole = refl
whole_integer names ts (meta.Enum base labels) whole = absurd whole
whole_integer names ts meta.Str whole = absurd whole
whole_integer names ts (meta.Struct align fs) whole = absurd whole
whole_integer names ts (meta.Variant tag fs) whole = absurd whole
whole_integer names ts (meta.Array count item) whole = absurd whole
whole_integer names ts (meta.Sequence count item) whole = absurd whole

-- an index whose tree is an integer has a type of that integer
base_integer : (t : Table) (a : ℕ) → IsSoundTable t → a < length t.types → IsWhole (tree t a) → integer_of (slice_get t.types a) ≡ Some (integer_in (tree t a))
base_integer t a sound within whole =
    let k = get_or t.types a meta.Str in
    let there = slice_get-get_or t.types a meta.Str within in
    let is = tree_is t.names t.types a k sound.ranked there in
    ap integer_of there ∙ whole_integer t.names (trees t) k (subst IsWhole is whole) ∙ ap (λ x. Some (integer_in x)) (sym is)

-- ---- types of one tree

-- types whose trees are equal are of one kind with the same parts
same_shapes : (t u : Table) (k l : TypeMeta) → IsSoundTable t → IsSoundTable u → RefersIn (length t.types) k → RefersIn (length u.types) l → IsBased (trees t) k → IsBased (trees u) l
    → shape t.names (trees t) k ≡ shape u.names (trees u) l → SameMeta t u k l
same_shapes t u (meta.Integer i) (meta.Integer j) here there left right based based' e =
    let same : i ≡ j = cc in
    integers i j same
same_shapes t u (meta.Enum a ls) (meta.Enum b ms) here there left right based based' e =
    let number : integer_in (tree t a) ≡ integer_in (tree u b) = cc in
    let labels : labels_at t.names ls ≡ labels_at u.names ms = cc in
    enums a b ls ms (record { number = integer_in (tree u b); left = base_integer t a here left based ∙ ap Some number; right = base_integer u b there right based' }) (labels_same t u ls ms labels)
same_shapes t u meta.Str meta.Str here there left right based based' e = strings
same_shapes t u (meta.Struct align fs) (meta.Struct align' gs) here there left right based based' e =
    let aligned : align ≡ align' = cc in
    let fields : fields_at t.names (trees t) fs ≡ fields_at u.names (trees u) gs = cc in
    structs align align' fs gs aligned (same_fields t u fs gs left right fields)
same_shapes t u (meta.Variant r fs) (meta.Variant s gs) here there left right based based' e =
    let field_path : field_path_of t.names r ≡ field_path_of u.names s = cc in
    let fields : fields_at t.names (trees t) fs ≡ fields_at u.names (trees u) gs = cc in
    variants r s fs gs (same_reference t u r s (ap field_path_or_here field_path)) (same_fields t u fs gs left right fields)
same_shapes t u (meta.Array n a) (meta.Array m b) here there left right based based' e =
    let count : n ≡ m = cc in
    let item : tree t a ≡ tree u b = cc in
    arrays n m a b count (record { left = left; right = right; same = item })
same_shapes t u (meta.Sequence r a) (meta.Sequence s b) here there left right based based' e =
    let field_path : field_path_or_here (field_path_of t.names r) ≡ field_path_or_here (field_path_of u.names s) = cc in
    let item : tree t a ≡ tree u b = cc in
    sequences r s a b (same_reference t u r s field_path) (record { left = left; right = right; same = item })
same_shapes t u _ _ here there left right based based' e = absurd (cc)

-- the types at two indices, which are of one kind with the same parts
pub record TypesAt (t u : Table) (a b : ℕ) : Type 0 where
  pub left : TypeMeta
  pub right : TypeMeta
  pub at_left : slice_get t.types a ≡ Some left
  pub at_right : slice_get u.types b ≡ Some right
  pub same : SameMeta t u left right

-- indices of one tree have types of one kind with the same parts
pub types_at : (t u : Table) (a b : ℕ) → IsSoundTable t → IsSoundTable u → SameType t u a b → TypesAt t u a b
types_at t u a b here there is =
    let k = get_or t.types a meta.Str in
    let l = get_or u.types b meta.Str in
    let at_left = slice_get-get_or t.types a meta.Str is.left in
    let at_right = slice_get-get_or u.types b meta.Str is.right in
    let trees_same = sym (tree_is t.names t.types a k here.ranked at_left) ∙ is.same ∙ tree_is u.names u.types b l there.ranked at_right in
    record {
      left = k;
      right = l;
      at_left = at_left;
      at_right = at_right;
      same = same_shapes t u k l here there (index_refers t.names t.types a k here.ranked is.left at_left) (index_refers u.names u.types b l there.ranked is.right at_right)
          (based_at (trees t) t.types a k here.based at_left) (based_at (trees u) u.types b l there.based at_right) trees_same;
    }

-- ---- what is asked of a type

-- types of one kind with the same parts are one integer, or none
number_of_both : (t u : Table) {k l : TypeMeta} → SameMeta t u k l → type_number t (Some k) ≡ type_number u (Some l)
number_of_both t u (integers i j same) = ap Some same
number_of_both t u (enums a b ls ms base same) = base.left ∙ sym base.right
number_of_both t u _ = refl

-- indices of one tree are of one integer, or of none
pub same_integer : (t u : Table) (a b : ℕ) → IsSoundTable t → IsSoundTable u → SameType t u a b → integer_type t a ≡ integer_type u b
same_integer t u a b here there is =
    let types = types_at t u a b here there is in
    same_type t a (Some types.left) types.at_left ∙ number_of_both t u types.same ∙ sym (same_type u b (Some types.right) types.at_right)

-- types of one kind with the same parts have the same labels
labels_of_both : (t u : Table) {k l : TypeMeta} → SameMeta t u k l → SameLabels t u (labels_in (Some k)) (labels_in (Some l))
labels_of_both t u (enums a b ls ms base same) = same
labels_of_both t u _ = no_labels

-- indices of one tree have the same labels
pub same_labels : (t u : Table) (a b : ℕ) → IsSoundTable t → IsSoundTable u → SameType t u a b → SameLabels t u (labels_in (slice_get t.types a)) (labels_in (slice_get u.types b))
same_labels t u a b here there is =
    let types = types_at t u a b here there is in
    subst₂ (λ k l. SameLabels t u (labels_in k) (labels_in l)) (sym types.at_left) (sym types.at_right) (labels_of_both t u types.same)

-- an index of a table is aligned as its tree
aligned_there : (t : Table) (a : ℕ) → a < length t.types → align_at t a ≡ alignment (tree t a)
aligned_there t a within = ap (λ c. if c then alignment (tree t a) else 8) (lt-ltb a (length t.types) within)

-- indices of one tree are aligned alike
pub same_align : (t u : Table) (a b : ℕ) → SameType t u a b → align_at t a ≡ align_at u b
same_align t u a b is = aligned_there t a is.left ∙ ap alignment is.same ∙ sym (aligned_there u b is.right)
