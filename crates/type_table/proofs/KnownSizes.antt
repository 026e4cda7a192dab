-- What is known of a type, made of those of the types that it names, are those of its tree.
use Rattle.std.proofs.Common.{◌≡◌, ℕ, zero, suc, ◌+◌, ◌*◌, ◌<◌, ◌≤◌, List, [], ◌∷◌, length, map, refl, sym, ap, ◌∙◌, arith, max, min, Bool, ◌&&◌, ◌||◌, nat_eq, true, false, subst, Option}
use Rattle.std.proofs.lemmas.List.{get_or-map}
use Rattle.std.proofs.lemmas.Grind.{common_steps}
use Rattle.type_table.specs.declared.type_size.TypeSize.{TypeSize}
use Rattle.type_table.specs.declared.type_size.Sum.{Sum}
use Rattle.type_table.specs.declared.meta.TypeMeta.{TypeMeta}
use Rattle.type_table.specs.declared.meta.TypeMeta.TheVariants as meta
use Rattle.type_table.specs.declared.meta.FieldMeta.{FieldMeta}
use Rattle.type_table.specs.Types.{Text, FieldPath, Label, Ty, Fields, Field, Str, No, Whole, Named, Struct, Variant, Array, Sequence, alignment, depth, nodes, least_bits, depth_of_all, nodes_of_all, least_of_all, least_of_one, widest, has_paths, any_has_paths}
use Rattle.type_table.specs.TypeSizes.{type_size_of, type_size_at, no_sum, summed, sum_from, meta_type_size, is_none, leaf}
use Rattle.type_table.specs.Table.{tree_at, fields_at, shape, FieldsIn, RefersIn, IsBased, IsWhole, integer_in, field_path_of, labels_at}

along : {A B : Type 0} (f : A → B) (x y : A) → x ≡ y → f x ≡ f y
along f x y h = ap f h

pub facts_known : (ts : List Ty) (n : ℕ) → n < length ts → type_size_at (map type_size_of ts) n ≡ type_size_of (tree_at ts n)
facts_known ts n h = get_or-map type_size_of ts n Str _ h

-- whether all fields may be empty, and whether one may
abbrev pub all_empty_in : Fields → Bool
all_empty_in No = true
all_empty_in (Field name ty fields) = nat_eq (least_bits ty) 0 && all_empty_in fields

abbrev pub any_empty_in : Fields → Bool
any_empty_in No = false
any_empty_in (Field name ty fields) = nat_eq (least_bits ty) 0 || any_empty_in fields

and_assoc : (a b c : Bool) → ((a && b) && c) ≡ (a && (b && c))
and_assoc true b c = refl
and_assoc false b c = refl

or_assoc : (a b c : Bool) → ((a || b) || c) ≡ (a || (b || c))
or_assoc true b c = refl
or_assoc false b c = refl

abbrev the_size : ℕ → ℕ → ℕ → Bool → Bool → TypeSize
the_size a d n e p = record { align = a; depth = d; nodes = n; may_be_empty = e; has_paths = p }

abbrev around_list : ℕ → TypeSize → TypeSize
around_list n f = the_size f.align (suc f.depth) (suc f.nodes) (nat_eq n 0 || f.may_be_empty) f.has_paths

pub record IsSum (s : Sum) (fs : Fields) (r : Sum) : Type 0 where
  pub align : r.align ≡ max s.align (widest fs)
  pub depth : r.depth ≡ max s.depth (depth_of_all fs)
  pub nodes : r.nodes ≡ s.nodes + nodes_of_all fs
  pub all_empty : r.all_empty ≡ (s.all_empty && all_empty_in fs)
  pub any_empty : r.any_empty ≡ (s.any_empty || any_empty_in fs)
  pub any_paths : r.any_paths ≡ (s.any_paths || any_has_paths fs)

sum_zero : (a b : ℕ) → nat_eq (a + b) 0 ≡ (nat_eq a 0 && nat_eq b 0)
sum_zero zero b = along (λ n. nat_eq n 0) (0 + b) b (omega arith)
sum_zero (suc a) b = grind (arith, common_steps)

product_zero : (a b : ℕ) → nat_eq (a * b) 0 ≡ (nat_eq a 0 || nat_eq b 0)
product_zero zero b = along (λ n. nat_eq n 0) (0 * b) 0 (omega arith)
product_zero (suc a) zero = grind (arith, common_steps)
product_zero (suc a) (suc b) = grind (arith, common_steps)

min_zero : (a b : ℕ) → nat_eq (min a b) 0 ≡ (nat_eq a 0 || nat_eq b 0)
min_zero zero b = grind (arith, common_steps)
min_zero (suc a) zero = grind (arith, common_steps)
min_zero (suc a) (suc b) = grind (arith, common_steps)

all_zero : (fs : Fields) → nat_eq (least_of_all fs) 0 ≡ all_empty_in fs
all_zero No = refl
all_zero (Field name ty fs) = sum_zero (least_bits ty) (least_of_all fs) ∙ along (λ b. nat_eq (least_bits ty) 0 && b) _ _ (all_zero fs)

one_zero : (m : ℕ) (fs : Fields) → nat_eq (least_of_one m fs) 0 ≡ (nat_eq m 0 || any_empty_in fs)
one_zero m No = sym (or_false (nat_eq m 0))
  where
    or_false : (b : Bool) → (b || false) ≡ b
    or_false true = refl
    or_false false = refl
one_zero m (Field name ty fs) = one_zero (min m (least_bits ty)) fs ∙ along (λ b. b || any_empty_in fs) _ _ (min_zero m (least_bits ty)) ∙ or_assoc (nat_eq m 0) (nat_eq (least_bits ty) 0) (any_empty_in fs)

pub is_sum : (names : List Text) (ts : List Ty) (s : Sum) (fs : List FieldMeta) → FieldsIn (length ts) fs → 1 ≤ s.align → IsSum s (fields_at names ts fs) (sum_from (map type_size_of ts) s fs)
is_sum names ts s [] h a = record { align = omega (arith, a); depth = omega arith; nodes = omega arith; all_empty = and_true s.all_empty; any_empty = or_false s.any_empty; any_paths = or_false s.any_paths }
  where
    and_true : (b : Bool) → b ≡ (b && true)
    and_true true = refl
    and_true false = refl

    or_false : (b : Bool) → b ≡ (b || false)
    or_false true = refl
    or_false false = refl
is_sum names ts s (f ∷ fs) h a =
    let known = facts_known ts f.ty h.0 in
    let rest = is_sum names ts (summed s (type_size_of (tree_at ts f.ty))) fs h.1 (omega (arith, a)) in
    subst (λ x. IsSum s (fields_at names ts (f ∷ fs)) (sum_from (map type_size_of ts) (summed s x) fs)) (sym known) (record {
      align = omega (arith, rest.align);
      depth = omega (arith, rest.depth);
      nodes = omega (arith, rest.nodes);
      all_empty = rest.all_empty ∙ and_assoc s.all_empty _ _;
      any_empty = rest.any_empty ∙ or_assoc s.any_empty _ _;
      any_paths = rest.any_paths ∙ or_assoc s.any_paths _ _;
    })

size_same : (a d n : ℕ) (e p : Bool) (d2 n2 : ℕ) (e2 p2 : Bool) → d ≡ d2 → n ≡ n2 → e ≡ e2 → p ≡ p2 → the_size a d n e p ≡ the_size a d2 n2 e2 p2
size_same a d n e p d2 n2 e2 p2 i j k l = along (λ x. the_size a x n e p) _ _ i ∙ along (λ x. the_size a d2 x e p) _ _ j ∙ along (λ x. the_size a d2 n2 x p) _ _ k ∙ along (λ x. the_size a d2 n2 e2 x) _ _ l

any_or_none : (names : List Text) (ts : List Ty) (tag : Option FieldPath) (fs : List FieldMeta) → (is_none fs || any_empty_in (fields_at names ts fs)) ≡ nat_eq (least_bits (Variant tag (fields_at names ts fs))) 0
any_or_none names ts tag [] = refl
any_or_none names ts tag (f ∷ fs) = sym (one_zero (least_bits (tree_at ts f.ty)) (fields_at names ts fs))

-- the alignment of an enumeration's integer is its own, and so are its bits
base_same : (labels : List Label) (ty : Ty) → IsWhole ty → leaf (type_size_of ty).align (type_size_of ty).may_be_empty ≡ type_size_of (Named (integer_in ty) labels)
base_same labels (Whole i) h = refl
base_same labels (Named i ls) h = absurd h
base_same labels Str h = absurd h
base_same labels (Struct a fs) h = absurd h
base_same labels (Variant tag fs) h = absurd h
base_same labels (Array n item) h = absurd h
base_same labels (Sequence n item) h = absurd h

pub factual : (names : List Text) (ts : List Ty) (t : TypeMeta) → RefersIn (length ts) t → IsBased ts t → meta_type_size (map type_size_of ts) t ≡ type_size_of (shape names ts t)
factual names ts (meta.Integer integer) h b = refl
factual names ts (meta.Enum base labels) h b = along (λ f. leaf f.align f.may_be_empty) _ _ (facts_known ts base h) ∙ base_same (labels_at names labels) (tree_at ts base) b
factual names ts meta.Str h b = refl
factual names ts (meta.Struct align fields) h b =
    let sum = is_sum names ts no_sum fields h (omega arith) in
    size_same align _ _ _ _ _ _ _ _ (omega (arith, sum.depth)) (omega (arith, sum.nodes)) (sum.all_empty ∙ sym (all_zero (fields_at names ts fields))) sum.any_paths
factual names ts (meta.Variant tag fields) h b =
    let sum = is_sum names ts no_sum fields h (omega arith) in
    size_same 1 _ _ _ _ _ _ _ _ (omega (arith, sum.depth)) (omega (arith, sum.nodes)) (along (λ e. is_none fields || e) _ _ sum.any_empty ∙ any_or_none names ts (field_path_of names tag) fields) refl
factual names ts (meta.Array n item) h b = along (λ f. around_list n f) _ _ (facts_known ts item h) ∙ along (λ e. the_size (alignment (tree_at ts item)) (suc (depth (tree_at ts item))) (suc (nodes (tree_at ts item))) e (has_paths (tree_at ts item))) _ _ (sym (product_zero n (least_bits (tree_at ts item))))
factual names ts (meta.Sequence n item) h b = along (λ f. the_size f.align (suc f.depth) (suc f.nodes) true true) _ _ (facts_known ts item h)
