-- A table with one more type.
use Rattle.std.proofs.Common.{◌≡◌, ℕ, zero, suc, ◌+◌, ◌<◌, ◌≤◌, ◌++◌, List, [], ◌∷◌, length, map, get_or, slice_get, Some, max, Bool, true, false, ◌&&◌, nat_le, refl, sym, ap, ◌∙◌, subst, arith, append-nil}
use Rattle.std.proofs.lemmas.List.{length-append, length-map, get_or_append_left, get_or_push, map-append}
use Rattle.std.proofs.lemmas.Bool.{leb-true}
use Rattle.type_table.specs.declared.meta.TypeMeta.{TypeMeta}
use Rattle.type_table.specs.declared.meta.TypeMeta.TheVariants as meta
use Rattle.type_table.specs.declared.type_size.TypeSize.{TypeSize}
use Rattle.type_table.specs.declared.meta.FieldMeta.{FieldMeta}
use Rattle.type_table.specs.Types.{Text, Ty, Fields, Field, No, Str, MAX_TYPE_DEPTH, MAX_NODES, depth, nodes, Named, Struct, Variant, Array, Sequence, fits, widest, nodes_of_all}
use Rattle.type_table.specs.TypeSizes.{type_size_of, type_size_at, meta_type_size, are_fit, AreFit, no_sum, sum_of}
use Rattle.type_table.specs.Table.{Table, Grows, Keeps, AreRanked, IsTable, trees, trees_from, tree, tree_at, grown, shape, FieldsIn, fields_at, integer_in, labels_at, name_at, field_path_of, field_path_or_here, NamesIn, RefersIn, IsBased, AreBased, IsWhole, IsSound, AreSound, IsSoundTable}
use Rattle.type_table.proofs.Trees.{trees_len, trees_push, trees_more, ranked_push}
use Rattle.type_table.proofs.KnownSizes.{IsSum, factual, facts_known, is_sum}

along : {A B : Type 0} (f : A → B) (x y : A) → x ≡ y → f x ≡ f y
along f x y h = ap f h

abbrev of : List Text → List TypeMeta → Table
of names types = record { names = names; types = types }

pub trees_count : (names : List Text) (types : List TypeMeta) → length (trees (of names types)) ≡ length types
trees_count names types = omega (arith, trees_len names [] types)

pub facts_count : (names : List Text) (types : List TypeMeta) (type_sizes : List TypeSize) (n : ℕ) → IsTable (of names types) type_sizes → n < length types → n < length type_sizes
facts_count names types type_sizes n t h =
    let count = along length _ _ t.known ∙ length-map (trees (of names types)) type_size_of ∙ trees_count names types in
    omega (arith, count, h)

pub facts_stand : (names : List Text) (types : List TypeMeta) (type_sizes : List TypeSize) (n : ℕ) → IsTable (of names types) type_sizes → n < length types → type_size_at type_sizes n ≡ type_size_of (tree (of names types) n)
facts_stand names types type_sizes n t h = along (λ fs. type_size_at fs n) _ _ t.known ∙ facts_known (trees (of names types)) n (omega (arith, h, trees_count names types))

-- what is known of the next type
pub next_facts : (names : List Text) (types : List TypeMeta) (type_sizes : List TypeSize) (t : TypeMeta) → IsTable (of names types) type_sizes → RefersIn (length types) t → IsBased (trees (of names types)) t
    → meta_type_size type_sizes t ≡ type_size_of (shape names (trees (of names types)) t)
next_facts names types type_sizes t table refers based =
    along (λ fs. meta_type_size fs t) _ _ table.known ∙ factual names (trees (of names types)) t (subst (λ n. RefersIn n t) (sym (trees_count names types)) refers) based

fit_push : (type_sizes : List TypeSize) (f : TypeSize) → AreFit type_sizes → are_fit f ≡ true → AreFit (type_sizes ++ f ∷ [])
fit_push [] f h e = (e, tt)
fit_push (g ∷ type_sizes) f h e = (h.0, fit_push type_sizes f h.1 e)

sound_push : (types : List TypeMeta) (t : TypeMeta) → AreSound types → IsSound t → AreSound (types ++ t ∷ [])
sound_push [] t h is = (is, tt)
sound_push (u ∷ types) t h is = (h.0, sound_push types t h.1 is)

pub sound_at : (types : List TypeMeta) (i : ℕ) (t : TypeMeta) → AreSound types → slice_get types i ≡ Some t → IsSound t
sound_at [] i t h e = absurd (cc)
sound_at (u ∷ types) zero t h e = let same : u ≡ t = cc in subst IsSound same h.0
sound_at (u ∷ types) (suc i) t h e = sound_at types i t h.1 e

-- enumerations of integers stay such with more types
based_more : (few more : List Ty) (n : ℕ) (t : TypeMeta) → n ≤ length few → RefersIn n t → IsBased few t → IsBased (few ++ more) t
based_more few more n (meta.Integer integer) le h b = tt
based_more few more n (meta.Enum base labels) le h b = subst IsWhole (sym (get_or_append_left few more Str base (omega (arith, le, h)))) b
based_more few more n meta.Str le h b = tt
based_more few more n (meta.Struct align fields) le h b = tt
based_more few more n (meta.Variant tag fields) le h b = tt
based_more few more n (meta.Array count item) le h b = tt
based_more few more n (meta.Sequence count item) le h b = tt

based_all : (names k : ℕ) (few more : List Ty) (ts : List TypeMeta) → AreRanked names k ts → k + length ts ≤ length few → AreBased few ts → AreBased (few ++ more) ts
based_all names k few more [] r le b = tt
based_all names k few more (t ∷ ts) r le b = (based_more few more k t (omega (arith, le)) r.1 b.0, based_all names (k + 1) few more ts r.2 (omega (arith, le)) b.1)

based_push : (trees : List Ty) (ts : List TypeMeta) (t : TypeMeta) → AreBased trees ts → IsBased trees t → AreBased trees (ts ++ t ∷ [])
based_push trees [] t h b = (b, tt)
based_push trees (u ∷ ts) t h b = (h.0, based_push trees ts t h.1 b)

based_with : (names : List Text) (types : List TypeMeta) (type_sizes : List TypeSize) (t : TypeMeta) → IsTable (of names types) type_sizes → RefersIn (length types) t → IsBased (trees (of names types)) t → AreBased (trees (of names (types ++ t ∷ []))) (types ++ t ∷ [])
based_with names types type_sizes t table refers based =
    let count = trees_count names types in
    let next = shape names (trees (of names types)) t ∷ [] in
    let old = based_all (length names) 0 (trees (of names types)) next types table.ranked (omega (arith, count)) table.based in
    let new = based_more (trees (of names types)) next (length types) t (omega (arith, count)) refers based in
    subst (λ ts. AreBased ts (types ++ t ∷ [])) (sym (trees_push names [] types t)) (based_push (trees (of names types) ++ next) types t old new)

pub keeps_type : (names : List Text) (types : List TypeMeta) (type_sizes : List TypeSize) (t : TypeMeta) (f : TypeSize) → IsTable (of names types) type_sizes → NamesIn (length names) t → RefersIn (length types) t → IsBased (trees (of names types)) t → IsSound t
    → f ≡ meta_type_size type_sizes t → are_fit f ≡ true → IsTable (of names (types ++ t ∷ [])) (type_sizes ++ f ∷ [])
keeps_type names types type_sizes t f table in_names refers based sound is fit = record {
  few_names = table.few_names;
  ranked = ranked_push (length names) 0 types t table.ranked in_names (subst (λ n. RefersIn n t) (omega arith) refers);
  sound = sound_push types t table.sound sound;
  based = based_with names types type_sizes t table refers based;
  known = along (λ fs. fs ++ f ∷ []) _ _ table.known
      ∙ along (λ g. map type_size_of (trees (of names types)) ++ g ∷ []) _ _ (is ∙ next_facts names types type_sizes t table refers based)
      ∙ sym (map-append type_size_of (trees (of names types)) (shape names (trees (of names types)) t ∷ []))
      ∙ along (map type_size_of) _ _ (sym (trees_push names [] types t));
  fit = fit_push type_sizes f table.fit fit;
}

pub tree_pushed : (names : List Text) (types : List TypeMeta) (t : TypeMeta) → tree (of names (types ++ t ∷ [])) (length types) ≡ shape names (trees (of names types)) t
tree_pushed names types t =
    along (λ ts. tree_at ts (length types)) _ _ (trees_push names [] types t) ∙ get_or_push (trees (of names types)) (shape names (trees (of names types)) t) Str (length types) (trees_count names types)

pub grows_type : (names : List Text) (types : List TypeMeta) (t : TypeMeta) → Grows (of names types) (of names (types ++ t ∷ []))
grows_type names types t = record { more_names = []; more_types = t ∷ []; names = sym (append-nil names); types = refl }

facts_length : (names : List Text) (types : List TypeMeta) (type_sizes : List TypeSize) → IsTable (of names types) type_sizes → length type_sizes ≡ length types
facts_length names types type_sizes t = along length _ _ t.known ∙ length-map (trees (of names types)) type_size_of ∙ trees_count names types

pub facts_refer : (names : List Text) (types : List TypeMeta) (type_sizes : List TypeSize) (t : TypeMeta) → IsTable (of names types) type_sizes → RefersIn (length types) t → RefersIn (length type_sizes) t
facts_refer names types type_sizes t table refers = subst (λ n. RefersIn n t) (sym (facts_length names types type_sizes table)) refers

pub fits_by : (names : List Text) (types : List TypeMeta) (type_sizes : List TypeSize) (t : TypeMeta) (b : Bool) → IsTable (of names types) type_sizes → RefersIn (length types) t → IsBased (trees (of names types)) t → are_fit (meta_type_size type_sizes t) ≡ b
    → fits (shape names (trees (of names types)) t) ≡ b
fits_by names types type_sizes t b table refers based fit = along are_fit _ _ (sym (next_facts names types type_sizes t table refers based)) ∙ fit

pub within_push : (types : List TypeMeta) (t : TypeMeta) → length types < length (types ++ t ∷ [])
within_push types t = omega (arith, length-append types (t ∷ []))

trees_prefix : (names : List Text) (done : List Ty) (more : List TypeMeta) (n : ℕ) → n < length done → tree_at (trees_from names done more) n ≡ tree_at done n
trees_prefix names done [] n h = refl
trees_prefix names done (t ∷ more) n h =
    trees_prefix names (grown names done t) more n (omega (arith, h, length-append done (shape names done t ∷ []))) ∙ get_or_append_left done (shape names done t ∷ []) Str n h

trees_joined : (names : List Text) (done : List Ty) (ts more : List TypeMeta) → trees_from names done (ts ++ more) ≡ trees_from names (trees_from names done ts) more
trees_joined names done [] more = refl
trees_joined names done (t ∷ ts) more = trees_joined names (grown names done t) ts more

pub keeps : (old new : Table) → AreRanked (length old.names) 0 old.types → Grows old new → Keeps old new
keeps old new ranked g = record {
  names = λ n h. along (λ l. get_or l n []) _ _ g.names ∙ get_or_append_left old.names g.more_names [] n h;
  types = λ n h. along (λ l. tree (of l new.types) n) _ _ g.names ∙ along (λ l. tree (of (old.names ++ g.more_names) l) n) _ _ g.types
      ∙ along (λ ts. tree_at ts n) _ _ (trees_joined (old.names ++ g.more_names) [] old.types g.more_types)
      ∙ along (λ ts. tree_at (trees_from (old.names ++ g.more_names) ts g.more_types) n) _ _ (trees_more old.names g.more_names 0 [] old.types ranked)
      ∙ trees_prefix (old.names ++ g.more_names) (trees old) g.more_types n (omega (arith, h, trees_count old.names old.types));
  more_names = omega (arith, along length _ _ g.names, length-append old.names g.more_names);
  more_types = omega (arith, along length _ _ g.types, length-append old.types g.more_types);
}

-- the sum of fields tells of their trees
pub sums : (names : List Text) (types : List TypeMeta) (type_sizes : List TypeSize) (fs : List FieldMeta) → IsTable (of names types) type_sizes → FieldsIn (length types) fs → IsSum no_sum (fields_at names (trees (of names types)) fs) (sum_of type_sizes fs)
sums names types type_sizes fs table refers =
    subst (λ x. IsSum no_sum (fields_at names (trees (of names types)) fs) (sum_of x fs)) (sym table.known)
    (is_sum names (trees (of names types)) no_sum fs (subst (λ n. FieldsIn n fs) (sym (trees_count names types)) refers) (omega arith))

pub fields_known : (names : List Text) (types : List TypeMeta) (type_sizes : List TypeSize) (fs : List FieldMeta) → IsTable (of names types) type_sizes → FieldsIn (length types) fs → FieldsIn (length type_sizes) fs
fields_known names types type_sizes fs table refers = subst (λ n. FieldsIn n fs) (sym (facts_length names types type_sizes table)) refers

max_one : (fs : Fields) → max 1 (widest fs) ≡ widest fs
max_one No = refl
max_one (Field name ty fs) = omega (arith, max_one fs)

pub widest_sum : (names : List Text) (types : List TypeMeta) (type_sizes : List TypeSize) (fs : List FieldMeta) → IsTable (of names types) type_sizes → FieldsIn (length types) fs → (sum_of type_sizes fs).align ≡ widest (fields_at names (trees (of names types)) fs)
widest_sum names types type_sizes fs table refers = (sums names types type_sizes fs table refers).align ∙ max_one (fields_at names (trees (of names types)) fs)

pub parts_sum : (names : List Text) (types : List TypeMeta) (type_sizes : List TypeSize) (fs : List FieldMeta) → IsTable (of names types) type_sizes → FieldsIn (length types) fs → (sum_of type_sizes fs).nodes ≡ nodes_of_all (fields_at names (trees (of names types)) fs)
parts_sum names types type_sizes fs table refers = omega (arith, (sums names types type_sizes fs table refers).nodes)

-- ---- a type at its index

ranked_at : (n k : ℕ) (ts : List TypeMeta) (i : ℕ) (t : TypeMeta) → AreRanked n k ts → slice_get ts i ≡ Some t → NamesIn n t × RefersIn (k + i) t
ranked_at n k [] i t r e = absurd (cc)
ranked_at n k (u ∷ ts) zero t r e = let same : u ≡ t = cc in (subst (NamesIn n) same r.0, subst (RefersIn (k + 0)) same (subst (λ m. RefersIn m u) (omega arith) r.1))
ranked_at n k (u ∷ ts) (suc i) t r e =
    let later = ranked_at n (k + 1) ts i t r.2 e in
    (later.0, subst (λ m. RefersIn m t) (omega arith) later.1)

fields_up : (n m : ℕ) (fs : List FieldMeta) → n ≤ m → FieldsIn n fs → FieldsIn m fs
fields_up n m [] le h = tt
fields_up n m (f ∷ fs) le h = (omega (arith, le, h.0), fields_up n m fs le h.1)

refers_up : (n m : ℕ) (t : TypeMeta) → n ≤ m → RefersIn n t → RefersIn m t
refers_up n m (meta.Integer integer) le h = tt
refers_up n m (meta.Enum base labels) le h = omega (arith, le, h)
refers_up n m meta.Str le h = tt
refers_up n m (meta.Struct align fields) le h = fields_up n m fields le h
refers_up n m (meta.Variant tag fields) le h = fields_up n m fields le h
refers_up n m (meta.Array count item) le h = omega (arith, le, h)
refers_up n m (meta.Sequence count item) le h = omega (arith, le, h)

split_at : (ts : List TypeMeta) (i : ℕ) (t : TypeMeta) → slice_get ts i ≡ Some t → (before after : List TypeMeta) × (ts ≡ before ++ t ∷ after) × (length before ≡ i)
split_at [] i t e = absurd (cc)
split_at (u ∷ ts) zero t e = let same : u ≡ t = cc in ([], ts, along (λ x. x ∷ ts) _ _ same, refl)
split_at (u ∷ ts) (suc i) t e =
    let rest = split_at ts i t e in
    (u ∷ rest.0, rest.1, along (λ l. u ∷ l) _ _ rest.2, omega (arith, rest.3))

shape_keeps : (names : List Text) (few all : List Ty) (t : TypeMeta) → ((n : ℕ) → n < length few → tree_at all n ≡ tree_at few n) → RefersIn (length few) t → shape names few t ≡ shape names all t
shape_keeps names few all (meta.Integer integer) same h = refl
shape_keeps names few all (meta.Enum base labels) same h = along (λ x. Named (integer_in x) (labels_at names labels)) _ _ (sym (same base h))
shape_keeps names few all meta.Str same h = refl
shape_keeps names few all (meta.Struct align fields) same h = along (Struct align) _ _ (fields_keep fields h)
  where
    fields_keep : (fs : List FieldMeta) → FieldsIn (length few) fs → fields_at names few fs ≡ fields_at names all fs
    fields_keep [] h = refl
    fields_keep (f ∷ fs) h = along (λ x. Field (name_at names f.name) x (fields_at names few fs)) _ _ (sym (same f.ty h.0)) ∙ along (Field (name_at names f.name) (tree_at all f.ty)) _ _ (fields_keep fs h.1)
shape_keeps names few all (meta.Variant tag fields) same h = along (Variant (field_path_of names tag)) _ _ (fields_keep fields h)
  where
    fields_keep : (fs : List FieldMeta) → FieldsIn (length few) fs → fields_at names few fs ≡ fields_at names all fs
    fields_keep [] h = refl
    fields_keep (f ∷ fs) h = along (λ x. Field (name_at names f.name) x (fields_at names few fs)) _ _ (sym (same f.ty h.0)) ∙ along (Field (name_at names f.name) (tree_at all f.ty)) _ _ (fields_keep fs h.1)
shape_keeps names few all (meta.Array count item) same h = along (Array count) _ _ (sym (same item h))
shape_keeps names few all (meta.Sequence count item) same h = along (Sequence (field_path_or_here (field_path_of names count))) _ _ (sym (same item h))

-- the tree of an index, by the trees of all
pub tree_is : (names : List Text) (types : List TypeMeta) (i : ℕ) (t : TypeMeta) → AreRanked (length names) 0 types → slice_get types i ≡ Some t → tree (of names types) i ≡ shape names (trees (of names types)) t
tree_is names types i t r e = by (split_at types i t e)
  where
    by : ((before after : List TypeMeta) × (types ≡ before ++ t ∷ after) × (length before ≡ i)) → tree (of names types) i ≡ shape names (trees (of names types)) t
    by (before, after, is, at) =
        let refers = (ranked_at (length names) 0 types i t r e).1 in
        let few = trees_from names [] before in
        let count : length few ≡ i = omega (arith, trees_len names [] before, at) in
        let all_is : trees (of names types) ≡ trees_from names (grown names few t) after = along (trees_from names []) _ _ is ∙ trees_joined names [] before (t ∷ after) in
        let here = along (λ ts. tree_at ts i) _ _ all_is ∙ trees_prefix names (grown names few t) after i (omega (arith, count, length-append few (shape names few t ∷ []))) ∙ get_or_push few (shape names few t) Str i count in
        let same : (n : ℕ) → n < length few → tree_at (trees (of names types)) n ≡ tree_at few n = λ n h. along (λ ts. tree_at ts n) _ _ all_is ∙ trees_prefix names (grown names few t) after n (omega (arith, h, length-append few (shape names few t ∷ []))) ∙ get_or_append_left few (shape names few t ∷ []) Str n h in
        here ∙ shape_keeps names few (trees (of names types)) t same (subst (λ m. RefersIn m t) (omega (arith, count)) refers)

pub index_refers : (names : List Text) (types : List TypeMeta) (i : ℕ) (t : TypeMeta) → AreRanked (length names) 0 types → i < length types → slice_get types i ≡ Some t → RefersIn (length types) t
index_refers names types i t r h e = refers_up i (length types) t (omega (arith, h)) (subst (λ m. RefersIn m t) (omega arith) (ranked_at (length names) 0 types i t r e).1)

pub index_names : (names : List Text) (types : List TypeMeta) (i : ℕ) (t : TypeMeta) → AreRanked (length names) 0 types → slice_get types i ≡ Some t → NamesIn (length names) t
index_names names types i t r e = (ranked_at (length names) 0 types i t r e).0

pub index_ranked : (names : List Text) (types : List TypeMeta) (i : ℕ) (t : TypeMeta) → AreRanked (length names) 0 types → slice_get types i ≡ Some t → RefersIn i t
index_ranked names types i t r e = subst (λ m. RefersIn m t) (omega arith) (ranked_at (length names) 0 types i t r e).1

fit_at : (type_sizes : List TypeSize) (n : ℕ) (d : TypeSize) → n < length type_sizes → AreFit type_sizes → are_fit (get_or type_sizes n d) ≡ true
fit_at [] n d h fit = absurd (omega (arith, h))
fit_at (f ∷ type_sizes) zero d h fit = fit.0
fit_at (f ∷ type_sizes) (suc n) d h fit = fit_at type_sizes n d (omega (arith, h)) fit.1

both_hold : (a b : Bool) → (a && b) ≡ true → (a ≡ true) × (b ≡ true)
both_hold true b h = (refl, h)
both_hold false b h = absurd (cc)

-- every type is within the limits
pub limited : (names : List Text) (types : List TypeMeta) (type_sizes : List TypeSize) (n : ℕ) → IsTable (of names types) type_sizes → n < length types → (depth (tree (of names types) n) ≤ MAX_TYPE_DEPTH) × (nodes (tree (of names types) n) ≤ MAX_NODES)
limited names types type_sizes n table h =
    let here = fit_at type_sizes n (record { align = 0; depth = 0; nodes = 0; may_be_empty = false; has_paths = false }) (facts_count names types type_sizes n table h) table.fit in
    let same = along are_fit _ _ (sym (facts_stand names types type_sizes n table h)) ∙ here in
    let both = both_hold (nat_le (depth (tree (of names types) n)) MAX_TYPE_DEPTH) (nat_le (nodes (tree (of names types) n)) MAX_NODES) same in
    (leb-true _ _ both.0, leb-true _ _ both.1)

-- a table is sound, whatever facts are kept of it
pub sound_table : (names : List Text) (types : List TypeMeta) (type_sizes : List TypeSize) → IsTable (of names types) type_sizes → IsSoundTable (of names types)
sound_table names types type_sizes table = subst (IsTable (of names types)) table.known table
