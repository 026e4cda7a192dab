-- Frames that are opened, changed and closed.
use Rattle.std.proofs.Common.{◌≡◌, ℕ, ◌<◌, ◌++◌, List, [], ◌∷◌, length, Option, None, option_map, map, reverse, Bool, true, false, ◌&&◌, nat_le, refl, sym, ap, subst, arith, Result, Ok, Err, OnOk, OnErr}
use Rattle.std.specs.List.{AllByRecursion}
use Rattle.std.proofs.lemmas.Bool.{lt-leb}
use Rattle.std.proofs.lemmas.List.{map-append, reverse-append, reverse-reverse}
use Rattle.type_scope.specs.declared.scope.Frame.{Frame as FrameKept}
use Rattle.type_table.specs.declared.meta.FieldMeta.{FieldMeta}
use Rattle.type_table.specs.Types.{Fields, Field, Struct, MAX_TYPE_DEPTH, MAX_NODES, depth, nodes, fields_in, fits, nodes_of_all}
use Rattle.type_scope.specs.TypeScopes.{field_in, fields_read, inner_in, outer}
use Rattle.type_table.specs.Table.{Table, FieldsIn, FieldNamesIn, fields_at, name_at, tree, trees}
use Rattle.type_scope.specs.View.{FrameIn, frame_at, kept_fields, read_at, kept_field, kept_inner, kept_outer}
use Rattle.type_table.specs.TraceMetas.{IfHere}
use Rattle.type_table.proofs.Tables.{trees_count}
use Rattle.type_scope.proofs.Views.{all_append, all_reverse}

along : {A B : Type 0} (f : A → B) (x y : A) → x ≡ y → f x ≡ f y
along f x y h = ap f h

abbrev opened_frame : Bool → FrameKept
opened_frame is_struct = record { is_struct = is_struct; inner = None; fields = [] }

pub opened_frames : (t : Table) (is_struct : Bool) (fs : List FrameKept) → map (frame_at t) (reverse (fs ++ opened_frame is_struct ∷ [])) ≡ record { is_struct = is_struct; inner = None; fields = [] } ∷ map (frame_at t) (reverse fs)
opened_frames t is_struct fs = along (map (frame_at t)) _ _ (reverse-append fs (opened_frame is_struct ∷ []))

pub opened_kept : {E : Type 0} (t : Table) (is_struct : Bool) (fs new : List FrameKept) (r : Result (Unit {0}) E) → OnOk r (new ≡ fs ++ opened_frame is_struct ∷ []) → OnErr r (new ≡ fs) → AllByRecursion (FrameIn t) fs → AllByRecursion (FrameIn t) new
opened_kept t is_struct fs new (Ok u) ok err all = subst (AllByRecursion (FrameIn t)) (sym ok) (all_append (FrameIn t) fs (opened_frame is_struct ∷ []) all ((tt, tt, tt), tt))
opened_kept t is_struct fs new (Err e) ok err all = subst (AllByRecursion (FrameIn t)) (sym err) all

frames_back : (t : Table) (fs : List FrameKept) → AllByRecursion (FrameIn t) (reverse fs) → AllByRecursion (FrameIn t) fs
frames_back t fs h = subst (AllByRecursion (FrameIn t)) (reverse-reverse fs) (all_reverse (FrameIn t) (reverse fs) h)

outer_in : (t : Table) (fs : List FrameKept) → AllByRecursion (FrameIn t) fs → AllByRecursion (FrameIn t) (kept_outer fs)
outer_in t [] h = tt
outer_in t (f ∷ fs) h = h.1

inner_in_table : (t : Table) (inner : Option ℕ) (fs : List FrameKept) → IfHere (λ n. n < length t.names) inner → AllByRecursion (FrameIn t) fs → AllByRecursion (FrameIn t) (kept_inner inner fs)
inner_in_table t inner [] i h = tt
inner_in_table t inner (f ∷ fs) i h = ((i, h.0.1, h.0.2), h.1)

fields_push : (n : ℕ) (fs : List FieldMeta) (f : FieldMeta) → f.ty < n → FieldsIn n fs → FieldsIn n (fs ++ f ∷ [])
fields_push n [] f h all = (h, tt)
fields_push n (g ∷ fs) f h all = (all.0, fields_push n fs f h all.1)

names_push : (n : ℕ) (fs : List FieldMeta) (f : FieldMeta) → f.name < n → FieldNamesIn n fs → FieldNamesIn n (fs ++ f ∷ [])
names_push n [] f h all = (h, tt)
names_push n (g ∷ fs) f h all = (all.0, names_push n fs f h all.1)

field_in_table : (t : Table) (field : FieldMeta) (fs : List FrameKept) → field.name < length t.names → field.ty < length t.types → AllByRecursion (FrameIn t) fs → AllByRecursion (FrameIn t) (kept_field field fs)
field_in_table t field [] n p h = tt
field_in_table t field (f ∷ fs) n p h = ((tt, fields_push (length t.types) f.fields field p h.0.1, names_push (length t.names) f.fields field n h.0.2), h.1)

pub inner_kept : {E : Type 0} (t : Table) (inner : Option ℕ) (fs new : List FrameKept) (r : Result (Unit {0}) E) → OnOk r (reverse new ≡ kept_inner inner (reverse fs)) → OnErr r (reverse new ≡ kept_outer (reverse fs))
    → IfHere (λ n. n < length t.names) inner → AllByRecursion (FrameIn t) fs → AllByRecursion (FrameIn t) new
inner_kept t inner fs new (Ok u) ok err i all = frames_back t new (subst (AllByRecursion (FrameIn t)) (sym ok) (inner_in_table t inner (reverse fs) i (all_reverse (FrameIn t) fs all)))
inner_kept t inner fs new (Err e) ok err i all = frames_back t new (subst (AllByRecursion (FrameIn t)) (sym err) (outer_in t (reverse fs) (all_reverse (FrameIn t) fs all)))

pub field_kept : {E : Type 0} (t : Table) (field : FieldMeta) (fs new : List FrameKept) (r : Result (Unit {0}) E) → OnOk r (reverse new ≡ kept_field field (reverse fs)) → OnErr r (reverse new ≡ kept_outer (reverse fs))
    → field.name < length t.names → field.ty < length (trees t) → AllByRecursion (FrameIn t) fs → AllByRecursion (FrameIn t) new
field_kept t field fs new (Ok u) ok err n p all = frames_back t new (subst (AllByRecursion (FrameIn t)) (sym ok) (field_in_table t field (reverse fs) n (omega (arith, p, trees_count t.names t.types)) (all_reverse (FrameIn t) fs all)))
field_kept t field fs new (Err e) ok err n p all = frames_back t new (subst (AllByRecursion (FrameIn t)) (sym err) (outer_in t (reverse fs) (all_reverse (FrameIn t) fs all)))

-- the frames that are kept stand for those that the step gives
pub inner_frames : (t : Table) (inner : Option ℕ) (fs : List FrameKept) → map (frame_at t) (kept_inner inner fs) ≡ inner_in (option_map (name_at t.names) inner) (map (frame_at t) fs)
inner_frames t inner [] = refl
inner_frames t inner (f ∷ fs) = refl

pub field_frames : (t : Table) (field : FieldMeta) (fs : List FrameKept) → map (frame_at t) (kept_field field fs) ≡ field_in (name_at t.names field.name) (tree t field.ty) (map (frame_at t) fs)
field_frames t field [] = refl
field_frames t field (f ∷ fs) = along (λ l. record { is_struct = f.is_struct; inner = None; fields = l } ∷ map (frame_at t) fs) _ _ (map-append (λ x. (name_at t.names x.name, tree t x.ty)) f.fields (field ∷ []))

-- ---- ended

pub outer_kept : (t : Table) (fs new : List FrameKept) → reverse new ≡ kept_outer (reverse fs) → AllByRecursion (FrameIn t) fs → AllByRecursion (FrameIn t) new
outer_kept t fs new is all = frames_back t new (subst (AllByRecursion (FrameIn t)) (sym is) (outer_in t (reverse fs) (all_reverse (FrameIn t) fs all)))

pub closed_frames : (t : Table) (fs : List FrameKept) → map (frame_at t) (kept_outer fs) ≡ outer (map (frame_at t) fs)
closed_frames t [] = refl
closed_frames t (f ∷ fs) = refl

pub closed_fields : (t : Table) (fs : List FrameKept) → read_at t (kept_fields fs) ≡ fields_read (map (frame_at t) fs)
closed_fields t [] = refl
closed_fields t (f ∷ fs) = refl

types_in : (t : Table) (fs : List FrameKept) → AllByRecursion (FrameIn t) fs → FieldsIn (length t.types) (kept_fields fs) × FieldNamesIn (length t.names) (kept_fields fs)
types_in t [] h = (tt, tt)
types_in t (f ∷ fs) h = (h.0.1, h.0.2)

pub closed_types : (t : Table) (fs : List FrameKept) → AllByRecursion (FrameIn t) fs → FieldsIn (length t.types) (kept_fields (reverse fs))
closed_types t fs h = (types_in t (reverse fs) (all_reverse (FrameIn t) fs h)).0

pub closed_names : (t : Table) (fs : List FrameKept) → AllByRecursion (FrameIn t) fs → FieldNamesIn (length t.names) (kept_fields (reverse fs))
closed_names t fs h = (types_in t (reverse fs) (all_reverse (FrameIn t) fs h)).1

pub fields_are : (t : Table) (fs : List FieldMeta) → fields_at t.names (trees t) fs ≡ fields_in (read_at t fs)
fields_are t [] = refl
fields_are t (f ∷ fs) = along (λ l. Field (name_at t.names f.name) (tree t f.ty) l) _ _ (fields_are t fs)

-- fields of too many types fit in no structure
pub too_many : (align : ℕ) (fs : Fields) → MAX_NODES < nodes_of_all fs → fits (Struct align fs) ≡ false
too_many align fs h = by (nat_le (depth (Struct align fs)) MAX_TYPE_DEPTH) (nat_le (nodes (Struct align fs)) MAX_NODES) (lt-leb _ _ (omega (arith, h)))
  where
    by : (a b : Bool) → b ≡ false → (a && b) ≡ false
    by true b e = e
    by false b e = refl

pub known_kept : {E : Type 0} (t : Table) (field : FieldMeta) (fs new : List FrameKept) (r : Result (Unit {0}) E) → OnOk r (reverse new ≡ kept_field field (reverse fs)) → OnErr r (reverse new ≡ kept_outer (reverse fs))
    → field.name < length t.names → field.ty < length t.types → AllByRecursion (FrameIn t) fs → AllByRecursion (FrameIn t) new
known_kept t field fs new r ok err n p all = field_kept t field fs new r ok err n (omega (arith, p, trees_count t.names t.types)) all
