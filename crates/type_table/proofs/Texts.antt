-- Texts among others.
use Rattle.std.proofs.Common.{◌≡◌, ℕ, ◌<◌, ◌+◌, ◌^◌, ◌++◌, List, [], ◌∷◌, length, Some, Bool, true, false, ◌&&◌, nat_eq, refl, sym, ap, ◌∙◌, subst, arith, if◌then◌else◌, map, append-nil}
use Rattle.std.specs.List.{position, list_any}
use Rattle.std.specs.Cmp.Lexicographic.{pointwise}
use Rattle.std.proofs.lemmas.Bool.{eqb-true}
use Rattle.std.proofs.lemmas.List.{length-append}
use Rattle.std.proofs.lemmas.List.Quantifiers.{position-Some}
use Rattle.indexmap.specs.IndexSet.{insert_key}
use Rattle.type_table.specs.declared.meta.TypeMeta.{TypeMeta}
use Rattle.type_table.specs.declared.type_size.TypeSize.{TypeSize}
use Rattle.type_table.specs.Types.{Text}
use Rattle.type_table.specs.TypeSizes.{type_size_of}
use Rattle.type_table.specs.Table.{Table, Grows, AreRanked, IsTable, AreBased, trees, name_at}
use Rattle.type_table.proofs.Trees.{trees_more, ranked_more}

along : {A B : Type 0} (f : A → B) (x y : A) → x ≡ y → f x ≡ f y
along f x y h = ap f h

both : (a b : Bool) → (a && b) ≡ true → (a ≡ true) × (b ≡ true)
both true b h = (refl, h)
both false b h = absurd (cc)

pub text_is : (a b : Text) → pointwise nat_eq a b ≡ true → a ≡ b
text_is [] [] h = refl
text_is [] (y ∷ b) h = absurd (cc)
text_is (x ∷ a) [] h = absurd (cc)
text_is (x ∷ a) (y ∷ b) h =
    let e = both (nat_eq x y) (pointwise nat_eq a b) h in
    along (λ n. n ∷ a) _ _ (eqb-true x y e.0) ∙ along (λ l. y ∷ l) _ _ (text_is a b e.1)

-- a name stands at its number
pub name_stands : (names : List Text) (name : Text) (n : ℕ) → position (pointwise nat_eq name) names ≡ Some n → (n < length names) × (name_at names n ≡ name)
name_stands names name n h =
    let found = position-Some (pointwise nat_eq name) names n [] h in
    (found.0, sym (text_is name (name_at names n) found.1))

pub grows_same : (t : Table) → Grows t t
grows_same t = record { more_names = []; more_types = []; names = sym (append-nil t.names); types = sym (append-nil t.types) }

grows_by : (b : Bool) (names : List Text) (types : List TypeMeta) (name : Text) → Grows (record { names = names; types = types }) (record { names = if b then names else names ++ name ∷ []; types = types })
grows_by true names types name = record { more_names = []; more_types = []; names = sym (append-nil names); types = sym (append-nil types) }
grows_by false names types name = record { more_names = name ∷ []; more_types = []; names = refl; types = sym (append-nil types) }

pub grows_name : (names : List Text) (types : List TypeMeta) (name : Text) → Grows (record { names = names; types = types }) (record { names = insert_key (pointwise nat_eq) names name; types = types })
grows_name names types name = grows_by (list_any (pointwise nat_eq name) names) names types name

keeps_by : (b : Bool) (names : List Text) (types : List TypeMeta) (type_sizes : List TypeSize) (name : Text) → length names + 1 < 2 ^ 32 → IsTable (record { names = names; types = types }) type_sizes → IsTable (record { names = if b then names else names ++ name ∷ []; types = types }) type_sizes
keeps_by true names types type_sizes name room t = t
keeps_by false names types type_sizes name room t = record {
  few_names = omega (arith, room, length-append names (name ∷ []));
  ranked = ranked_more (length names) (length (names ++ name ∷ [])) 0 types (omega (arith, length-append names (name ∷ []))) t.ranked;
  known = t.known ∙ along (λ ts. map type_size_of ts) _ _ (sym (trees_more names (name ∷ []) 0 [] types t.ranked));
  sound = t.sound;
  based = subst (λ ts. AreBased ts types) (sym (trees_more names (name ∷ []) 0 [] types t.ranked)) t.based;
  fit = t.fit;
}

-- a table stays one with one more name
pub keeps_name : (names : List Text) (types : List TypeMeta) (type_sizes : List TypeSize) (name : Text) → length names + 1 < 2 ^ 32 → IsTable (record { names = names; types = types }) type_sizes → IsTable (record { names = insert_key (pointwise nat_eq) names name; types = types }) type_sizes
keeps_name names types type_sizes name room t = keeps_by (list_any (pointwise nat_eq name) names) names types type_sizes name room t

trees_by : (b : Bool) (names : List Text) (types : List TypeMeta) (name : Text) → AreRanked (length names) 0 types → trees (record { names = if b then names else names ++ name ∷ []; types = types }) ≡ trees (record { names = names; types = types })
trees_by true names types name r = refl
trees_by false names types name r = trees_more names (name ∷ []) 0 [] types r

pub trees_named : (names : List Text) (types : List TypeMeta) (name : Text) → AreRanked (length names) 0 types → trees (record { names = insert_key (pointwise nat_eq) names name; types = types }) ≡ trees (record { names = names; types = types })
trees_named names types name r = trees_by (list_any (pointwise nat_eq name) names) names types name r
