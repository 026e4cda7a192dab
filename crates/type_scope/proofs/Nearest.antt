-- The nearest field of a name.
use Rattle.std.proofs.Common.{◌≡◌, ◌∙◌, ◌++◌, List, [], ◌∷◌, Option, Some, None, Bool, true, false, if◌then◌else◌, ℕ, zero, suc, ◌<◌, ◌+◌, ◌-◌, length, drop, take, get_or, ap, refl, sym, subst, arith}
use Rattle.std.proofs.lemmas.List.{map-append, drop_more, take_more}
use Rattle.type_table.specs.declared.meta.FieldMeta.{FieldMeta}
use Rattle.type_table.specs.Names.{same_name}
use Rattle.type_scope.specs.References.{nearest}
use Rattle.type_scope.specs.Following.{nearest_in, or_else}
use Rattle.type_table.specs.Table.{Table, AreBelow, FieldNamesIn, FieldsIn, fields_at, name_at, tree, trees}
use Rattle.type_table.specs.Types.{Text, Ty}
use Rattle.type_scope.specs.View.{read_at}

along : {A B : Type 0} (f : A → B) (x y : A) → x ≡ y → f x ≡ f y
along f x y h = ap f h

or_none : (o : Option Ty) → or_else o None ≡ o
or_none None = refl
or_none (Some a) = refl

or_by : (b : Bool) (ty : Ty) (o p : Option Ty) → or_else (if b then Some ty else o) p ≡ (if b then Some ty else or_else o p)
or_by true ty o p = refl
or_by false ty o p = refl

nearest_push : (w : Text) (fs : List (Text × Ty)) (name : Text) (ty : Ty) → nearest w (fs ++ (name, ty) ∷ []) ≡ (if same_name w name then Some ty else nearest w fs)
nearest_push w [] name ty = by (same_name w name)
  where
    by : (b : Bool) → or_else None (if b then Some ty else None) ≡ (if b then Some ty else None)
    by true = refl
    by false = refl
nearest_push w (f ∷ fs) name ty =
    along (λ o. or_else o (if same_name w f.0 then Some f.1 else None)) _ _ (nearest_push w fs name ty)
    ∙ or_by (same_name w name) ty (nearest w fs) (if same_name w f.0 then Some f.1 else None)

pub nearest_read : (t : Table) (w : Text) (fs : List FieldMeta) (f : FieldMeta) → nearest w (read_at t (fs ++ f ∷ [])) ≡ (if same_name w (name_at t.names f.name) then Some (tree t f.ty) else nearest w (read_at t fs))
nearest_read t w fs f = along (nearest w) _ _ (map-append (λ x. (name_at t.names x.name, tree t x.ty)) fs (f ∷ [])) ∙ nearest_push w (read_at t fs) (name_at t.names f.name) (tree t f.ty)

-- all but so many at the end, of which at least one is left
split_last : (fs : List FieldMeta) (behind : ℕ) (d : FieldMeta) → behind < length fs → take (length fs - behind) fs ≡ take (length fs - 1 - behind) fs ++ get_or fs (length fs - 1 - behind) d ∷ []
split_last fs behind d h =
    let n : length fs - behind ≡ length fs - 1 - behind + 1 = omega (arith, h) in
    ap (λ k. take k fs) n ∙ take_more fs (length fs - 1 - behind) d (omega (arith, h))

pub nearest_here : (t : Table) (w : Text) (fs : List FieldMeta) (behind : ℕ) (d : FieldMeta) (same : Bool) → behind < length fs → same ≡ same_name w (name_at t.names (get_or fs (length fs - 1 - behind) d).name) → same ≡ true
    → nearest w (read_at t (take (length fs - behind) fs)) ≡ Some (tree t (get_or fs (length fs - 1 - behind) d).ty)
nearest_here t w fs behind d same h is e =
    let f = get_or fs (length fs - 1 - behind) d in
    let before = take (length fs - 1 - behind) fs in
    ap (λ l. nearest w (read_at t l)) (split_last fs behind d h) ∙ (nearest_read t w before f ∙ ap (λ b. if b then Some (tree t f.ty) else nearest w (read_at t before)) (sym is ∙ e))

pub nearest_before : (t : Table) (w : Text) (fs : List FieldMeta) (behind : ℕ) (d : FieldMeta) (same : Bool) → behind < length fs → same ≡ same_name w (name_at t.names (get_or fs (length fs - 1 - behind) d).name) → same ≡ false
    → nearest w (read_at t (take (length fs - (behind + 1)) fs)) ≡ nearest w (read_at t (take (length fs - behind) fs))
nearest_before t w fs behind d same h is e =
    let f = get_or fs (length fs - 1 - behind) d in
    let before = take (length fs - 1 - behind) fs in
    let n : length fs - (behind + 1) ≡ length fs - 1 - behind = omega (arith, h) in
    ap (λ k. nearest w (read_at t (take k fs))) n
    ∙ sym (ap (λ l. nearest w (read_at t l)) (split_last fs behind d h) ∙ (nearest_read t w before f ∙ ap (λ b. if b then Some (tree t f.ty) else nearest w (read_at t before)) (sym is ∙ e)))

pub field_in : (n : ℕ) (fs : List FieldMeta) (i : ℕ) (d : FieldMeta) → i < length fs → FieldsIn n fs → (get_or fs i d).ty < n
field_in n [] i d h all = absurd (omega (arith, h))
field_in n (f ∷ fs) zero d h all = all.0
field_in n (f ∷ fs) (suc i) d h all = field_in n fs i d (omega (arith, h)) all.1

pub field_name_in : (n : ℕ) (fs : List FieldMeta) (i : ℕ) (d : FieldMeta) → i < length fs → FieldNamesIn n fs → (get_or fs i d).name < n
field_name_in n [] i d h all = absurd (omega (arith, h))
field_name_in n (f ∷ fs) zero d h all = all.0
field_name_in n (f ∷ fs) (suc i) d h all = field_name_in n fs i d (omega (arith, h)) all.1

pub nearest_fields : (t : Table) (w : Text) (fs : List FieldMeta) → nearest w (read_at t fs) ≡ nearest_in w (fields_at t.names (trees t) fs)
nearest_fields t w [] = refl
nearest_fields t w (f ∷ fs) = along (λ o. or_else o (if same_name w (name_at t.names f.name) then Some (tree t f.ty) else None)) _ _ (nearest_fields t w fs)

pub below_rest : (n : ℕ) (ws : List ℕ) (i d : ℕ) → i < length ws → AreBelow n (drop i ws) → (get_or ws i d < n) × AreBelow n (drop (i + 1) ws)
below_rest n ws i d h all = let a = subst (AreBelow n) (drop_more ws i d h) all in (a.0, a.1)
