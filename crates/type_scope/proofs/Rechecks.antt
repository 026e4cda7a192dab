-- Fields one after the other, of which one breaks a rule.
use Rattle.std.proofs.Common.{◌≡◌, ◌∙◌, ℕ, ◌<◌, ◌+◌, List, ◌∷◌, length, drop, get_or, Err, ap, subst}
use Rattle.std.proofs.lemmas.List.{drop_more}
use Rattle.type_table.specs.declared.fault.Fault.{Fault}
use Rattle.type_table.specs.declared.fault.Fault.TheVariants as fault
use Rattle.type_table.specs.declared.meta.FieldMeta.{FieldMeta}
use Rattle.type_table.specs.Table.{Table, fields_at, name_at, tree, trees}
use Rattle.type_scope.specs.BlockContexts.{BlockContext}
use Rattle.type_scope.specs.TypeScopes.{Does, TypeScope, State, Typed, and_then}
use Rattle.type_scope.specs.Rechecked.{rechecked_all, rechecked_field}

along : {A B : Type 0} (f : A → B) (x y : A) → x ≡ y → f x ≡ f y
along f x y h = ap f h

one_fails : (a : BlockContext) (t : Table) (f : FieldMeta) (fs : List FieldMeta) (k : TypeScope) (total : Typed (Unit {0} × TypeScope)) (broken : Fault) (s : State)
    → total ≡ rechecked_all a (fields_at t.names (trees t) (f ∷ fs)) k → Does (rechecked_field a (name_at t.names f.name) (tree t f.ty) k) (Err broken) s → Does total (Err broken) s
one_fails a t f fs k total (fault.Breaks cause) s is step = is ∙ along (λ r. and_then r (λ _. rechecked_all a (fields_at t.names (trees t) fs))) _ _ step
one_fails a t f fs k total fault.OutOfMemory s is step = tt

-- the field at an index is the first of those that are left
pub left_fail : (a : BlockContext) (t u : Table) (fs : List FieldMeta) (i : ℕ) (d : FieldMeta) (k : TypeScope) (total : Typed (Unit {0} × TypeScope)) (broken : Fault) (s : State)
    → i < length fs → u ≡ t → total ≡ rechecked_all a (fields_at t.names (trees t) (drop i fs)) k
    → Does (rechecked_field a (name_at u.names (get_or fs i d).name) (tree u (get_or fs i d).ty) k) (Err broken) s → Does total (Err broken) s
left_fail a t u fs i d k total broken s h same is step =
    let from : total ≡ rechecked_all a (fields_at t.names (trees t) (get_or fs i d ∷ drop (i + 1) fs)) k = is ∙ along (λ l. rechecked_all a (fields_at t.names (trees t) l) k) _ _ (drop_more fs i d h) in
    one_fails a t (get_or fs i d) (drop (i + 1) fs) k total broken s from
    (subst (λ v. Does (rechecked_field a (name_at v.names (get_or fs i d).name) (tree v (get_or fs i d).ty) k) (Err broken) s) same step)
