-- Field paths that the end of a block decides on.
use Rattle.std.proofs.Common.{◌≡◌, ◌++◌, List, [], ◌∷◌, map, length, ℕ, ◌<◌, Option, Some, None, IfSome, sym, ap, ◌∙◌, subst, Result, Ok, Err, OnOk, OnErr}
use Rattle.std.specs.List.{AllByRecursion}
use Rattle.std.proofs.lemmas.List.{map-append}
use Rattle.type_scope.specs.declared.scope.DeferredPath.{DeferredPath as DeferredKept}
use Rattle.type_table.specs.declared.fault.Fault.{Fault}
use Rattle.type_table.specs.declared.meta.ScopeName.{ScopeName}
use Rattle.type_scope.specs.TypeScopes.{Gives, State, sized}
use Rattle.type_table.specs.Types.{Text, FieldPath, Fields, Sequence, Variant}
use Rattle.type_table.specs.Table.{Table, AreBelow, tree_at, field_path_by, field_path_or_here}
use Rattle.type_table.specs.TraceMetas.{IfHere, IndexIn}
use Rattle.type_table.specs.declared.per_scope.PerScope.{PerScope}
use Rattle.type_table.specs.PerScope.{of_scope}
use Rattle.type_table.proofs.EachScope.{all_scopes_of}
use Rattle.type_scope.specs.View.{DeferredIn, ScopesIn, deferred_at}
use Rattle.type_scope.proofs.Views.{all_append}

along : {A B : Type 0} (f : A → B) (x y : A) → x ≡ y → f x ≡ f y
along f x y h = ap f h

pub deferred_kept : {E : Type 0} (t : Table) (ls new : List DeferredKept) (l : DeferredKept) (r : Result (Unit {0}) E) → OnOk r (new ≡ ls ++ l ∷ []) → OnErr r (new ≡ ls) → AreBelow (length t.names) l.words → AllByRecursion (DeferredIn t) ls → AllByRecursion (DeferredIn t) new
deferred_kept t ls new l (Ok u) ok err below all = subst (AllByRecursion (DeferredIn t)) (sym ok) (all_append (DeferredIn t) ls (l ∷ []) all (below, tt))
deferred_kept t ls new l (Err e) ok err below all = subst (AllByRecursion (DeferredIn t)) (sym err) all

pub deferred_more : (t : Table) (ls : List DeferredKept) (l : DeferredKept) → map (deferred_at t) (ls ++ l ∷ []) ≡ map (deferred_at t) ls ++ deferred_at t l ∷ []
deferred_more t ls l = map-append (deferred_at t) ls (l ∷ [])

pub way_is : (a b : Option ScopeName) (xs ys : List Text) → a ≡ b → xs ≡ ys → field_path_by a xs ≡ field_path_by b ys
way_is a b xs ys p q = along (λ s. field_path_by s xs) _ _ p ∙ along (field_path_by b) _ _ q

-- a type whose field path was read before the type was added
pub gives_sequence : (old mid new : State) (item : ℕ) (v w : Option FieldPath) (r : Result ℕ Fault) → mid ≡ old → v ≡ w
    → Gives (sized (Sequence (field_path_or_here v) (tree_at mid.types item)) mid.known) r new → Gives (sized (Sequence (field_path_or_here w) (tree_at old.types item)) old.known) r new
gives_sequence old mid new item v w r stays field_path given =
    subst (λ x. Gives (sized (Sequence (field_path_or_here x) (tree_at old.types item)) old.known) r new) field_path
    (subst (λ s. Gives (sized (Sequence (field_path_or_here v) (tree_at s.types item)) s.known) r new) stays given)

pub gives_tagged : (old mid new : State) (v w : Option FieldPath) (fs gs : Fields) (r : Result ℕ Fault) → mid ≡ old → v ≡ w → fs ≡ gs
    → Gives (sized (Variant v fs) mid.known) r new → Gives (sized (Variant w gs) old.known) r new
gives_tagged old mid new v w fs gs r stays field_path fields given =
    subst (λ g. Gives (sized (Variant w g) old.known) r new) fields
    (subst (λ x. Gives (sized (Variant x fs) old.known) r new) field_path (subst (λ s. Gives (sized (Variant v fs) s.known) r new) stays given))

-- the type of a scope, if it has one, is there
pub scope_there : (t : Table) (scope : ScopeName) (s : PerScope (Option ℕ)) → ScopesIn t s → IfSome (of_scope scope s) (λ p. p < length t.types)
scope_there t scope s all = by (of_scope scope s) (all_scopes_of (IfHere (IndexIn t)) scope s all)
  where
    by : (o : Option ℕ) → IfHere (IndexIn t) o → IfSome o (λ p. p < length t.types)
    by None h = tt
    by (Some p) h = h
