-- What is known when a type or a name is added.
use Rattle.std.proofs.Common.{◌≡◌, ℕ, ◌<◌, length, IfOk, OnOk, Result, Ok, Err, Bool, true, false, refl, sym, ap, ◌∙◌, arith}
use Rattle.type_table.specs.declared.cause.MetaItemCause.TheVariants.{BadAttribute}
use Rattle.type_table.specs.declared.fault.Fault.{Fault}
use Rattle.type_table.specs.declared.fault.Fault.TheVariants.{Breaks, OutOfMemory}
use Rattle.trace_types.specs.declared.memory.OutOfMemory.{OutOfMemory as OutOfMemoryError}
use Rattle.type_table.specs.Faults.{OnBreak}
use Rattle.type_table.specs.Types.{Ty, fits}
use Rattle.type_table.specs.Table.{Table, Keeps, tree, trees}
use Rattle.type_scope.specs.TypeScopes.{TypeScope, State, Gives, Typed, Good, Bad, sized}
use Rattle.type_scope.specs.View.{TypeScopeModel, IsKept, known_at, state}
use Rattle.type_table.proofs.Tables.{trees_count}
use Rattle.type_scope.proofs.Views.{known_keeps}

along : {A B : Type 0} (f : A → B) (x y : A) → x ≡ y → f x ≡ f y
along f x y h = ap f h

abbrev pub after : Table → TypeScopeModel → State
after t k = record { types = trees t; known = known_at t k }

needed : (b : Bool) (ty : Ty) (k : TypeScope) → Typed (Ty × TypeScope)
needed true ty k = Good (ty, k)
needed false ty k = Bad BadAttribute

pub pushed : (old new : Table) (k : TypeScopeModel) (ty : Ty) (r : Result ℕ Fault) → Keeps old new → IsKept old k → IfOk r (λ p. (p < length new.types) × (tree new p ≡ ty)) → OnOk r (fits ty ≡ true)
    → OnBreak (λ cause. (cause ≡ BadAttribute) × (fits ty ≡ false)) r → Gives (sized ty (known_at old k)) r (after new k)
pushed old new k ty (Ok p) keeps kept index fit breaks =
    (rw (fit, known_keeps old new keeps k kept, sym index.1) refl, omega (arith, index.0, trees_count new.names new.types))
pushed old new k ty (Err (Breaks cause)) keeps kept index fit breaks = rw (breaks.1, breaks.0) refl
pushed old new k ty (Err OutOfMemory) keeps kept index fit breaks = tt

pub interned : (old new : Table) (k : TypeScopeModel) → Keeps old new → IsKept old k → trees new ≡ trees old → after new k ≡ after old k
interned old new k keeps kept same = along (λ ts. record { types = ts; known = known_at new k }) _ _ same ∙ along (λ x. record { types = trees old; known = x }) _ _ (known_keeps old new keeps k kept)

pub named_after : (old new : Table) (k : TypeScopeModel) (r : Result ℕ OutOfMemoryError) → Keeps old new → IsKept old k → OnOk r (trees new ≡ trees old) → OnOk r (after new k ≡ after old k)
named_after old new k (Ok n) keeps kept same = interned old new k keeps kept same
named_after old new k (Err e) keeps kept same = tt

-- where the table stays, so do the types
pub same_types : {A E : Type 0} (old new : TypeScopeModel) (r : Result A E) → OnOk r (new.table ≡ old.table) → OnOk r ((state new).types ≡ (state old).types)
unfolding state
same_types old new (Ok a) same = along trees _ _ same
same_types old new (Err e) same = tt
