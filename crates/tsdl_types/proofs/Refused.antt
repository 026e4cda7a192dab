-- A text whose item is refused.
use Rattle.std.proofs.Common.{◌≡◌, ◌∙◌, ◌+◌, ℕ, List, ◌∷◌, Err, ap, sym, subst}
use Rattle.trace_types.specs.declared.byte_order.ByteOrderKind.{ByteOrderKind}
use Rattle.tsdl_parser.specs.declared.tree.Decl.{Decl}
use Rattle.tsdl_types.specs.declared.error.MetaError.{MetaError}
use Rattle.type_table.specs.declared.fault.Fault.{Fault}
use Rattle.type_table.specs.declared.fault.Fault.TheVariants as fault
use Rattle.tsdl_types.specs.Items.{Declared, Declares, IsRefused, declared_from, declared_on, item_of}
use Rattle.type_scope.specs.TypeScopes.{TypeScope, State, Does}

along : {A B : Type 0} (f : A → B) (x y : A) → x ≡ y → f x ≡ f y
along f x y h = ap f h

pub refuses : {A : Type 0} (known_of : A → TypeScope) (order : ByteOrderKind) (n : ℕ) (d : Decl) (rest : List Decl) (k : TypeScope) (total : Declared TypeScope) (f : Fault) (e : MetaError) (s : State)
    → IsRefused n f e → Does (item_of order d.item k) (Err f) s → declared_from order (n + 1) (d ∷ rest) k ≡ total → Declares known_of total (Err e)
refuses known_of order n d rest k total (fault.Breaks cause) e s is does from =
    subst (λ x. Declares known_of total (Err x)) (sym is) (sym from ∙ along (declared_on (n + 1) (declared_from order (n + 1 + 1) rest)) _ _ does)
refuses known_of order n d rest k total fault.OutOfMemory e s is does from = subst (λ x. Declares known_of total (Err x)) (sym is) tt
