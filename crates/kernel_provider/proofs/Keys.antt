-- The paths of a table, when a path gets a value.
use Rattle.std.proofs.Common.{◌≡◌, Bool, true, false, cond, if◌then◌else◌, [], ◌∷◌, ◌++◌, Some, is_some, refl, ap}
use Rattle.std.specs.Map.{lookup, keys_of}
use Rattle.trace_types.specs.declared.path.Path.{Path as AttributePath}
use Rattle.trace_types.specs.declared.value.Value.{Value}
use Rattle.trace_types.specs.Same.{same_path}
use Rattle.kernel_provider.specs.Steps.{Table, with_value, is_held}

-- one that is held stays where it stands, and a new one comes last
pub held_keys : (table : Table) (p : AttributePath) (v : Value) → is_held table p ≡ true → keys_of (with_value table p v) ≡ keys_of table
held_keys [] p v h = absurd (cc)
held_keys (e ∷ es) p v h = by (same_path p e.0) h (held_keys es p v)
  where
    by : (b : Bool) → is_some (cond b (Some e.1) (lookup (same_path p) es)) ≡ true → (is_held es p ≡ true → keys_of (with_value es p v) ≡ keys_of es)
        → keys_of (if b then (e.0, v) ∷ es else e ∷ with_value es p v) ≡ e.0 ∷ keys_of es
    by true h rest = refl
    by false h rest = ap (λ l. e.0 ∷ l) (rest h)

pub new_keys : (table : Table) (p : AttributePath) (v : Value) → is_held table p ≡ false → keys_of (with_value table p v) ≡ keys_of table ++ p ∷ []
new_keys [] p v h = refl
new_keys (e ∷ es) p v h = by (same_path p e.0) h (new_keys es p v)
  where
    by : (b : Bool) → is_some (cond b (Some e.1) (lookup (same_path p) es)) ≡ false → (is_held es p ≡ false → keys_of (with_value es p v) ≡ keys_of es ++ p ∷ [])
        → keys_of (if b then (e.0, v) ∷ es else e ∷ with_value es p v) ≡ e.0 ∷ (keys_of es ++ p ∷ [])
    by true h rest = absurd (cc)
    by false h rest = ap (λ l. e.0 ∷ l) (rest h)
