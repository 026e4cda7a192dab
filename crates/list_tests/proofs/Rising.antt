-- Merged events, with one more after them.
use Rattle.std.proofs.Common.{◌≡◌, ℕ, ◌+◌, ◌^◌, ◌<◌, ◌≤◌, List, [], ◌∷◌, ◌++◌, arith}
use Rattle.std.specs.List.{AllByRecursion}
use Rattle.trace_types.specs.declared.event.Merged.{Merged}
use Rattle.trace_types.specs.Order.{RiseFrom}
use Rattle.history_core.specs.Agreement.{IsMerge}

-- a merge whose keys lie below a bound
pub record IsBelow (bound : ℕ) (ms : List Merged) : Type 0 where
  pub rises : RiseFrom 0 ms
  pub below : AllByRecursion (λ m. m.key < bound) ms

rise_more : (k bound : ℕ) (ms : List Merged) (m : Merged) → RiseFrom k ms → AllByRecursion (λ m. m.key < bound) ms → k ≤ bound → m.key ≡ bound → RiseFrom k (ms ++ m ∷ [])
rise_more k bound [] m h a low e = (omega (arith, low, e), tt)
rise_more k bound (x ∷ xs) m h a low e = (h.0, rise_more x.key bound xs m h.1 a.1 (omega (arith, a.0)) e)

all_below : (bound : ℕ) (ms : List Merged) (m : Merged) → AllByRecursion (λ m. m.key < bound) ms → m.key ≡ bound → AllByRecursion (λ m. m.key < bound + 1) (ms ++ m ∷ [])
all_below bound [] m a e = (omega (arith, e), tt)
all_below bound (x ∷ xs) m a e = (omega (arith, a.0), all_below bound xs m a.1 e)

pub one_more : (bound : ℕ) (ms : List Merged) (m : Merged) → IsBelow bound ms → m.key ≡ bound → IsBelow (bound + 1) (ms ++ m ∷ [])
one_more bound ms m h e = record { rises = rise_more 0 bound ms m h.rises h.below (omega arith) e; below = all_below bound ms m h.below e }

weaker : (bound : ℕ) (ms : List Merged) → bound ≤ 2 ^ 62 → AllByRecursion (λ m. m.key < bound) ms → AllByRecursion (λ m. m.key < 2 ^ 62) ms
weaker bound [] low a = tt
weaker bound (x ∷ xs) low a = (omega (arith, low, a.0), weaker bound xs low a.1)

pub is_merge : (bound : ℕ) (ms : List Merged) → bound ≤ 2 ^ 62 → IsBelow bound ms → IsMerge ms
is_merge bound ms low h = record { rises = h.rises; below = weaker bound ms low h.below }
