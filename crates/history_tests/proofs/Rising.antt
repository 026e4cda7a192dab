-- Merged events, with one more after them.
use Rattle.std.proofs.Common.{◌≡◌, sym, ℕ, ◌^◌, ◌<◌, ◌≤◌, List, [], ◌∷◌, ◌++◌, arith}
use Rattle.std.specs.List.{AllByRecursion}
use Rattle.trace_types.specs.declared.event.Merged.{Merged}
use Rattle.trace_types.specs.Order.{RiseFrom}
use Rattle.history_core.specs.Agreement.{IsMerge}

-- a merge whose keys lie at or before a time
pub record IsUpTo (last : ℕ) (ms : List Merged) : Type 0 where
  pub rises : RiseFrom 0 ms
  pub upto : AllByRecursion (λ m. m.key ≤ last) ms

rise_more : (k last : ℕ) (ms : List Merged) (m : Merged) → RiseFrom k ms → AllByRecursion (λ m. m.key ≤ last) ms → k ≤ m.key → last ≤ m.key → RiseFrom k (ms ++ m ∷ [])
rise_more k last [] m h a low le = (low, tt)
rise_more k last (x ∷ xs) m h a low le = (h.0, rise_more x.key last xs m h.1 a.1 (omega (arith, a.0, le)) le)

all_upto : (last : ℕ) (ms : List Merged) (m : Merged) → AllByRecursion (λ m. m.key ≤ last) ms → last ≤ m.key → AllByRecursion (λ x. x.key ≤ m.key) (ms ++ m ∷ [])
all_upto last [] m a le = (omega arith, tt)
all_upto last (x ∷ xs) m a le = (omega (arith, a.0, le), all_upto last xs m a.1 le)

pub one_more : (last next : ℕ) (ms : List Merged) (m : Merged) → IsUpTo last ms → last ≤ next → m.key ≡ next → IsUpTo next (ms ++ m ∷ [])
one_more last next ms m h le e = rw (sym e) (record { rises = rise_more 0 last ms m h.rises h.upto (omega arith) (omega (arith, le, e)); upto = all_upto last ms m h.upto (omega (arith, le, e)) })

below : (last : ℕ) (ms : List Merged) → last < 2 ^ 62 → AllByRecursion (λ m. m.key ≤ last) ms → AllByRecursion (λ m. m.key < 2 ^ 62) ms
below last [] low a = tt
below last (x ∷ xs) low a = (omega (arith, low, a.0), below last xs low a.1)

pub is_merge : (last : ℕ) (ms : List Merged) → last < 2 ^ 62 → IsUpTo last ms → IsMerge ms
is_merge last ms low h = record { rises = h.rises; below = below last ms low h.upto }
