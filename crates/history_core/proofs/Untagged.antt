-- Open intervals that are kept with no tag.
use Rattle.std.proofs.Common.{◌≡◌, ℕ, zero, suc, ◌-◌, ◌^◌, ◌==◌, ◌<◌, Bool, true, false, if◌then◌else◌, List, [], ◌∷◌, ◌++◌, length, Some, None, slice_index_or, slice_set, refl, sym, ap, ◌∙◌, arith}
use Rattle.std.proofs.lemmas.Bool.{eqb-true}
use Rattle.std.proofs.lemmas.List.{length-map, map-append, map-set}
use Rattle.trace_types.specs.declared.value.Value.TheVariants.{Null}
use Rattle.history_core.specs.declared.closed.Since.{Since}
use Rattle.history_core.specs.Intervals.{open_at}
use Rattle.history_core.specs.Opened.{interval_of, intervals_of}

-- an interval has begun before the end of all times
pub interval_begun : (since : Since) → since.start < 2 ^ 62 → interval_of since ≡ Some since
interval_begun since h = by (since.start == 2 ^ 64 - 1) refl
  where
    by : (b : Bool) → (since.start == 2 ^ 64 - 1) ≡ b → (if b then None else Some since) ≡ Some since
    by true e = absurd (omega (arith, h, eqb-true since.start (2 ^ 64 - 1) e))
    by false e = refl

pub kept_length : (kept : List Since) → length (intervals_of kept) ≡ length kept
kept_length kept = length-map kept interval_of

-- the open interval of a number is that of what is kept of it
pub kept_at : (kept : List Since) (n : ℕ) (since : Since) → n < length kept → since ≡ slice_index_or kept n since → open_at (intervals_of kept) n ≡ interval_of since
kept_at [] n since h e = absurd (omega arith)
kept_at (k ∷ kept) zero since h e = ap interval_of (sym e)
kept_at (k ∷ kept) (suc n) since h e = kept_at kept n since (omega arith) e

pub kept_set : (kept : List Since) (n : ℕ) (since : Since) → since.start < 2 ^ 62 → intervals_of (slice_set kept n since) ≡ slice_set (intervals_of kept) n (Some since)
kept_set kept n since h = map-set interval_of kept n since ∙ ap (slice_set (intervals_of kept) n) (interval_begun since h)

-- a start that no interval has is that of no interval
pub kept_none : (kept : List Since) → intervals_of (kept ++ record { start = 2 ^ 64 - 1; value = Null } ∷ []) ≡ intervals_of kept ++ None ∷ []
kept_none kept = map-append interval_of kept (record { start = 2 ^ 64 - 1; value = Null } ∷ [])
