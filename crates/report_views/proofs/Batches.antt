-- How long the names are that the lines of a batch print.
use Rattle.std.proofs.Common.{All, ℕ, zero, suc, ◌*◌, ◌≤◌, List, [], ◌∷◌, length, get_or, slice_index_or, arith}
use Rattle.std.proofs.lemmas.List.Sums.{sum_by-le}
use Rattle.trace_types.specs.declared.event.Merged.{Merged}
use Rattle.trace_types.specs.declared.event.KernelEvent.{KernelEvent}
use Rattle.trace_types.specs.declared.event.KernelEvent.TheVariants.{CallIn, CallOut, Other}
use Rattle.event_list.specs.Names.{names_at}
use Rattle.event_list.specs.Written.{name_parsed}
use Rattle.report_views.specs.Stretches.{AreShort, printed_size}

-- what holds of each item holds of the one at any place, where it holds of the one for none
at_or : {A : Type 0} (P : A → Type 0) (xs : List A) (i : ℕ) (d : A) → All P xs → P d → P (get_or xs i d)
at_or P [] i d all none = none
at_or P (x ∷ xs) zero d all none = all 0 d (omega arith)
at_or P (x ∷ xs) (suc i) d all none = at_or P xs i d (λ k e l. all (suc k) e (omega (arith, l))) none

short_name : (most : ℕ) (names : List (List ℕ)) (k : KernelEvent) → AreShort most names → length (name_parsed names k) ≤ most
short_name most names (CallIn n) short = at_or (λ (name : List ℕ). length name ≤ most) names n [] short (omega arith)
short_name most names (CallOut n) short = at_or (λ (name : List ℕ). length name ≤ most) names n [] short (omega arith)
short_name most names (Other n) short = at_or (λ (name : List ℕ). length name ≤ most) names n [] short (omega arith)
short_name most names k short = omega arith

-- the names of so many events
pub short_names : (most : ℕ) (lists : List (List (List ℕ))) (ms : List Merged) → All (AreShort most) lists → printed_size (names_at lists) ms ≤ length ms * most
short_names most lists ms short = sum_by-le (λ (m : Merged). length (name_parsed (names_at lists m.event.host) m.event.kind)) most ms
    (λ k d l.
    let m : Merged = slice_index_or ms k d in
    short_name most (names_at lists m.event.host) m.event.kind (at_or (AreShort most) lists m.event.host [] short (λ n e h. absurd (omega (arith, h)))))
