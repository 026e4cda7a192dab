-- What rows stand for on the way through the steps of a merge, and at the end.
use Rattle.std.proofs.Common.{◌≡◌, ℕ, zero, suc, ◌+◌, ◌-◌, ◌≤◌, Bool, true, false, if◌then◌else◌, List, [], ◌∷◌, ◌++◌, length, refl, sym, ap, ◌∙◌, subst, arith, append_assoc, append-nil, length-append}
use Rattle.std.specs.Prelude.{count_by}
use Rattle.std.specs.List.{AllByRecursion, IsDistinct, position_or_len}
use Rattle.trace_types.specs.declared.path.Path.{Path as AttributePath}
use Rattle.trace_types.specs.declared.value.Value.{Value}
use Rattle.trace_types.specs.declared.value.Value.TheVariants.{Null}
use Rattle.trace_types.specs.declared.event.Merged.{Merged}
use Rattle.trace_types.specs.Same.{same_path}
use Rattle.trace_types.specs.Order.{RiseFrom}
use Rattle.trace_types.proofs.Everywhere.{all_both, all_weaker}
use Rattle.kernel_provider.specs.declared.step.Step.{Step}
use Rattle.kernel_provider.specs.declared.step.Step.TheVariants.{Advance, Add, Change, Finish}
use Rattle.kernel_provider.specs.Replay.{state_at}
use Rattle.kernel_provider.specs.Steps.{steps_of}
use Rattle.kernel_provider.proofs.Replayed as replayed
use Rattle.state_times.specs.declared.row.Row.{Row}
use Rattle.state_times.specs.Rows.{CanTake, CanTakeAll, IsSound, IsWithin, changed, changed_at, fresh, row_among, row_step, rows_after}
use Rattle.state_times.specs.StandsFor.{StandsFor, ended, path_times}
use Rattle.state_times.specs.Times.{added, first_key, instants, is_one, is_unset, is_zero, last_key, time_with}
use Rattle.state_times.proofs.Coming.{AreSteps, added_once, steps_come, window_rises}
use Rattle.state_times.proofs.Placed.{at_number, changed_length, value_placed}
use Rattle.state_times.proofs.Stretches.{among_paths, among_rows, among_values, late, row_after, stretches, value_after}

-- the rows stand for the steps before these, which are left
pub record AreOnTheWay (events : List Merged) (paths : List AttributePath) (rows : List Row) (left : List Step) : Type 0 where
  pub least : ℕ
  pub begun : first_key events ≤ least
  pub steps : AreSteps paths least (last_key events) left
  pub within : AllByRecursion (IsWithin least) rows
  pub count : length rows ≡ length paths
  pub low : least ≤ last_key events
  pub rows_are : rows_after (first_key events) [] (steps_of events) ≡ rows_after (first_key events) rows left
  pub paths_are : added (steps_of events) ≡ paths ++ added left

pub at_first : (events : List Merged) → RiseFrom 0 events → AreOnTheWay events [] [] (steps_of events)
at_first events rise = record {
  least = first_key events;
  begun = omega arith;
  steps = steps_come events rise;
  within = tt;
  count = refl;
  low = window_rises events rise;
  rows_are = refl;
  paths_are = refl;
}

within_later : (a b : ℕ) → a ≤ b → (rows : List Row) → AllByRecursion (IsWithin a) rows → AllByRecursion (IsWithin b) rows
within_later a b h rows = all_weaker (IsWithin a) (IsWithin b) rows (λ row w. record { since = omega (arith, h, w.since); unset = w.unset; zero = w.zero; one = w.one })

pub can_take : (events : List Merged) (paths : List AttributePath) (rows : List Row) (step : Step) (left : List Step) → AreOnTheWay events paths rows (step ∷ left) → CanTake paths rows step
can_take events paths rows (Advance t) left is = tt
can_take events paths rows (Add p) left is = is.steps.0
can_take events paths rows (Change t n v) left is = within_later is.least t is.steps.1 rows is.within
can_take events paths rows Finish left is = tt

at_most : (b : Bool) (sum since t : ℕ) → sum ≤ since → since ≤ t → sum + (if b then t - since else 0) ≤ t
at_most true sum since t h g = omega (arith, h, g)
at_most false sum since t h g = omega (arith, h, g)

within_changed : (rows : List Row) (n t : ℕ) (v : Value) → AllByRecursion (IsWithin t) rows → AllByRecursion (IsWithin t) (changed_at rows n t v)
within_changed [] n t v h = tt
within_changed (r ∷ rs) zero t v h = (
  record {
    since = omega arith;
    unset = at_most (is_unset r.value) r.unset r.since t h.0.unset h.0.since;
    zero = at_most (is_zero r.value) r.zero r.since t h.0.zero h.0.since;
    one = at_most (is_one r.value) r.one r.since t h.0.one h.0.since;
  },
  h.1,
)
within_changed (r ∷ rs) (suc n) t v h = (h.0, within_changed rs n t v h.1)

pub take_one : (events : List Merged) (paths : List AttributePath) (rows : List Row) (step : Step) (left : List Step) → AreOnTheWay events paths rows (step ∷ left)
    → AreOnTheWay events (paths ++ added (step ∷ [])) (row_step (first_key events) rows step) left
take_one events paths rows (Advance t) left is = record {
  least = is.least;
  begun = is.begun;
  steps = subst (λ l. AreSteps l is.least (last_key events) left) (sym (append-nil paths)) is.steps;
  within = is.within;
  count = is.count ∙ ap length (sym (append-nil paths));
  low = is.low;
  rows_are = is.rows_are;
  paths_are = is.paths_are ∙ ap (λ l. l ++ added left) (sym (append-nil paths));
}
take_one events paths rows (Add p) left is = record {
  least = is.least;
  begun = is.begun;
  steps = is.steps.1;
  within = all_both (IsWithin is.least) rows (fresh (first_key events) ∷ []) is.within (record { since = is.begun; unset = omega arith; zero = omega arith; one = omega arith }, tt);
  count = omega (arith, is.count, length-append rows (fresh (first_key events) ∷ []), length-append paths (p ∷ []));
  low = is.low;
  rows_are = is.rows_are;
  paths_are = is.paths_are ∙ sym (append_assoc paths (p ∷ []) (added left));
}
take_one events paths rows (Change t n v) left is = record {
  least = t;
  begun = omega (arith, is.begun, is.steps.1);
  steps = subst (λ l. AreSteps l t (last_key events) left) (sym (append-nil paths)) is.steps.3;
  within = within_changed rows n t v (within_later is.least t is.steps.1 rows is.within);
  count = changed_length rows n t v ∙ (is.count ∙ ap length (sym (append-nil paths)));
  low = is.steps.2;
  rows_are = is.rows_are;
  paths_are = is.paths_are ∙ ap (λ l. l ++ added left) (sym (append-nil paths));
}
take_one events paths rows Finish left is = record {
  least = is.least;
  begun = is.begun;
  steps = subst (λ l. AreSteps l is.least (last_key events) left) (sym (append-nil paths)) is.steps;
  within = is.within;
  count = is.count ∙ ap length (sym (append-nil paths));
  low = is.low;
  rows_are = is.rows_are;
  paths_are = is.paths_are ∙ ap (λ l. l ++ added left) (sym (append-nil paths));
}

added_cons : (step : Step) (left : List Step) → added (step ∷ left) ≡ added (step ∷ []) ++ added left
added_cons (Advance t) left = refl
added_cons (Add p) left = refl
added_cons (Change t n v) left = refl
added_cons Finish left = refl

pub can_take_all : (events : List Merged) (paths : List AttributePath) (rows : List Row) (left : List Step) → AreOnTheWay events paths rows left → CanTakeAll (first_key events) paths rows left
can_take_all events paths rows [] is = tt
can_take_all events paths rows (step ∷ left) is =
    (can_take events paths rows step left is, can_take_all events (paths ++ added (step ∷ [])) (row_step (first_key events) rows step) left (take_one events paths rows step left is))

at_end : (events : List Merged) (paths : List AttributePath) (rows : List Row) (left : List Step) → AreOnTheWay events paths rows left
    → AreOnTheWay events (paths ++ added left) (rows_after (first_key events) rows left) []
at_end events paths rows [] is = subst (λ l. AreOnTheWay events l rows []) (sym (append-nil paths)) is
at_end events paths rows (step ∷ left) is =
    let later = rows_after (first_key events) rows (step ∷ left) in
    let same : (paths ++ added (step ∷ [])) ++ added left ≡ paths ++ added (step ∷ left) = append_assoc paths (added (step ∷ [])) (added left) ∙ ap (λ l. paths ++ l) (sym (added_cons step left)) in
    subst (λ l. AreOnTheWay events l later []) same
    (at_end events (paths ++ added (step ∷ [])) (row_step (first_key events) rows step) left (take_one events paths rows step left is))

pub all_taken : (events : List Merged) → RiseFrom 0 events → AreOnTheWay events (added (steps_of events)) (rows_after (first_key events) [] (steps_of events)) []
all_taken events rise = at_end events [] [] (steps_of events) (at_first events rise)

-- ---- at the end
pub sound : (events : List Merged) (paths : List AttributePath) (rows : List Row) → AreOnTheWay events paths rows [] → IsSound paths rows (first_key events) (last_key events)
sound events paths rows is = record { count = is.count; window = omega (arith, is.begun, is.low); within = within_later is.least (last_key events) is.low rows is.within }

module _ (events : List Merged) (rise : RiseFrom 0 events) (p : AttributePath) where
  place : ℕ
  place = position_or_len (same_path p) (added (steps_of events))

  row : Row
  row = row_after place (fresh (first_key events)) (steps_of events)

  row_is : row_among (added (steps_of events)) (rows_after (first_key events) [] (steps_of events)) (first_key events) p ≡ row
  unfolding place row
  row_is = among_rows (first_key events) (last_key events) [] [] (first_key events) place (steps_of events) refl (steps_come events rise)

  state_is : (t : ℕ) → value_after t place Null (steps_of events) ≡ state_at events t p
  unfolding place
  state_is t =
      sym (among_values (last_key events) t [] (first_key events) place (steps_of events) (steps_come events rise))
      ∙ (ap (λ l. at_number (replayed.table_after t [] (steps_of events)) (position_or_len (same_path p) l)) (sym (among_paths (last_key events) t [] (steps_of events)))
      ∙ (sym (value_placed (replayed.table_after t [] (steps_of events)) p) ∙ replayed.state_values events t p rise))

  sum_is : (is : Value → Bool) (sum : Row → ℕ) → ((r : Row) (t : ℕ) (w : Value) → sum (changed r t w) ≡ sum r + (if is r.value then t - r.since else 0)) → sum (fresh (first_key events)) ≡ 0
      → sum (changed row (last_key events) row.value) ≡ time_with is events p
  unfolding row
  sum_is is sum more none =
      let whole = stretches place (last_key events) is sum more [] (first_key events) (fresh (first_key events)) (steps_of events) (omega arith) (window_rises events rise) (steps_come events rise) in
      let states : count_by (λ u. is (value_after u place Null (steps_of events))) (instants events) ≡ time_with is events p = ap (λ (f : ℕ → Value). count_by (λ u. is (f u)) (instants events)) (λ i u. state_is u i) in
      omega (arith, whole, none, states)

  last_is : row.value ≡ state_at events (last_key events) p
  unfolding row
  last_is = late place (last_key events) [] (first_key events) (fresh (first_key events)) (steps_of events) (steps_come events rise) ∙ state_is (last_key events)

  told : ended (changed row (last_key events) row.value) ≡ path_times events p
  told =
      let a = last_is in
      let b = sum_is is_unset (λ r. r.unset) (λ r t w. refl) refl in
      let c = sum_is is_zero (λ r. r.zero) (λ r t w. refl) refl in
      let d = sum_is is_one (λ r. r.one) (λ r t w. refl) refl in
      λ i. record { last = a i; unset = b i; zero = c i; one = d i }

-- all of them
pub all_told : (events : List Merged) (paths : List AttributePath) (rows : List Row) → RiseFrom 0 events → AreOnTheWay events paths rows [] → StandsFor events (record { paths = paths; rows = rows; first = first_key events; last = last_key events })
all_told events paths rows rise is =
    let paths_are : added (steps_of events) ≡ paths = is.paths_are ∙ append-nil paths in
    record {
      exact = λ p.
          ap (λ (r : Row). ended (changed r (last_key events) r.value)) (
          ap (λ ps. row_among ps rows (first_key events) p) (sym paths_are)
          ∙ (ap (λ rs. row_among (added (steps_of events)) rs (first_key events) p) (sym is.rows_are) ∙ row_is events rise p))
          ∙ told events rise p;
      paths = sym paths_are;
      distinct = subst (IsDistinct same_path) paths_are (added_once events rise);
      first = refl;
      last = refl;
    }
