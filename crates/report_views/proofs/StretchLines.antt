-- The stretches of a whole merge's history are those of its replay, and have one text.
use Rattle.std.proofs.Common.{◌≡◌, ℕ, ◌<◌, ◌≤◌, min, List, [], ◌∷◌, sym, ap, ◌∙◌, subst, arith, flat_map}
use Rattle.std.specs.List.{AllByRecursion}
use Rattle.trace_types.specs.declared.path.Path.{Path as AttributePath}
use Rattle.trace_types.specs.declared.value.Value.{Value}
use Rattle.trace_types.specs.declared.event.Merged.{Merged}
use Rattle.kernel_provider.specs.Replay.{state_at}
use Rattle.kernel_provider.specs.Rules.{Values}
use Rattle.kernel_provider.specs.Steps.{steps_of}
use Rattle.history_core.specs.Agreement.{IsMerge}
use Rattle.history_core.specs.Changes.{END}
use Rattle.history_core.specs.Stands.{HistoryModel, Stands}
use Rattle.history_core.specs.declared.question.Answer.TheVariants.{State}
use Rattle.history_core.proofs.Agreement.{whole_agreement}
use Rattle.history_core.proofs.Lawful.{steps_built}
use Rattle.range_query.specs.declared.stretch.Stretch.{Stretch}
use Rattle.range_query.specs.Stretches.{Tile, AreStretches, AnswerEach}
use Rattle.range_query.proofs.Putting.{HasValue}
use Rattle.range_query.proofs.Ranging.{tile_le}
use Rattle.range_query.proofs.OneAnswer.{one_list}
use Rattle.report_views.specs.StretchesText.{IsRangeText, IsStretchOf, stretch_text}

same_state : (v w : Value) → State v ≡ State w → v ≡ w
same_state v w e = cc

-- what steps answer at each instant is what the replay says there
pub replayed_each : (merge : List Merged) (p : AttributePath) (ss : List Stretch) (from to : ℕ) → IsMerge merge → Tile from ss to → to ≤ END → AnswerEach (steps_of merge) p ss → AllByRecursion (IsStretchOf (state_at merge) p) ss
replayed_each merge p [] from to m tile le h = tt
replayed_each merge p (s ∷ ss) from to m tile le h =
    (record { each = λ t low high. same_state (state_at merge t p) s.value (sym (whole_agreement merge m t p (omega (arith, high, tile_le ss s.to to tile.2, le))) ∙ h.0.each t low high) }, replayed_each merge p ss s.to to m tile.2 le h.1)

pub range_lines : (names : ℕ → List (List ℕ)) (merge : List Merged) (h : HistoryModel) (from to : ℕ) (p : AttributePath) (ss : List Stretch) (text : List ℕ) → IsMerge merge → Stands (steps_of merge) h → from < to → to < END → AreStretches from (min to h.built) ss
    → AnswerEach (steps_of merge) p ss → text ≡ flat_map (stretch_text names p) ss → IsRangeText names (state_at merge) from to p text
range_lines names merge h from to p ss text m stands lt below are each is =
    let built : h.built ≡ END = stands.built ∙ steps_built merge in
    let end : min to h.built ≡ to = omega (arith, built, below) in
    let stretches = subst (λ e. AreStretches from e ss) end are in
    record { stretches = ss; are = stretches; each = replayed_each merge p ss from to m (stretches.tile lt) (omega (arith, below)) each; is_text = is }

-- ---- one text
have_values : (values : ℕ → Values) (p : AttributePath) (ss : List Stretch) → AllByRecursion (IsStretchOf values p) ss → AllByRecursion (HasValue (λ t. values t p)) ss
have_values values p [] h = tt
have_values values p (s ∷ ss) h = (record { each = h.0.each }, have_values values p ss h.1)

pub one_range_text : (names : ℕ → List (List ℕ)) (values : ℕ → Values) (from to : ℕ) (p : AttributePath) (a b : List ℕ) → IsRangeText names values from to p a → IsRangeText names values from to p b → a ≡ b
one_range_text names values from to p a b h g =
    let same = one_list (λ t. values t p) from to h.stretches g.stretches h.are (have_values values p h.stretches h.each) g.are (have_values values p g.stretches g.each) in
    h.is_text ∙ (ap (flat_map (stretch_text names p)) same ∙ sym g.is_text)
