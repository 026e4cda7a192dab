-- The stretches of a number are those of its path.
use Rattle.std.proofs.Common.{◌≡◌, ℕ, ◌<◌, ◌≤◌, List, [], ◌∷◌, None, Some, refl, sym, ap, ◌∙◌, subst, arith}
use Rattle.std.specs.List.{AllByRecursion}
use Rattle.trace_types.specs.declared.path.Path.{Path as AttributePath}
use Rattle.trace_types.specs.declared.value.Value.{Value}
use Rattle.trace_types.specs.declared.value.Value.TheVariants.{Null}
use Rattle.attribute_tree.specs.Numbered.{number_among}
use Rattle.kernel_provider.specs.declared.step.Step.{Step}
use Rattle.history_core.specs.declared.question.Answer.TheVariants.{State}
use Rattle.history_core.specs.Answers.{numbered_value, answer_after}
use Rattle.history_core.specs.Intervals.{open_at}
use Rattle.history_core.specs.Stands.{HistoryModel, Stands}
use Rattle.history_core.proofs.Answering.{numbered, answered}
use Rattle.range_query.specs.declared.stretch.Stretch.{Stretch}
use Rattle.range_query.specs.Stretches.{Tile, AreStretches, AnswerEach}
use Rattle.range_query.specs.Cover.{AreOf, begun, filled, ended}
use Rattle.range_query.proofs.Putting.{HasValue}
use Rattle.range_query.proofs.Covering.{IsCover, begun_cover, cover_filled, cover_ended, filled_below, ended_reach, all_values}

-- stretches that tile a range end in it
pub tile_le : (ss : List Stretch) (from to : ℕ) → Tile from ss to → from ≤ to
tile_le [] from to h = omega (arith, h)
tile_le (s ∷ ss) from to h = omega (arith, h.0, h.1, tile_le ss s.to to h.2)

pub answers : (steps : List Step) (path : AttributePath) (f : ℕ → Value) (ss : List Stretch) (from to : ℕ) → Tile from ss to → AllByRecursion (HasValue f) ss → ((t : ℕ) → t < to → State (f t) ≡ answer_after steps t path) → AnswerEach steps path ss
answers steps path f [] from to tile h g = tt
answers steps path f (s ∷ ss) from to tile h g = (record { each = λ t low high. sym (g t (omega (arith, high, tile_le ss s.to to tile.2))) ∙ ap (λ v. State v) (h.0.each t low high) }, answers steps path f ss s.to to tile.2 h.1 g)

-- ---- a number's
module _ (h : HistoryModel) (number from end : ℕ) (ss : List Stretch) (lt : from < end) (are : AreOf h number from end ss) where
  cover : IsCover from (ended end (open_at h.opened number) (filled end are.intervals (begun from)))
  cover = cover_ended from end (open_at h.opened number) (filled end are.intervals (begun from)) (cover_filled from end are.intervals (begun from) (begun_cover from))

  tiled : Tile from ss end
  tiled =
      let reach = ended_reach end (open_at h.opened number) (filled end are.intervals (begun from)) (filled_below h.closed number from end are.intervals lt are.over) in
      rw are.are (subst (Tile from (ended end (open_at h.opened number) (filled end are.intervals (begun from))).stretches) reach cover.tile)

  pub number_stretches : AreStretches from end ss
  number_stretches = record { none = λ le. absurd (omega (arith, le, lt)); tile = λ l. tiled; differ = rw are.are cover.differ }

  pub number_answers : (steps : List Step) (path : AttributePath) → end ≤ h.built → number_among h.paths path ≡ Some number → Stands steps h → AnswerEach steps path ss
  number_answers steps path built is stands =
      answers steps path (numbered_value (Some number) steps) ss from end tiled
      (rw are.are (all_values h.closed (open_at h.opened number) number from end are.intervals (numbered_value (Some number) steps) lt are.over (record { older = are.older; says = λ t v l s. numbered h steps stands number t v s })))
      (λ t l. answered h steps stands t path (Some number) (numbered_value (Some number) steps t) (omega (arith, l, built)) is refl)

-- ---- those of a path that wasn't added
pub null_stretches : (from end : ℕ) → from < end → AreStretches from end (record { from = from; to = end; value = Null } ∷ [])
null_stretches from end lt = record { none = λ le. absurd (omega (arith, le, lt)); tile = λ l. (refl, lt, refl); differ = tt }

pub null_answers : (h : HistoryModel) (steps : List Step) (path : AttributePath) (from end : ℕ) → end ≤ h.built → number_among h.paths path ≡ None → Stands steps h → AnswerEach steps path (record { from = from; to = end; value = Null } ∷ [])
null_answers h steps path from end built is stands = (record { each = λ t low high. sym (answered h steps stands t path None Null (omega (arith, high, built)) is refl) }, tt)
