use Rattle.std.proofs.Common.{◌≡◌, ◌⊎◌, inl, inr, ◌≢◌, [], rules}
use Rattle.hosttrace.proofs.QuestionLines.{none_asked, no_items}
use Rattle.hosttrace.proofs.questions.read_questions.Goals.{then-is_empty-via-then-is_empty, then-is_empty-via-else-is_empty+then-not-is_empty}
use Rattle.hosttrace.proofs.questions.read_questions.Goals as goal

pub returns-then-is_empty-clause-bad : goal.returns-then-is_empty-clause-bad
returns-then-is_empty-clause-bad c =
    let left : (c.loop-question.rest.now ≢ []) ⊎ (c.loop-question.questions.items ≡ []) =
    elim c.then-is_empty.branch [ then-is_empty-via-then-is_empty w ↦ inr (no_items c.loop-question.questions.items (search rules)) | then-is_empty-via-else-is_empty+then-not-is_empty w ↦ inl (search rules) ] in
    λ line e. none_asked c.args.bytes.now c.loop-question.questions.items c.loop-question.rest.now c.loop-question.invariant c.in_default.ensures.none left
