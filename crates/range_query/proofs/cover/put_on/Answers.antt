use Rattle.std.proofs.Common.{◌≡◌, ◌-◌, ◌+◌, ◌<◌, ◌++◌, ◌∷◌, [], true, false, length, set, get_or, sym, ◌∙◌, subst, rules, arith}
use Rattle.std.proofs.lemmas.List.{get_or_default}
use Rattle.trace_types.specs.Same.{same_value}
use Rattle.range_query.specs.declared.stretch.Stretch.{Stretch}
use Rattle.range_query.specs.Cover.{put_on}
use Rattle.range_query.proofs.Putting.{going_on, put_same, put_other, put_first}
use Rattle.range_query.proofs.cover.put_on.Goals as goal
use Rattle.range_query.proofs.cover.put_on.Goals.{else-count-gt0-via-then-count-gt0+else-eq, else-count-gt0-via-else-count-gt0}

pub returns-then-eq : goal.returns-then-eq
returns-then-eq c =
    let ss = c.args.stretches.now.items in
    let s = c.args.stretch in
    let last = c.len-count.result - 1 in
    let n : length ss ≡ last + 1 = omega arith in
    let under : last < length ss = omega arith in
    let same : same_value (get_or ss last c.index.result.now).value s.value ≡ true = search rules in
    let read : get_or ss last c.index.result.now ≡ c.index_mut.result.now = sym (c.index_mut.ensures.value ∙ get_or_default ss last c.index_mut.result.now c.index.result.now under) in
    subst (λ (r : Stretch). set ss last (going_on s r) ≡ put_on s ss) read (put_same s c.index.result.now ss last n same)

pub returns : goal.returns
returns c =
    let ss = c.args.stretches.now.items in
    let s = c.args.stretch in
    let last = c.len-count.result - 1 in
    let pushed : c.push.new.self.items ≡ ss ++ s ∷ [] = search rules in
    rw pushed (elim c.else-count-gt0.branch [
      | else-count-gt0-via-then-count-gt0+else-eq w ↦ (let n : length ss ≡ last + 1 = omega arith in let other : same_value (get_or ss last w.index.result.now).value s.value ≡ false = search rules in put_other s w.index.result.now ss last n other)
      | else-count-gt0-via-else-count-gt0 w ↦ put_first s ss (omega arith)
    ])
