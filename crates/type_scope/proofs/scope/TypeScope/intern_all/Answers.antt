use Rattle.std.proofs.Common.{◌≡◌, ◌∙◌, ◌++◌, ◌+◌, ◌∷◌, [], rules, take, ap, sym}
use Rattle.std.proofs.lemmas.List.{take_more}
use Rattle.type_scope.specs.View.{with_table}
use Rattle.type_scope.proofs.Named.{words_push}
use Rattle.type_scope.proofs.scope.TypeScope.intern_all.Goals as goal

pub loop-word-preserved : goal.loop-word-preserved
loop-word-preserved c =
    let stays = c.in_ok-number.ensures.stays ∙ c.loop-word.invariant.0 in
    let beside = c.in_ok-number.ensures.beside ∙ ap (with_table c.intern.new.self.table) c.loop-word.invariant.1 in
    let more = words_push c.loop-word.self.table c.intern.new.self.table c.loop-word.numbers c.in_ok-number.number (take c.loop-word.word-index c.args.words.now) c.word-item.result c.in_ok-number.ensures.keeps c.loop-word.invariant.2 c.loop-word.invariant.3 (search rules) (search rules) in
    let numbers : c.push.new.self ≡ c.loop-word.numbers ++ c.in_ok-number.number ∷ [] = search rules in
    let taken : take (c.loop-word.word-index + 1) c.args.words.now ≡ take c.loop-word.word-index c.args.words.now ++ c.word-item.result ∷ []
    = take_more c.args.words.now c.loop-word.word-index c.word-item.result (search rules) ∙ ap (λ w. take c.loop-word.word-index c.args.words.now ++ w ∷ []) (sym c.word-item.is) in
    rw (numbers, taken) (stays, beside, more.0, more.1)
