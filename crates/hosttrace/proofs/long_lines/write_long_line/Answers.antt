use Rattle.std.proofs.Common.{◌≡◌, ◌∙◌, ◌++◌, ◌∷◌, [], rules}
use Rattle.std.proofs.lemmas.Result.{on_ok_weaker, on_err_weaker}
use Rattle.event_list.specs.Lines.{head_text}
use Rattle.hosttrace.proofs.LongLines.{all_pieces, front_of_end, front_of_first, front_of_word}
use Rattle.hosttrace.proofs.long_lines.write_long_line.Goals as goal

pub returns-in_err-write_text-clause-front : goal.returns-in_err-write_text-clause-front
returns-in_err-write_text-clause-front g c =
    let is : c.deref.result.now ≡ head_text c.args.event.now ++ 32 ∷ [] = c.deref.ensures.value ∙ c.in-Ok.ensures in
    let front = front_of_first _ (head_text c.args.event.now) c.args.word.now _ is _ c.in_err-write_text.ensures.front in
    search rules

pub returns-in_err-write_text-2-clause-front : goal.returns-in_err-write_text-2-clause-front
returns-in_err-write_text-2-clause-front g c =
    let is : c.deref.result.now ≡ head_text c.args.event.now ++ 32 ∷ [] = c.deref.ensures.value ∙ c.in-Ok.ensures in
    let front = front_of_word _ (head_text c.args.event.now) c.args.word.now _ is _ _ c.in_ok-write_text.ensures.written c.in_err-write_text-2.ensures.front in
    search rules

pub returns-clause-written : goal.returns-clause-written
returns-clause-written g c =
    let is : c.deref.result.now ≡ head_text c.args.event.now ++ 32 ∷ [] = c.deref.ensures.value ∙ c.in-Ok.ensures in
    on_ok_weaker c.write_text-3.result (all_pieces _ (head_text c.args.event.now) c.args.word.now _ is _ _ _ c.in_ok-write_text.ensures.written c.in_ok-write_text-2.ensures.written) c.write_text-3.ensures.written

pub returns-clause-front : goal.returns-clause-front
returns-clause-front g c =
    let is : c.deref.result.now ≡ head_text c.args.event.now ++ 32 ∷ [] = c.deref.ensures.value ∙ c.in-Ok.ensures in
    on_err_weaker c.write_text-3.result (front_of_end _ (head_text c.args.event.now) c.args.word.now _ is _ _ _ c.in_ok-write_text.ensures.written c.in_ok-write_text-2.ensures.written) c.write_text-3.ensures.front
