use Rattle.std.proofs.Common.{◌++◌, ◌∷◌, [], ap, ◌∙◌}
use Rattle.event_list.specs.Lines.{field_words}
use Rattle.event_list.specs.Spaced.{spaced}
use Rattle.event_list.proofs.Spaced.{line_behind}
use Rattle.event_list.proofs.write.append_line.Goals as goal

pub returns-clause-text : goal.returns-clause-text
returns-clause-text c =
    let names = c.args.names.now in
    let event = c.args.event.now in
    let head = ap (λ l. l ++ spaced (field_words names event.event.kind)) c.in_ok-append_head.ensures in
    c.in_ok-push.ensures.items ∙ (ap (λ l. l ++ 10 ∷ []) (c.in_ok-write_fields.ensures.text ∙ head) ∙ line_behind c.args.out.now.items names event)
