use Rattle.std.proofs.Common.{◌≡◌, ◌∙◌, Ok, Err, false, true, nat_eq, ap, subst, sym, rules}
use Rattle.std.proofs.lemmas.Result.{err_from_is_err_and}
use Rattle.packet_decoder.specs.EventReaders.{EventPassedAs, unkept}
use Rattle.packet_decoder.specs.Events.{cleared, event, field_or_none}
use Rattle.packet_decoder.specs.Times.{time_after}
use Rattle.packet_decoder.proofs.PassedOver.{by_end, by_head, event_read, no_bits, time_refused}
use Rattle.packet_decoder.proofs.passing.pass_planned.Goals as goal

pub returns-clause-answers : goal.returns-clause-answers
returns-clause-answers c =
    let w = c.args.packet.now in
    let s = cleared c.args.scopes.now in
    let head = c.in_ok-head.head in
    let first = c.in_ok-head.ensures.answers s in
    let body = c.in_ok-at.ensures.answers first.0.parts first.4 in
    let moved : nat_eq c.in_ok-at.at c.args.cursor.at ≡ false = search rules in
    let time = c.in_ok-clock.ensures.answers in
    let timed : time_after w.meta head.timestamp c.args.cursor.clock ≡ Ok (c.in_ok-clock.clock, time.0) = ap (λ p. time_after p.meta head.timestamp c.args.cursor.clock) (sym c.packet.view_is) ∙ time.1 in (
      record { time = time.0; cpu = w.cpu; event = head.event; fields = field_or_none body.0 },
      event_read w s c.args.cursor first.0 (unkept head first.0.parts) body.0 c.in_ok-at.at c.in_ok-clock.clock time.0 first.2 first.1 body.1 moved timed,
    )

pub returns-in_err-head-clause-answers : goal.returns-in_err-head-clause-answers
returns-in_err-head-clause-answers c =
    let w = c.args.packet.now in
    let s = cleared c.args.scopes.now in
    let out = err_from_is_err_and c.from_residual.result c.from_residual.ensures.1 in
    subst (EventPassedAs (event w s c.args.cursor)) (sym (out.1 ∙ ap Err out.2)) (by_head w s c.args.cursor c.in_err-head.field-0.0 (c.in_err-head.ensures.answers s))

pub returns-in_err-at-clause-answers : goal.returns-in_err-at-clause-answers
returns-in_err-at-clause-answers c =
    let w = c.args.packet.now in
    let s = cleared c.args.scopes.now in
    let first = c.in_ok-head.ensures.answers s in
    let out = err_from_is_err_and c.from_residual-in_err-at.result c.from_residual-in_err-at.ensures.1 in
    subst (EventPassedAs (event w s c.args.cursor)) (sym (out.1 ∙ ap Err out.2))
    (by_end w s c.args.cursor first.0 (unkept c.in_ok-head.head first.0.parts) c.in_err-at.field-0.0 first.2 first.1 (c.in_err-at.ensures.answers first.0.parts first.4))

pub returns-then-at-cursor-clause-answers : goal.returns-then-at-cursor-clause-answers
returns-then-at-cursor-clause-answers c =
    let w = c.args.packet.now in
    let s = cleared c.args.scopes.now in
    let first = c.in_ok-head.ensures.answers s in
    let body = c.in_ok-at.ensures.answers first.0.parts first.4 in
    let still : nat_eq c.in_ok-at.at c.args.cursor.at ≡ true = search (rules, c.if-at-cursor.true) in
    no_bits w s c.args.cursor first.0 (unkept c.in_ok-head.head first.0.parts) body.0 c.in_ok-at.at first.2 first.1 body.1 still

pub returns-in_err-clock-clause-answers : goal.returns-in_err-clock-clause-answers
returns-in_err-clock-clause-answers c =
    let w = c.args.packet.now in
    let s = cleared c.args.scopes.now in
    let head = c.in_ok-head.head in
    let first = c.in_ok-head.ensures.answers s in
    let body = c.in_ok-at.ensures.answers first.0.parts first.4 in
    let moved : nat_eq c.in_ok-at.at c.args.cursor.at ≡ false = search rules in
    let timed : time_after w.meta head.timestamp c.args.cursor.clock ≡ Err c.in_err-clock.field-0.0 = ap (λ p. time_after p.meta head.timestamp c.args.cursor.clock) (sym c.packet.view_is) ∙ c.in_err-clock.ensures.answers in
    let out = err_from_is_err_and c.from_residual-in_err-clock.result c.from_residual-in_err-clock.ensures.1 in
    subst (EventPassedAs (event w s c.args.cursor)) (sym (out.1 ∙ ap Err out.2))
    (time_refused w s c.args.cursor first.0 (unkept head first.0.parts) body.0 c.in_ok-at.at c.in_err-clock.field-0.0 first.2 first.1 body.1 moved timed)

pub body_end-requires-clause-declared : goal.body_end-requires-clause-declared
body_end-requires-clause-declared c =
    let first = c.in_ok-head.ensures.answers (cleared c.args.scopes.now) in
    (first.0.parts, first.4, first.3)
