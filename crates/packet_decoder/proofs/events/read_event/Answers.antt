use Rattle.std.proofs.Common.{◌≡◌, ◌∙◌, Ok, Err, false, true, nat_eq, refl, ap, subst, sym, rules}
use Rattle.std.proofs.lemmas.Result.{err_from_is_err_and}
use Rattle.read_plan.specs.Placed.{AreKeptOrAt}
use Rattle.type_table.specs.PerScope.{with_scope}
use Rattle.type_table.specs.declared.meta.ScopeName.TheVariants.{EventHeader}
use Rattle.packet_decoder.specs.EventReaders.{EventReadAs, FieldsReadAs}
use Rattle.packet_decoder.specs.Events.{cleared, event, event_body, event_head, field_or_none}
use Rattle.packet_decoder.specs.Times.{time_after}
use Rattle.packet_decoder.proofs.PassedOver.{by_fields, event_read, no_bits, time_refused}
use Rattle.packet_decoder.proofs.events.read_event.Goals as goal

pub returns-clause-answers : goal.returns-clause-answers
returns-clause-answers c =
    let first = c.in_ok-head.ensures.answers in
    let heads : event_head c.args.packet.now (cleared c.args.scopes.now) c.args.cursor.at ≡ Ok first.0 = search (rules, first.1) in
    let read = c.in_ok-body.ensures.answers in
    let body : event_body c.args.packet.now (with_scope EventHeader c.in_ok-head.head.header (cleared c.args.scopes.now)) c.in_ok-head.head.parts c.in_ok-head.head.at ≡ Ok (read.0, c.in_ok-body.body.end) = search (rules, read.1) in
    let moved : nat_eq c.in_ok-body.body.end c.args.cursor.at ≡ false = search rules in
    let time : time_after c.args.packet.now.meta c.in_ok-head.head.timestamp c.args.cursor.clock ≡ Ok (c.in_ok-clock.clock, c.in_ok-clock.time) = search rules in
    let w = c.args.packet.now in
    let ty = c.in_ok-head.head.parts.fields in
    let kept =
    subst (λ skip. AreKeptOrAt w.meta.table w.bytes w.end ty skip (field_or_none read.0) c.field_or_none.result c.in_ok-body.body.from) c.skip_at-skip.ensures
    (subst (λ f. AreKeptOrAt w.meta.table w.bytes w.end ty c.skip_at-skip.result (field_or_none read.0) f c.in_ok-body.body.from) (sym c.field_or_none.ensures) read.2) in (
      record { time = c.in_ok-clock.time; cpu = c.args.packet.now.cpu; event = c.in_ok-head.head.event; fields = field_or_none read.0 },
      event_read c.args.packet.now (cleared c.args.scopes.now) c.args.cursor first.0 c.in_ok-head.head read.0 c.in_ok-body.body.end c.in_ok-clock.clock c.in_ok-clock.time first.2 heads body moved time,
      record {
        time = refl;
        cpu = ap (λ p. p.cpu) c.packet.view_is;
        event = refl;
        fields = record { parts = c.in_ok-head.head.parts; declared = c.in_ok-head.ensures.declared; fields = kept };
      },
    )

pub returns-in_err-body-clause-answers : goal.returns-in_err-body-clause-answers
returns-in_err-body-clause-answers c =
    let first = c.in_ok-head.ensures.answers in
    let heads : event_head c.args.packet.now (cleared c.args.scopes.now) c.args.cursor.at ≡ Ok first.0 = search (rules, first.1) in
    let out = err_from_is_err_and c.from_residual-in_err-body.result c.from_residual-in_err-body.ensures.1 in
    let head = c.in_ok-head.head in
    let body : FieldsReadAs c.args.packet.now head.parts.fields c.skip_at-skip.result (event_body c.args.packet.now (with_scope EventHeader head.header (cleared c.args.scopes.now)) head.parts head.at) (Err c.in_err-body.field-0.0) = search (rules, c.in_err-body.ensures.answers) in
    subst (EventReadAs c.args.packet.now c.args.skips.now (event c.args.packet.now (cleared c.args.scopes.now) c.args.cursor)) (sym (out.1 ∙ ap Err out.2))
    (by_fields c.args.skips.now head.parts.fields c.skip_at-skip.result c.args.packet.now (cleared c.args.scopes.now) c.args.cursor first.0 head c.in_err-body.field-0.0 first.2 heads body)

pub returns-then-body-cursor-clause-answers : goal.returns-then-body-cursor-clause-answers
returns-then-body-cursor-clause-answers c =
    let first = c.in_ok-head.ensures.answers in
    let heads : event_head c.args.packet.now (cleared c.args.scopes.now) c.args.cursor.at ≡ Ok first.0 = search (rules, first.1) in
    let head = c.in_ok-head.head in
    let read = c.in_ok-body.ensures.answers in
    let body : event_body c.args.packet.now (with_scope EventHeader head.header (cleared c.args.scopes.now)) head.parts head.at ≡ Ok (read.0, c.in_ok-body.body.end) = search (rules, read.1) in
    let still : nat_eq c.in_ok-body.body.end c.args.cursor.at ≡ true = search (rules, c.if-body-cursor.true) in
    no_bits c.args.packet.now (cleared c.args.scopes.now) c.args.cursor first.0 head read.0 c.in_ok-body.body.end first.2 heads body still

pub returns-in_err-clock-clause-answers : goal.returns-in_err-clock-clause-answers
returns-in_err-clock-clause-answers c =
    let first = c.in_ok-head.ensures.answers in
    let heads : event_head c.args.packet.now (cleared c.args.scopes.now) c.args.cursor.at ≡ Ok first.0 = search (rules, first.1) in
    let head = c.in_ok-head.head in
    let read = c.in_ok-body.ensures.answers in
    let body : event_body c.args.packet.now (with_scope EventHeader head.header (cleared c.args.scopes.now)) head.parts head.at ≡ Ok (read.0, c.in_ok-body.body.end) = search (rules, read.1) in
    let moved : nat_eq c.in_ok-body.body.end c.args.cursor.at ≡ false = search rules in
    let time : time_after c.args.packet.now.meta head.timestamp c.args.cursor.clock ≡ Err c.in_err-clock.field-0.0 = search rules in
    let out = err_from_is_err_and c.from_residual-in_err-clock.result c.from_residual-in_err-clock.ensures.1 in
    subst (EventReadAs c.args.packet.now c.args.skips.now (event c.args.packet.now (cleared c.args.scopes.now) c.args.cursor)) (sym (out.1 ∙ ap Err out.2))
    (time_refused c.args.packet.now (cleared c.args.scopes.now) c.args.cursor first.0 head read.0 c.in_ok-body.body.end c.in_err-clock.field-0.0 first.2 heads body moved time)
