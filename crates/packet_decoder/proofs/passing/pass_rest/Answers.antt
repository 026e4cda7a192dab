use Rattle.std.proofs.Common.{◌≡◌, ◌∙◌, ◌≤◌, ◌<◌, ◌+◌, ◌-◌, [], Err, IfSome, sym, ap, subst, arith}
use Rattle.std.proofs.lemmas.Result.{err_from_is_err_and}
use Rattle.packet_decoder.specs.Events.{PacketModel, cleared}
use Rattle.packet_decoder.specs.EventReaders.{SingleFits, events_after, refusal}
use Rattle.packet_decoder.specs.declared.failure.Failure.TheVariants as failure
use Rattle.packet_decoder.proofs.Left.{one_read, refused_by, same_refusal}
use Rattle.packet_decoder.proofs.Turns.{all_events}
use Rattle.packet_decoder.proofs.passing.pass_rest.Goals as goal

pub returns-in_err-cursor-clause-refused : goal.returns-in_err-cursor-clause-refused
returns-in_err-cursor-clause-refused c = λ cause e.
    let w = c.args.packet.now in
    let l = c.loop-cursor in
    let left : l.cursor.at < w.end = subst (λ (p : PacketModel). l.cursor.at < p.end) c.packet.view_is c.loop-cursor-test.true in
    let out = err_from_is_err_and c.from_residual.result c.from_residual.ensures.1 in
    let same : Err (failure.Refused cause) ≡ Err c.in_err-cursor.field-0.0 = sym e ∙ (out.1 ∙ ap Err out.2) in
    sym l.invariant.0 ∙ ap refusal (refused_by w (cleared l.scopes) l.cursor l.read cause c.in_err-cursor.field-0.0 same l.invariant.3 left c.in_err-cursor.ensures.answers)

pub loop-cursor-preserved : goal.loop-cursor-preserved
loop-cursor-preserved c =
    let w = c.args.packet.now in
    let l = c.loop-cursor in
    let next = c.in_ok-cursor.cursor in
    let ok = c.in_ok-cursor.ensures in
    let left : l.cursor.at < w.end = subst (λ (p : PacketModel). l.cursor.at < p.end) c.packet.view_is c.loop-cursor-test.true in
    let rest = events_after w (cleared c.pass_event.new.scopes) next (l.read + 1) in
    let read = one_read w (cleared l.scopes) (cleared c.pass_event.new.scopes) l.cursor next l.read ok.answers.0 l.invariant.3 left ok.stays ok.answers.1 in (
      sym (same_refusal ok.answers.0 rest) ∙ (sym (ap refusal read) ∙ l.invariant.0),
      ok.seen,
      l.invariant.2,
      omega (arith, l.invariant.3, ok.forward.0),
      ok.forward.1,
    )

pub returns-clause-accepted : goal.returns-clause-accepted
returns-clause-accepted c =
    let w = c.args.packet.now in
    let l = c.loop-cursor in
    let over : w.end ≤ l.cursor.at = subst (λ (p : PacketModel). p.end ≤ l.cursor.at) c.packet.view_is c.loop-cursor-test.false in
    sym l.invariant.0 ∙ ap refusal (all_events (w.end - l.read) w (cleared l.scopes) [] l.cursor over)

pub pass_repeated-requires-clause-fits : goal.pass_repeated-requires-clause-fits
pass_repeated-requires-clause-fits c = subst (λ s. IfSome s (SingleFits c.args.packet.now.meta.table c.args.packet.now.parts.event_header)) c.in-Some.is c.loop-cursor.invariant.2

pub loop-cursor-preserved-in-Some : goal.loop-cursor-preserved-in-Some
loop-cursor-preserved-in-Some c =
    let w = c.args.packet.now in
    let l = c.loop-cursor in
    let next = c.in_ok-cursor.cursor in
    let ok = c.in_ok-cursor.ensures in
    let passed = c.pass_repeated.ensures in
    let left : l.cursor.at < w.end = subst (λ (p : PacketModel). l.cursor.at < p.end) c.packet.view_is c.loop-cursor-test.true in
    let rest = events_after w (cleared c.pass_event.new.scopes) next (l.read + 1) in
    let read = one_read w (cleared l.scopes) (cleared c.pass_event.new.scopes) l.cursor next l.read ok.answers.0 l.invariant.3 left ok.stays ok.answers.1 in (
      passed.same c.pass_event.new.scopes ∙ (sym (same_refusal ok.answers.0 rest) ∙ (sym (ap refusal read) ∙ l.invariant.0)),
      ok.seen,
      subst (λ s. IfSome s (SingleFits w.meta.table w.parts.event_header)) c.in-Some.is l.invariant.2,
      passed.within.0,
      passed.within.2,
    )
