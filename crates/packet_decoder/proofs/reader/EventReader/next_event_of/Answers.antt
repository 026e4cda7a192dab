use Rattle.std.proofs.Common.{◌≡◌, ◌∙◌, ◌<◌, ◌≤◌, ◌-◌, subst, sym, ap, Ok, Err, [], ◌+◌}
use Rattle.std.proofs.lemmas.Result.{err_from_is_err_and}
use Rattle.read_plan.specs.FixedSizes.{AreSkips}
use Rattle.packet_decoder.specs.Events.{cleared}
use Rattle.packet_decoder.specs.EventReaders.{EventReaderModel, IsReadAs, and_before, events_left}
use Rattle.packet_decoder.specs.declared.failure.Failure.TheVariants as failure
use Rattle.packet_decoder.proofs.Left.{one_read, refused_by}
use Rattle.packet_decoder.proofs.PassedOver.{begins_within}
use Rattle.packet_decoder.proofs.Turns.{all_events}
use Rattle.packet_decoder.proofs.reader.EventReader.next_event_of.Goals as goal

pub returns-then-self-clause-none : goal.returns-then-self-clause-none
returns-then-self-clause-none c =
    let r = c.self.inside in
    let over : r.packet.end ≤ r.cursor.at = subst (λ i. i.packet.end ≤ i.cursor.at) c.self-inside.view_is c.if-self.true in
    subst (λ u. events_left u ≡ Ok []) c.self.view_is (all_events (r.packet.end - r.read) r.packet (cleared r.scopes) [] r.cursor over)

pub returns-in_err-read-clause-refused : goal.returns-in_err-read-clause-refused
returns-in_err-read-clause-refused c = λ cause e.
    let r = c.self.inside in
    let left : r.cursor.at < r.packet.end = subst (λ i. i.cursor.at < i.packet.end) c.self-inside.view_is c.if-self.false in
    let out = err_from_is_err_and c.from_residual.result c.from_residual.ensures.1 in
    let same : Err (failure.Refused cause) ≡ Err c.in_err-read.field-0.0 = sym e ∙ (out.1 ∙ ap Err out.2) in
    subst (λ u. events_left u ≡ Err cause) c.self.view_is (refused_by r.packet (cleared r.scopes) r.cursor r.read cause c.in_err-read.field-0.0 same c.self.invariant.0 left c.in_err-read.ensures.answers)

pub returns-clause-some : goal.returns-clause-some
returns-clause-some c =
    let r = c.self.inside in
    let left : r.cursor.at < r.packet.end = subst (λ i. i.cursor.at < i.packet.end) c.self-inside.view_is c.if-self.false in
    let read = c.in_ok-read.ensures.answers in (
      read.0,
      subst (λ (u : EventReaderModel). IsReadAs u.within.meta u.within.bytes u.within.end c.args.skips.now read.0 c.in_ok-read.read) c.self.view_is read.2,
      subst (λ u. events_left u ≡ and_before read.0 (events_left (record { within = r.packet; scopes = cleared c.read_event.new.scopes; cursor = c.in_ok-read.next; read = r.read + 1 }))) c.self.view_is
          (one_read r.packet (cleared r.scopes) (cleared c.read_event.new.scopes) r.cursor c.in_ok-read.next r.read read.0 c.self.invariant.0 left c.in_ok-read.ensures.stays read.1),
    )

pub returns-clause-at : goal.returns-clause-at
returns-clause-at c =
    let w = c.self.inside.packet in
    let read = c.in_ok-read.ensures.answers in
    begins_within w.meta w.bytes w.end c.args.skips.now read.0 c.in_ok-read.read read.2

pub read_event-requires-clause-skips : goal.read_event-requires-clause-skips
read_event-requires-clause-skips c = subst (λ u. AreSkips u.within.meta c.args.skips.now) (sym c.self.view_is) c.requires
