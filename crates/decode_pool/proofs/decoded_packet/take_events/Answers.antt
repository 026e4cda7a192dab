use Rattle.std.proofs.Common.{◌≡◌, ◌∙◌, ◌+◌, ◌≤◌, ◌++◌, ◌∷◌, [], Bool, length, length-append, ap, sym, rules, arith, if◌then◌else◌}
use Rattle.ctf_fields.specs.declared.raw.RawEvent.{RawEvent}
use Rattle.trace_types.specs.declared.event.Event.{Event}
use Rattle.packet_decoder.specs.EventReaders.{and_before, events_left}
use Rattle.kernel_layout.specs.Kinds.{kind_of}
use Rattle.decode_pool.specs.Excess.{part_within}
use Rattle.decode_pool.specs.Parts.{event_of, made_of}
use Rattle.decode_pool.proofs.Reading.{one_more, refused_behind, too_many, with_left}
use Rattle.decode_pool.proofs.decoded_packet.take_events.Goals as goal

pub loop-events-preserved : goal.loop-events-preserved
loop-events-preserved c =
    let made_so : (whole : RawEvent) × Path (Event × Bool) (c.in-Some.event, c.in-Some.lacks) (made_of c.args.host c.args.meta.now whole) × (events_left c.loop-events.reader ≡ and_before whole (events_left c.next_made.new.reader)) = search rules in
    let whole = made_so.0 in
    let event : c.in-Some.event ≡ event_of c.args.host c.args.meta.now whole = ap (λ (m : Event × Bool). m.0) made_so.1 in
    let lacking : c.in-Some.lacks ≡ (kind_of c.args.meta.now whole).1 = ap (λ (m : Event × Bool). m.1) made_so.1 in
    let some : events_left c.loop-events.reader ≡ and_before whole (events_left c.next_made.new.reader) = made_so.2 in
    let pushed : c.push.new.self ≡ c.loop-events.events ++ c.in-Some.event ∷ [] = search rules in
    let pushed_whole : c.push.new.self ≡ c.loop-events.events ++ event_of c.args.host c.args.meta.now whole ∷ [] = pushed ∙ ap (λ e. c.loop-events.events ++ e ∷ []) event in
    let lacks : c.from-incomplete.result ≡ (if c.in-Some.lacks then 1 else 0) = search rules in
    let lacks_whole : c.from-incomplete.result ≡ (if (kind_of c.args.meta.now whole).1 then 1 else 0) = lacks ∙ ap (λ b. if b then 1 else 0) lacking in
    let counts : c.next_made.new.reader.read ≡ c.loop-events.reader.read + 1 = search rules in
    let few : c.from-incomplete.result ≤ 1 = search rules in (
      c.loop-events.invariant.0
          ∙ ap (with_left c.args.host c.args.meta.now c.args.span.now c.loop-events.events c.loop-events.incomplete) some
          ∙ one_more c.args.host c.args.meta.now c.args.span.now c.loop-events.events c.loop-events.incomplete c.from-incomplete.result whole (events_left c.next_made.new.reader) lacks_whole
          ∙ ap (λ es. with_left c.args.host c.args.meta.now c.args.span.now es (c.loop-events.incomplete + c.from-incomplete.result) (events_left c.next_made.new.reader)) (sym pushed_whole),
      omega (arith, c.loop-events.invariant.1, counts, few),
      omega (arith, ap length pushed_whole, length-append c.loop-events.events (event_of c.args.host c.args.meta.now whole ∷ []), c.if-len-most.false, c.len.ensures),
      search rules,
    )

pub returns-then-len-most-clause-more : goal.returns-then-len-most-clause-more
returns-then-len-most-clause-more c = λ accepted.
    let made_so : (whole : RawEvent) × Path (Event × Bool) (c.in-Some.event, c.in-Some.lacks) (made_of c.args.host c.args.meta.now whole) × (events_left c.loop-events.reader ≡ and_before whole (events_left c.next_made.new.reader)) = search rules in
    ap (part_within c.args.most) (c.loop-events.invariant.0 ∙ ap (with_left c.args.host c.args.meta.now c.args.span.now c.loop-events.events c.loop-events.incomplete) made_so.2)
    ∙ too_many c.args.host c.args.meta.now c.args.span.now c.loop-events.events c.loop-events.incomplete c.args.most made_so.0 (events_left c.next_made.new.reader) (omega (arith, c.if-len-most.true, c.len.ensures)) accepted

pub returns-then-len-most-clause-rest : goal.returns-then-len-most-clause-rest
returns-then-len-most-clause-rest c = λ cause refused.
    let made_so : (whole : RawEvent) × Path (Event × Bool) (c.in-Some.event, c.in-Some.lacks) (made_of c.args.host c.args.meta.now whole) × (events_left c.loop-events.reader ≡ and_before whole (events_left c.next_made.new.reader)) = search rules in
    c.loop-events.invariant.0
    ∙ ap (with_left c.args.host c.args.meta.now c.args.span.now c.loop-events.events c.loop-events.incomplete) made_so.2
    ∙ refused_behind c.args.host c.args.meta.now c.args.span.now c.loop-events.events c.loop-events.incomplete made_so.0 (events_left c.next_made.new.reader) cause refused
