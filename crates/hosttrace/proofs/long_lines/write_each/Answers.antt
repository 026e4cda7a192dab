use Rattle.std.proofs.Common.{◌<◌, List, ℕ, length, refl, rules}
use Rattle.trace_types.specs.declared.event.Merged.{Merged}
use Rattle.event_list.specs.Lines.{line_text}
use Rattle.event_list.specs.Names.{names_at}
use Rattle.hosttrace.proofs.Written.{front_after}
use Rattle.hosttrace.proofs.EventLines.{texts_around, texts_more}
use Rattle.hosttrace.proofs.long_lines.write_each.Goals as goal

pub returns-in_err-write_event-clause-front : goal.returns-in_err-write_event-clause-front
returns-in_err-write_event-clause-front g c =
    let line : Merged → List ℕ = λ (m : Merged). line_text (names_at c.args.names.now m.event.host) m in
    let inside : c.loop-event.event-index < length c.args.events.now = search rules in
    let parts = texts_around line c.args.events.now c.loop-event.event-index c.event-item.result (line c.event-item.result) inside c.event-item.is refl in
    let front = front_after _ _ _ _ _ _ _ parts c.loop-event.invariant.written c.in_err-write_event.ensures.front in
    search rules

pub loop-event-preserved : goal.loop-event-preserved
loop-event-preserved g c =
    let line : Merged → List ℕ = λ (m : Merged). line_text (names_at c.args.names.now m.event.host) m in
    let inside : c.loop-event.event-index < length c.args.events.now = search rules in
    record {
      written = texts_more line c.args.events.now c.loop-event.event-index c.event-item.result inside c.event-item.is _ _ _ c.loop-event.invariant.written c.in_ok-write_event.ensures.written;
      grows = search rules;
    }
