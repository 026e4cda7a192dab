use Rattle.std.proofs.Common.{List, ap₂, subst, rules}
use Rattle.std.specs.Prelude.{ℕ, OnOk, OnErr}
use Rattle.std.specs.Io.KnownBytes.{Appends}
use Rattle.std.proofs.lemmas.Result.{on_ok_weaker, on_err_weaker}
use Rattle.trace_types.specs.declared.event.Merged.{Merged}
use Rattle.event_list.specs.Lines.{first_line}
use Rattle.event_list.specs.Names.{names_at}
use Rattle.hosttrace.specs.Outputs.{event_lines}
use Rattle.hosttrace.specs.Writing.{AppendsFront}
use Rattle.hosttrace.proofs.Written.{Appends-append, front_of_head, front_of_rest}
use Rattle.hosttrace.proofs.outputs.write_events.Goals as goal

pub returns-in_err-write_text-clause-front : goal.returns-in_err-write_text-clause-front
returns-in_err-write_text-clause-front g c =
    let trace = c.args.trace.now in
    let head = rw c.events_head.ensures at c.in_err-write_text.ensures.front in
    let front = front_of_head _ _ first_line (event_lines (names_at trace.names.items) trace.events.items) head in
    search rules

pub returns-clause-written : goal.returns-clause-written
returns-clause-written g c =
    let lines = ap₂ (λ (names : List (List (List ℕ))) (ms : List Merged). event_lines (names_at names) ms) c.as_slice-names.ensures.value c.deref.ensures.value in
    let head = rw c.events_head.ensures at c.in_ok-write_text.ensures.written in
    let sink = g.K.Sink.contents c.write_text.new.sink in
    let end = g.K.Sink.contents c.write_batches.new.sink in
    on_ok_weaker c.write_batches.result (Appends-append _ sink end first_line _ head)
    (subst (λ l. OnOk c.write_batches.result (Appends sink end l)) lines c.write_batches.ensures.written)

pub returns-clause-front : goal.returns-clause-front
returns-clause-front g c =
    let lines = ap₂ (λ (names : List (List (List ℕ))) (ms : List Merged). event_lines (names_at names) ms) c.as_slice-names.ensures.value c.deref.ensures.value in
    let head = rw c.events_head.ensures at c.in_ok-write_text.ensures.written in
    let sink = g.K.Sink.contents c.write_text.new.sink in
    let end = g.K.Sink.contents c.write_batches.new.sink in
    on_err_weaker c.write_batches.result (front_of_rest _ sink end first_line _ head)
    (subst (λ l. OnErr c.write_batches.result (AppendsFront sink end l)) lines c.write_batches.ensures.front)
