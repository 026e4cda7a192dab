use Rattle.std.proofs.Common.{◌≡◌, ◌<◌, ◌++◌, ℕ, List, length, get_or, take, sym, ap, ◌∙◌, subst, rules}
use Rattle.std.specs.Prelude.{flat_map}
use Rattle.std.specs.List.{AllByRecursion}
use Rattle.trace_types.specs.declared.event.Merged.{Merged}
use Rattle.event_list.specs.Lines.{AreBytes, line_text}
use Rattle.event_list.specs.Names.{names_at}
use Rattle.event_list.specs.Written.{texts_in}
use Rattle.event_list.proofs.Prefixes.{all_more, take_more}
use Rattle.report_views.proofs.events.write_stretch.Goals as goal

pub loop-event-preserved : goal.loop-event-preserved
loop-event-preserved c =
    let ms = c.args.events.now in
    let i = c.loop-event.event-index in
    let m : Merged = c.event-item.result in
    let names = names_at c.args.names.now in
    let line : Merged → List ℕ = λ (m : Merged). line_text (names m.event.host) m in
    let spells = λ (m : Merged). AllByRecursion AreBytes (texts_in (names m.event.host) m.event.kind) in
    let inside : i < length ms = search rules in
    let at : m ≡ get_or ms i m = c.event-item.is in
    record {
      lines = c.in_ok-append_line.ensures.text
          ∙ (ap (λ ns. c.loop-event.text.items ++ line_text ns m) c.names_of.ensures
          ∙ (ap (λ l. l ++ line m) c.loop-event.invariant.lines
          ∙ ap (λ x. flat_map line (take i ms) ++ line x) at ∙ sym (take_more line ms i m inside)));
      bytes = all_more spells ms i m inside c.loop-event.invariant.bytes (subst spells at (subst (λ ns. AllByRecursion AreBytes (texts_in ns m.event.kind)) c.names_of.ensures c.in_ok-append_line.ensures.bytes));
    }
