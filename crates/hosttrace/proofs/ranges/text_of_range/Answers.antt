use Rattle.std.proofs.Common.{◌≡◌, ◌∙◌, ◌++◌, ℕ, List, ap, subst, sym}
use Rattle.event_list.specs.Names.{names_at}
use Rattle.kernel_provider.specs.Replay.{state_at}
use Rattle.report_views.specs.StretchesText.{IsRangeText}
use Rattle.hosttrace.proofs.Texts.{range_output}
use Rattle.hosttrace.proofs.ranges.text_of_range.Goals as goal

pub returns-clause-text : goal.returns-clause-text
returns-clause-text g c =
    let told = c.in_ok-range_text.ensures.text in
    let span = c.args.span in
    let names = names_at c.in_ok-trace.trace.names.items in
    let states = state_at c.in_ok-trace.trace.events.items in
    let whole : c.range_text.new.out.items ≡ told.0 = ◌∙◌ {A = List ℕ} told.2 (ap (λ l. l ++ told.0) c.new-text.ensures.items) in
    range_output (g.S.Store.holds c.args.store.now) c.args.input.now span.from span.to span.path c.in_ok-trace.trace c.range_text.new.out.items c.in_ok-trace.ensures.trace (subst (IsRangeText names states span.from span.to span.path) (sym whole) told.1)
