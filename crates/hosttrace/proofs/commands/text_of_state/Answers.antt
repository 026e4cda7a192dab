use Rattle.std.proofs.Common.{◌≡◌, ◌∙◌, ◌++◌, ℕ, List, ap, subst, sym}
use Rattle.event_list.specs.Names.{names_at}
use Rattle.kernel_provider.specs.Replay.{state_at}
use Rattle.report_views.specs.StateText.{IsStateText}
use Rattle.hosttrace.proofs.Texts.{state_output}
use Rattle.hosttrace.proofs.commands.text_of_state.Goals as goal

pub returns-clause-text : goal.returns-clause-text
returns-clause-text g c =
    let told = c.in_ok-state_text.ensures.text in
    let names = names_at c.in_ok-trace.trace.names.items in
    let state = state_at c.in_ok-trace.trace.events.items c.args.at in
    let whole : c.state_text.new.out.items ≡ told.0 = ◌∙◌ {A = List ℕ} told.2 (ap (λ l. l ++ told.0) c.new-text.ensures.items) in
    state_output (g.S.Store.holds c.args.store.now) c.args.input.now c.args.at c.in_ok-trace.trace c.state_text.new.out.items c.in_ok-trace.ensures.trace (subst (IsStateText names state) (sym whole) told.1)
