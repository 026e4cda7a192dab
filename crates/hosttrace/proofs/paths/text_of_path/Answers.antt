use Rattle.std.proofs.Common.{rules}
use Rattle.std.proofs.lemmas.Result.{IfErr-weaker, IfOk-weaker}
use Rattle.hosttrace.specs.Refusals.{PathRefuses}
use Rattle.hosttrace.specs.Seen.{store_seen}
use Rattle.hosttrace.proofs.Fails.{fails_at, fails_of}
use Rattle.hosttrace.proofs.PathTexts.{path_output, placed_refused, thread_refused}
use Rattle.hosttrace.proofs.paths.text_of_path.Goals as goal

pub returns-in_err-found-clause-fails : goal.returns-in_err-found-clause-fails
returns-in_err-found-clause-fails g c =
    let fails = fails_at g.S.Store.holds g.S.Store.faults (λ files r. PathRefuses files c.args.input.now c.args.window.host c.args.window.tid r) _ c.args.store.now c.read_placed.new.store c.in_err-found.field-0.0 (placed_refused (g.S.Store.holds c.args.store.now) c.args.input.now c.args.window.host c.args.window.tid) c.in_err-found.ensures.fails in
    search rules

pub returns-clause-text : goal.returns-clause-text
returns-clause-text g c =
    let found = c.in_ok-found.found in
    IfOk-weaker c.path_text.result _ _
    (λ text h. path_output (g.S.Store.holds c.args.store.now) c.args.input.now c.args.window.host c.args.window.tid c.args.window.from c.args.window.to found.merged.items found.placed.items text.items c.in_ok-found.ensures.placed c.in_ok-found.ensures.merge h)
    c.path_text.ensures.text

pub returns-clause-fails : goal.returns-clause-fails
returns-clause-fails g c =
    let found = c.in_ok-found.found in
    IfErr-weaker c.path_text.result _ _
    (λ status f. fails_of (λ files r. PathRefuses files c.args.input.now c.args.window.host c.args.window.tid r) _ (store_seen g.S.Store.holds g.S.Store.faults c.args.store.now c.read_placed.new.store) status
    (thread_refused (g.S.Store.holds c.args.store.now) c.args.input.now c.args.window.host c.args.window.tid found.merged.items found.placed.items c.in_ok-found.ensures.placed) f)
    c.path_text.ensures.fails
