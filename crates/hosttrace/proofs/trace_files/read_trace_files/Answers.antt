use Rattle.std.proofs.Common.{◌≡◌, ◌∷◌, ◌+◌, drop, rules}
use Rattle.std.proofs.lemmas.List.{drop_all, drop_more}
use Rattle.hosttrace.specs.Refusals.{TracesRefuse}
use Rattle.hosttrace.proofs.Fails.{fails_by}
use Rattle.hosttrace.proofs.Left.{next_trace, no_trace, only_trace}
use Rattle.hosttrace.proofs.TraceFiles.{small_streams_more}
use Rattle.hosttrace.proofs.trace_files.read_trace_files.Goals as goal

pub returns-in_err-files-clause-fails : goal.returns-in_err-files-clause-fails
returns-in_err-files-clause-fails g c =
    let here : drop c.loop-at.at c.args.dirs.now ≡ c.as_bytes.result.now ∷ drop (c.loop-at.at + 1) c.args.dirs.now = search (rules, drop_more) in
    let later = only_trace (g.S.Store.holds c.args.store.now) c.args.dirs.now c.loop-at.at c.loop-at.total c.loop-at.read.items c.as_bytes.result.now c.loop-at.invariant.0 here in
    let fails = fails_by g.S.Store.holds g.S.Store.faults (λ files r. TracesRefuse files 0 0 c.args.dirs.now r) _ c.args.store.now c.loop-at.store c.read_one.new.store c.in_err-files.field-0.0 c.loop-at.invariant.1 later c.in_err-files.ensures.fails in
    search rules

pub loop-at-preserved : goal.loop-at-preserved
loop-at-preserved g c =
    let here : drop c.loop-at.at c.args.dirs.now ≡ c.as_bytes.result.now ∷ drop (c.loop-at.at + 1) c.args.dirs.now = search (rules, drop_more) in
    let reads = c.loop-at.invariant.1 in
    let next = next_trace (g.S.Store.holds c.args.store.now) (g.S.Store.holds c.loop-at.store) c.args.dirs.now c.loop-at.at c.loop-at.total c.read_one.new.total c.loop-at.read.items c.as_bytes.result.now c.in_ok-files.files reads.keeps c.loop-at.invariant.0 here c.in_ok-files.ensures.read in
    let small = small_streams_more c.loop-at.read.items c.in_ok-files.files c.loop-at.invariant.4 c.in_ok-files.ensures.small in
    search rules

pub returns-clause-read : goal.returns-clause-read
returns-clause-read g c = no_trace (g.S.Store.holds c.args.store.now) c.args.dirs.now c.loop-at.at c.loop-at.total c.loop-at.read.items c.loop-at.invariant.0 (drop_all c.loop-at.at c.args.dirs.now c.loop-at-test.false)
