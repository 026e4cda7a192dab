use Rattle.std.proofs.Common.{◌≡◌, ◌∷◌, ◌+◌, drop, rules}
use Rattle.std.proofs.lemmas.List.{drop_all, drop_more}
use Rattle.hosttrace.specs.Refusals.{StreamsRefuse}
use Rattle.hosttrace.proofs.Fails.{fails_by}
use Rattle.hosttrace.proofs.StreamsRead.{all_files, all_size, all_small, next_stream, no_stream, only_stream}
use Rattle.hosttrace.proofs.streams.read_streams.Goals as goal

pub returns-in_err-file-clause-fails : goal.returns-in_err-file-clause-fails
returns-in_err-file-clause-fails g c =
    let here : drop c.loop-at.at c.args.names.now ≡ c.index-names-at.result ∷ drop (c.loop-at.at + 1) c.args.names.now = search (rules, drop_more) in
    let later = only_stream (g.S.Store.holds c.args.store.now) c.args.dir.now c.args.names.now c.args.total.now c.loop-at.at c.loop-at.total c.loop-at.files.items c.index-names-at.result c.loop-at.invariant.0 here in
    let fails = fails_by g.S.Store.holds g.S.Store.faults (λ files r. StreamsRefuse files c.args.dir.now c.args.total.now c.args.names.now r) _ c.args.store.now c.loop-at.store c.read_stream.new.store c.in_err-file.field-0.0 c.loop-at.invariant.1 later c.in_err-file.ensures.fails in
    search rules

pub loop-at-preserved : goal.loop-at-preserved
loop-at-preserved g c =
    let here : drop c.loop-at.at c.args.names.now ≡ c.index-names-at.result ∷ drop (c.loop-at.at + 1) c.args.names.now = search (rules, drop_more) in
    let reads = c.loop-at.invariant.1 in
    let next = next_stream (g.S.Store.holds c.args.store.now) (g.S.Store.holds c.loop-at.store) c.args.dir.now c.args.names.now c.args.total.now c.loop-at.at c.loop-at.total c.loop-at.files.items c.index-names-at.result c.in_ok-file.file reads.keeps c.loop-at.invariant.0 here c.in_ok-file.ensures.name c.in_ok-file.ensures.bytes c.in_ok-file.ensures.fits in
    let small = all_small c.loop-at.files.items c.in_ok-file.file c.loop-at.invariant.3 c.in_ok-file.ensures.small in
    search rules

pub returns-clause-read : goal.returns-clause-read
returns-clause-read g c = no_stream (g.S.Store.holds c.args.store.now) c.args.dir.now c.args.names.now c.args.total.now c.loop-at.at c.loop-at.total c.loop-at.files.items c.loop-at.invariant.0 (drop_all c.loop-at.at c.args.names.now c.loop-at-test.false)

pub returns-clause-are : goal.returns-clause-are
returns-clause-are g c = all_files (g.S.Store.holds c.args.store.now) c.args.dir.now c.args.names.now c.args.total.now c.loop-at.at c.loop-at.total c.loop-at.files.items c.loop-at.invariant.0 (drop_all c.loop-at.at c.args.names.now c.loop-at-test.false)

pub returns-clause-total : goal.returns-clause-total
returns-clause-total g c = all_size (g.S.Store.holds c.args.store.now) c.args.dir.now c.args.names.now c.args.total.now c.loop-at.at c.loop-at.total c.loop-at.files.items c.loop-at.invariant.0 (drop_all c.loop-at.at c.args.names.now c.loop-at-test.false)
