use Rattle.std.proofs.Common.{◌≡◌, ◌∷◌, ◌+◌, drop, rules}
use Rattle.std.proofs.lemmas.List.{drop_more}
use Rattle.hosttrace.specs.Refusals.{FoldersRefuse}
use Rattle.hosttrace.proofs.Fails.{fails_by}
use Rattle.hosttrace.proofs.Left.{next_folder, only_folder}
use Rattle.hosttrace.proofs.folders.read_folders.Goals as goal

pub returns-in_err-bytes-clause-fails : goal.returns-in_err-bytes-clause-fails
returns-in_err-bytes-clause-fails g c =
    let here : drop c.loop-at.at c.args.folders.now ≡ c.as_bytes.result.now ∷ drop (c.loop-at.at + 1) c.args.folders.now = search (rules, drop_more) in
    let later = only_folder (g.S.Store.holds c.args.store.now) c.args.folders.now c.loop-at.at c.loop-at.total c.loop-at.texts.items c.as_bytes.result.now c.loop-at.invariant.0 here in
    let fails = fails_by g.S.Store.holds g.S.Store.faults (λ files r. FoldersRefuse files 0 0 c.args.folders.now r) _ c.args.store.now c.loop-at.store c.read_folder.new.store c.in_err-bytes.field-0.0 c.loop-at.invariant.1 later c.in_err-bytes.ensures.fails in
    search rules

pub loop-at-preserved : goal.loop-at-preserved
loop-at-preserved g c =
    let here : drop c.loop-at.at c.args.folders.now ≡ c.as_bytes.result.now ∷ drop (c.loop-at.at + 1) c.args.folders.now = search (rules, drop_more) in
    let reads = c.loop-at.invariant.1 in
    let next = next_folder (g.S.Store.holds c.args.store.now) (g.S.Store.holds c.loop-at.store) c.args.folders.now c.loop-at.at c.loop-at.total c.loop-at.texts.items c.as_bytes.result.now c.in_ok-bytes.bytes reads.keeps c.loop-at.invariant.0 here c.in_ok-bytes.ensures.read c.in_ok-bytes.ensures.bytes in
    search rules
