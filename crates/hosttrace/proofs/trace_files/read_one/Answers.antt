use Rattle.std.proofs.Common.{rules}
use Rattle.hosttrace.specs.Refusals.{TraceRefuses}
use Rattle.hosttrace.proofs.Fails.{fails_at, fails_by}
use Rattle.hosttrace.proofs.TraceFiles.{names_refused, size_refused}
use Rattle.hosttrace.proofs.trace_files.read_one.Goals as goal

pub returns-in_err-names-clause-fails : goal.returns-in_err-names-clause-fails
returns-in_err-names-clause-fails g c =
    let fails = fails_at g.S.Store.holds g.S.Store.faults (λ files r. TraceRefuses files c.args.host c.args.total.now c.args.dir.now r) _ c.args.store.now c.look_into.new.store c.in_err-names.field-0.0 (names_refused (g.S.Store.holds c.args.store.now) c.args.host c.args.total.now c.args.dir.now) c.in_err-names.ensures.fails in
    search rules

pub returns-in_err-metadata-clause-fails : goal.returns-in_err-metadata-clause-fails
returns-in_err-metadata-clause-fails g c =
    let fails = fails_by g.S.Store.holds g.S.Store.faults (λ files r. TraceRefuses files c.args.host c.args.total.now c.args.dir.now r) _ c.args.store.now c.look_into.new.store c.read_metadata_of.new.store c.in_err-metadata.field-0.0 c.in_ok-names.ensures.reads (size_refused (g.S.Store.holds c.args.store.now) c.args.host c.args.total.now c.args.dir.now c.in_ok-names.ensures.named) c.in_err-metadata.ensures.fails in
    search rules
