use Rattle.std.proofs.Common.{◌≤◌, ◌∙◌, subst, sym, rules}
use Rattle.std.proofs.lemmas.Result.{IfErr-weaker, IfOk-weaker}
use Rattle.hosttrace.specs.Folders.{MAX_HOSTS}
use Rattle.hosttrace.specs.Refusals.{ReadingRefuses}
use Rattle.hosttrace.specs.Seen.{store_seen}
use Rattle.hosttrace.proofs.Clustered.{metadata_refused, traces_refused}
use Rattle.hosttrace.proofs.Fails.{fails_at, fails_of}
use Rattle.hosttrace.proofs.TraceFiles.{as_many, hosts_of, numbered}
use Rattle.hosttrace.proofs.clusters.read_host_files.Goals as goal

pub returns-in_err-read-clause-fails : goal.returns-in_err-read-clause-fails
returns-in_err-read-clause-fails g c =
    let fails = fails_at g.S.Store.holds g.S.Store.faults (λ files r. ReadingRefuses files c.args.dirs.now r) _ c.args.store.now c.read_trace_files.new.store c.in_err-read.field-0.0 (traces_refused (g.S.Store.holds c.args.store.now) c.args.dirs.now) c.in_err-read.ensures.fails in
    search rules

pub returns-clause-hosts : goal.returns-clause-hosts
returns-clause-hosts g c = IfOk-weaker c.declared_hosts.result _ _ (λ hosts h. hosts_of (g.S.Store.holds c.args.store.now) c.args.dirs.now c.in_ok-read.read.items hosts.items c.in_ok-read.ensures.read h) c.declared_hosts.ensures.hosts

pub returns-clause-numbered : goal.returns-clause-numbered
returns-clause-numbered g c = IfOk-weaker c.declared_hosts.result _ _ (λ hosts h. numbered c.in_ok-read.read.items hosts.items h) c.declared_hosts.ensures.hosts

pub returns-clause-few : goal.returns-clause-few
returns-clause-few g c = IfOk-weaker c.declared_hosts.result _ _ (λ hosts h. subst (λ n. n ≤ MAX_HOSTS) (sym (as_many 0 c.in_ok-read.read.items hosts.items h ∙ c.in_ok-read.ensures.each)) c.requires) c.declared_hosts.ensures.hosts

pub returns-clause-fails : goal.returns-clause-fails
returns-clause-fails g c =
    IfErr-weaker c.declared_hosts.result _ _ (λ status f. fails_of (λ files r. ReadingRefuses files c.args.dirs.now r) _ (store_seen g.S.Store.holds g.S.Store.faults c.args.store.now c.read_trace_files.new.store) status (metadata_refused (g.S.Store.holds c.args.store.now) c.args.dirs.now c.in_ok-read.read.items c.in_ok-read.ensures.read) f) c.declared_hosts.ensures.fails
