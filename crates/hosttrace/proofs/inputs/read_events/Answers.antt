use Rattle.std.proofs.Common.{◌≡◌, ◌<◌, length, ap, subst, Err, rules}
use Rattle.trace_types.specs.declared.limits.TheConstants.{MAX_EVENTS}
use Rattle.event_list.specs.Lines.{IsCrowded, IsEventList, IsFirstBad}
use Rattle.hosttrace.specs.Seen.{store_seen}
use Rattle.hosttrace.specs.Statuses.{list_status}
use Rattle.hosttrace.proofs.Refused.{at_err, list_fails, is_merge}
use Rattle.hosttrace.proofs.inputs.read_events.Goals as goal

pub returns-in_err-read_list-clause-fails : goal.returns-in_err-read_list-clause-fails
returns-in_err-read_list-clause-fails g c =
    let whole : c.deref.result.now ≡ c.in_ok-bytes.bytes.items = search rules in
    at_err c.from_residual-in_err-read_list.result (λ status. status ≡ list_status c.in_err-read_list.field-0.0) _ c.from_residual-in_err-read_list.ensures.1
    (λ status e. list_fails (store_seen g.S.Store.holds g.S.Store.faults c.args.store.now c.read_bytes.new.store) c.in_ok-bytes.bytes.items c.args.file.now c.in_err-read_list.field-0.0 status e c.in_ok-bytes.ensures.bytes c.in_ok-bytes.ensures.small
    (λ line e parsed_lines. subst (λ b. ¬ (IsEventList b parsed_lines)) whole (c.in_err-read_list.ensures.bad line (ap Err e) parsed_lines))
    (λ line e. subst (λ b. IsFirstBad b line) whole (c.in_err-read_list.ensures.line line (ap Err e)))
    (λ e. subst IsCrowded whole (c.in_err-read_list.ensures.many (ap Err e)))
    (λ e parsed_lines. subst (λ b. IsEventList b parsed_lines → MAX_EVENTS < length parsed_lines) whole (c.in_err-read_list.ensures.all (ap Err e) parsed_lines)))

pub returns-clause-merge : goal.returns-clause-merge
returns-clause-merge g c = is_merge c.deref.result.now c.in_ok-read_list.ensures.list.0 c.in_ok-read_list.field-0 c.in_ok-read_list.ensures.list.1 c.in_ok-read_list.ensures.list.2

pub returns-clause-read : goal.returns-clause-read
returns-clause-read g c =
    let merge = is_merge c.deref.result.now c.in_ok-read_list.ensures.list.0 c.in_ok-read_list.field-0 c.in_ok-read_list.ensures.list.1 c.in_ok-read_list.ensures.list.2 in
    record { rises = merge.rises; below = merge.below; few = c.in_ok-read_list.ensures.few; have_names = c.in_ok-read_list.ensures.hosts; few_hosts = c.in_ok-read_list.ensures.few_hosts }
