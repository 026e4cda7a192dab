use Rattle.std.proofs.Common.{subst, sym}
use Rattle.critical_path.specs.Steps.{IsNext}
use Rattle.critical_path.proofs.Following.{wait_by, wait_past_limit, wait_without_end}
use Rattle.critical_path.proofs.holder.blocked.Goals as goal

pub returns-in_default : goal.returns-in_default
returns-in_default c = λ merged placed p low unsent is blocked.
    subst (IsNext merged placed p c.args.followed) (sym c.held.ensures) (wait_without_end merged placed p c.args.followed c.args.vertex.now is blocked c.in_default.is)

pub returns-then-end-followed : goal.returns-then-end-followed
returns-then-end-followed c = λ merged placed p low unsent is blocked.
    subst (IsNext merged placed p c.args.followed) (sym c.held-then-end-followed.ensures) (wait_past_limit merged placed p c.args.followed c.args.vertex.now c.in-Some.end is blocked c.in-Some.is c.if-end-followed.true)

pub returns : goal.returns
returns c = λ merged placed p low unsent is blocked.
    c.waited.ensures merged placed p low unsent (wait_by merged placed p c.args.followed c.args.vertex.now c.in-Some.end is blocked c.in-Some.is c.if-end-followed.false)
