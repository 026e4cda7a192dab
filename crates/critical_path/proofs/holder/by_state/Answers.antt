use Rattle.std.proofs.Common.{subst, sym}
use Rattle.critical_path.specs.Steps.{IsNext}
use Rattle.critical_path.proofs.Following.{is_unknown, runs, waits}
use Rattle.critical_path.proofs.holder.by_state.Goals as goal

pub returns-in-Running : goal.returns-in-Running
returns-in-Running c = λ merged placed p low unsent is. subst (IsNext merged placed p c.args.followed) (sym c.held.ensures) (runs merged placed p c.args.followed c.args.vertex.now is c.in-Running.is)

pub returns-in-Waiting : goal.returns-in-Waiting
returns-in-Waiting c = λ merged placed p low unsent is. subst (IsNext merged placed p c.args.followed) (sym c.held-in-Waiting.ensures) (waits merged placed p c.args.followed c.args.vertex.now is c.in-Waiting.is)

pub returns-in-Unknown : goal.returns-in-Unknown
returns-in-Unknown c = λ merged placed p low unsent is. subst (IsNext merged placed p c.args.followed) (sym c.held-in-Unknown.ensures) (is_unknown merged placed p c.args.followed c.args.vertex.now is c.in-Unknown.is)

pub returns-in-Blocked : goal.returns-in-Blocked
returns-in-Blocked c = λ merged placed p low unsent is. c.blocked.ensures merged placed p low unsent is c.in-Blocked.is
