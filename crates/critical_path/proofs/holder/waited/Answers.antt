use Rattle.std.proofs.Common.{subst}
use Rattle.critical_path.specs.Steps.{IsWaitBy}
use Rattle.critical_path.proofs.Following.{by_thread}
use Rattle.critical_path.proofs.holder.waited.Goals as goal

pub returns-in-Thread : goal.returns-in-Thread
returns-in-Thread c = λ merged placed p low unsent is. by_thread merged placed p c.args.followed c.args.end c.in-Thread.host c.in-Thread.tid
    (subst (IsWaitBy merged placed p c.args.followed c.args.end) c.in-Thread.is is)
