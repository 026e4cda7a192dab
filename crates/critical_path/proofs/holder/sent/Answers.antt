use Rattle.std.proofs.Common.{subst, sym, arith}
use Rattle.critical_path.specs.Steps.{IsNext}
use Rattle.critical_path.proofs.Following.{by_sender, by_transit}
use Rattle.critical_path.proofs.holder.sent.Goals as goal

pub returns-then-place-send : goal.returns-then-place-send
returns-then-place-send c = λ merged placed p low unsent is. by_sender merged placed p c.args.followed c.args.end c.args.host c.args.tid c.args.send (unsent c.if-place-send.true) is

pub returns-else-place-send : goal.returns-else-place-send
returns-else-place-send c = λ merged placed p low unsent is. let sent = c.if-place-send.false in
    subst (IsNext merged placed p c.args.followed) (sym c.held.ensures) (by_transit merged placed p c.args.followed c.args.end c.args.host c.args.tid c.args.send (omega (arith, sent, low)) is)
