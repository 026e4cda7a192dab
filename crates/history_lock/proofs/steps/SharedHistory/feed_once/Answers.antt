use Rattle.std.proofs.Common.{◌≡◌, ◌+◌, take, sym, ap, ◌∙◌, subst}
use Rattle.history_core.specs.Stands.{Stands}
use Rattle.history_lock.specs.declared.view.View.{View}
use Rattle.history_lock.specs.Turn.{Mine, taking, bumping}
use Rattle.history_lock.proofs.Plans.{next_follows, next_stands}
use Rattle.history_lock.proofs.steps.SharedHistory.feed_once.Goals as goal

pub apply-requires-clause-follows : goal.apply-requires-clause-follows
apply-requires-clause-follows g c =
    let v : View = c.args.seat.now.me.0 in let h = c.in_ok-history.history in let t = c.in_ok-history.ensures.taken in
    let stands : Stands (take v.fed v.plan) h = subst (λ n. Stands (take n v.plan) h) (sym (t.2.2 c.requires.step.0)) t.2.0 in
    next_follows v.plan v.fed c.args.step.now h c.requires.plan c.requires.step.1 stands

pub give-requires-2-clause-stands : goal.give-requires-2-clause-stands
give-requires-2-clause-stands g c =
    let v : View = c.args.seat.now.me.0 in let h = c.in_ok-history.history in let t = c.in_ok-history.ensures.taken in let fed = t.2.2 c.requires.step.0 in
    let stands : Stands (take v.fed v.plan) h = subst (λ n. Stands (take n v.plan) h) (sym fed) t.2.0 in
    let more = next_stands v.plan v.fed c.args.step.now h c.apply.new.self c.requires.step.1 stands c.in_default.ensures.stands in
    let after : c.bump.new.seat.me.0 ≡ bumping (taking v t.0) = ap (λ (m : Mine). m.0) c.bump.ensures.bump ∙ ap (λ (m : Mine). bumping m.0) t.1 in
    subst (λ (w : View). Stands (take w.held w.plan) c.apply.new.self) (sym after) (subst (λ n. Stands (take (n + 1) v.plan) c.apply.new.self) fed more)
