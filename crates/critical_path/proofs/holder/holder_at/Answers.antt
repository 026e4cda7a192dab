use Rattle.std.proofs.Common.{◌∙◌, subst, sym, arith}
use Rattle.critical_path.specs.Steps.{FollowsOn, IsNext, LeadsTo}
use Rattle.critical_path.proofs.Following.{leads_begin, leads_on, same_length}
use Rattle.critical_path.proofs.holder.holder_at.Goals as goal

pub loop-holder-init : goal.loop-holder-init
loop-holder-init c = let thread = c.requires.thread in let place = c.requires.place in let events = c.events-events.ensures in
    record {
      leads = λ merged placed is graph_is p low high. subst (λ n. LeadsTo merged placed c.args.host c.args.tid p (record { host = c.args.host; tid = c.args.tid; limit = n })) (sym (c.events-events.ensures ∙ same_length merged c.args.graph.now.keys graph_is.keys))
          (leads_begin merged placed c.args.host c.args.tid p (λ z. omega (arith, thread, z)));
      later = omega (arith, place, events);
    }

pub loop-holder-preserved : goal.loop-holder-preserved
loop-holder-preserved c = let least = c.min-until.ensures in
    record {
      leads = λ merged placed is graph_is p low high. leads_on merged placed c.args.host c.args.tid p c.loop-holder.followed c.in-Waits.next (c.loop-holder.invariant.leads merged placed is graph_is p low (omega (arith, high, least)))
          (subst (IsNext merged placed p c.loop-holder.followed) c.in-Waits.is (c.follow-step.ensures.next merged placed is graph_is p low (omega (arith, high, least))));
      later = let here = c.loop-holder.invariant.later in let next = c.follow-step.ensures.until in omega (arith, here, next, least);
    }

pub loop-holder-smaller : goal.loop-holder-smaller
loop-holder-smaller c =
    let g = c.is_graph.ensures in
    let on : FollowsOn g.0 g.1 c.args.place c.loop-holder.followed c.in-Waits.next = subst (IsNext g.0 g.1 c.args.place c.loop-holder.followed) c.in-Waits.is (c.follow-step.ensures.next g.0 g.1 g.2 g.3 c.args.place (omega arith) c.follow-step.ensures.until) in
    on.falls (c.loop-holder.invariant.leads g.0 g.1 g.2 g.3 c.args.place (omega arith) c.loop-holder.invariant.later).unwoken

pub follow-step-requires-clause-thread : goal.follow-step-requires-clause-thread
follow-step-requires-clause-thread c =
    let g = c.is_graph.ensures in
    let nz = (c.loop-holder.invariant.leads g.0 g.1 g.2 g.3 c.args.place (omega arith) c.loop-holder.invariant.later).is_thread in omega (arith, nz)

pub returns-in-Held : goal.returns-in-Held
returns-in-Held c = let least = c.min-until.ensures in
    record {
      until = let here = c.loop-holder.invariant.later in let next = c.follow-step.ensures.until in omega (arith, here, next, least);
      held = λ merged placed is graph_is p low high. (c.loop-holder.invariant.leads merged placed is graph_is p low (omega (arith, high, least))).held c.in-Held.holder
          (subst (IsNext merged placed p c.loop-holder.followed) c.in-Held.is (c.follow-step.ensures.next merged placed is graph_is p low (omega (arith, high, least))));
    }
