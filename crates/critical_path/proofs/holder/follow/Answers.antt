use Rattle.std.proofs.Common.{◌≡◌, subst, sym, arith}
use Rattle.std.proofs.lemmas.Option.{slice_get_within}
use Rattle.critical_path.specs.Steps.{IsNext, IsWithin}
use Rattle.critical_path.proofs.Following.{followed_by, found_on, held_unknown, state_of_none}
use Rattle.critical_path.proofs.holder.follow.Goals as goal

pub returns-in_default : goal.returns-in_default
returns-in_default c = record {
  until = omega arith;
  next = λ merged placed is graph_is p low high.
      let thread = c.requires.thread in
      let same : c.args.place ≡ p = omega (arith, low, high) in
      subst (λ n. IsNext merged placed n c.args.followed c.held.result) same (subst (IsNext merged placed c.args.place c.args.followed) (sym c.held.ensures) (held_unknown merged placed c.args.followed.host c.args.followed.tid c.args.place c.args.followed.limit
      (state_of_none merged placed c.args.graph.now graph_is c.args.followed.host c.args.followed.tid c.args.place c.requires.place (λ z. omega (arith, thread, z)) c.in_default.ensures.none)));
}

pub vertex-vertex-requires : goal.vertex-vertex-requires
vertex-vertex-requires c = let found = c.in-Some.ensures.found in slice_get_within c.args.graph.now.vertices c.in-Some.number found.0 found.1

pub returns : goal.returns
returns c = record {
  until = let place = c.requires.place in let events = c.events-events.ensures in
      c.until_of.ensures.later (found_on c.args.graph.now.vertices c.in-Some.number c.args.followed.host c.args.followed.tid c.args.place c.vertex-vertex.result c.in-Some.ensures.found c.vertex-vertex.ensures) (omega (arith, place, events));
  next = λ merged placed is graph_is p low high. c.by_state.ensures merged placed p low (c.until_of.ensures.unsent p high)
      (followed_by merged placed c.args.graph.now graph_is is.messages c.args.followed c.args.place c.in-Some.number c.vertex-vertex.result c.in-Some.ensures.found c.vertex-vertex.ensures c.until_of.result p
      (subst (λ n. IsWithin c.vertex-vertex.result.end n c.until_of.result) c.events-events.ensures c.until_of.ensures.in_stretch) low high);
}
