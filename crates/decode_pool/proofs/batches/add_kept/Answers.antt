use Rattle.std.proofs.Common.{rules, ◌≡◌, ◌∷◌}
use Rattle.decode_pool.proofs.Batching.{kept_next, more_left, none_left, room_next, yields_next}
use Rattle.decode_pool.proofs.batches.add_kept.Goals as goal

pub returns-in_default-clause-more : goal.returns-in_default-clause-more
returns-in_default-clause-more c =
    let next : c.loop-part.part-iterator.rest.items ≡ c.in-Some.part ∷ c.next.new.self.rest.items = search rules in
    none_left c.args.room c.loop-part.yielded c.next.new.self.rest.items c.loop-part.part-iterator.rest.items c.args.found.items c.in-Some.part c.loop-part.invariant.2 next c.in_default.is

pub returns-then-events-left-clause-more : goal.returns-then-events-left-clause-more
returns-then-events-left-clause-more c =
    let next : c.loop-part.part-iterator.rest.items ≡ c.in-Some.part ∷ c.next.new.self.rest.items = search rules in
    more_left c.args.room c.loop-part.left c.part_events-events.result c.in-Some-part.part c.loop-part.yielded c.next.new.self.rest.items c.loop-part.part-iterator.rest.items c.args.found.items c.in-Some.part c.loop-part.invariant.2 next c.in-Some-part.is c.loop-part.invariant.1 c.if-events-left.true c.part_events-events.ensures

pub loop-part-preserved : goal.loop-part-preserved
loop-part-preserved c =
    let next : c.loop-part.part-iterator.rest.items ≡ c.in-Some.part ∷ c.next.new.self.rest.items = search rules in (
      kept_next c.in-Some-part.part c.loop-part.yielded c.args.parts.now.items c.loop-part.parts.items c.push.new.self.items c.in-Some.part c.in-Some-part.is c.loop-part.invariant.0 c.in_ok-push.ensures.items,
      room_next c.args.room c.loop-part.left c.part_events-events.result c.in-Some-part.part c.loop-part.yielded c.in-Some.part c.in-Some-part.is c.loop-part.invariant.1 c.if-events-left.false c.part_events-events.ensures,
      yields_next c.loop-part.yielded c.next.new.self.rest.items c.loop-part.part-iterator.rest.items c.args.found.items c.in-Some.part c.loop-part.invariant.2 next,
    )
