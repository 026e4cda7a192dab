use Rattle.std.proofs.Common.{arith}
use Rattle.wait_graph.proofs.Lookups.{graph_rises}
use Rattle.critical_path.proofs.Keys.{at_the_end, key_is_later, up_to_key}
use Rattle.critical_path.proofs.path.end_of.Goals as goal

pub returns-then-until-events-clause-still : goal.returns-then-until-events-clause-still
returns-then-until-events-clause-still c = λ start place at after t low high. let until = c.if-until-events.true in let events = c.events.ensures in
    at_the_end c.args.graph.now.keys start t c.args.until place at after (omega (arith, until, events)) low

pub returns-clause-later : goal.returns-clause-later
returns-clause-later c = λ start place window at after. let key = key_is_later c.args.graph.now.keys start c.key.result c.args.until place at after c.key.ensures in let least = c.min.ensures in omega (arith, key, window, least)

pub returns-clause-still : goal.returns-clause-still
returns-clause-still c = λ start place at after t low high. let least = c.min.ensures in
    up_to_key c.args.graph.now.keys (graph_rises c.args.graph.now c.is_graph.ensures) start t c.key.result c.args.until place at after c.key.ensures low (omega (arith, high, least))
