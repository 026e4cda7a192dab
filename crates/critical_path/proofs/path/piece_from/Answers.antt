use Rattle.critical_path.proofs.Keys.{held_at, place_found}
use Rattle.critical_path.proofs.path.piece_from.Goals as goal

pub returns-clause-later : goal.returns-clause-later
returns-clause-later c = c.end_of.ensures.later c.args.start c.place_at-place.result c.requires.window (place_found c.args.graph.now.keys c.args.start c.place_at-place.result c.place_at-place.ensures.found c.place_at-place.ensures.none) c.held_after-until.ensures.until

pub returns-clause-held : goal.returns-clause-held
returns-clause-held c = λ t low high merged placed is graph_is.
    held_at merged placed c.args.graph.now.keys c.args.host c.args.tid t c.held_after-until.result.until c.place_at-place.result c.held_after-until.result.holder graph_is.keys
    (c.end_of.ensures.still c.args.start c.place_at-place.result (place_found c.args.graph.now.keys c.args.start c.place_at-place.result c.place_at-place.ensures.found c.place_at-place.ensures.none) c.held_after-until.ensures.until t low high)
    (c.held_after-until.ensures.held merged placed is graph_is)
