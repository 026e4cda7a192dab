use Rattle.std.proofs.Common.{refl}
use Rattle.hosttrace.proofs.PathTexts.{list_placed}
use Rattle.hosttrace.proofs.paths.placed_list.Goals as goal

pub returns-clause-placed : goal.returns-clause-placed
returns-clause-placed g c = list_placed (g.S.Store.holds c.args.store.now) c.args.file.now c.in_ok-trace.trace c.in_ok-trace.trace.events.items c.in_ok-placed.placed.items c.in_ok-trace.ensures.list refl c.in_ok-placed.ensures.places
